-- Refusal 16: at which row, and never where the totals are true.
use Rattle.hbc_io.specs.Answers.{number_of}
use Rattle.std.specs.Prelude.{Option, Some, None, Result, Ok, Err}
use Rattle.hbc_io.specs.declared.Reason.{Reason}
use Rattle.hbc_io.specs.declared.Reason.TheVariants as reason
use Prim.Native.Nat.{ℕ, zero, suc, ◌+◌, ◌*◌, ◌≤◌, ◌<◌, ◌-◌}
use mathlib.Core.Path.{◌≡◌, refl, ap, sym, ◌∙◌, subst}
use mathlib.Core.List.{List}
use mathlib.Core.Bool.{Bool, true, false, cond}
use native.Mathlib.Omega.{arith}
use native.Mathlib.Decide.{le_ind}
use lib.ListN.{length}
use lib.Dec.{ltb}
use borrow.Author.Tests.{ltb-true, ltb-false}
use Rattle.hbc_bits.proofs.Laws.{Bytes}
use Rattle.hbc_io.specs.declared.Refusal.{Refusal}
use Rattle.hbc_io.specs.Outcome.{limit}
use Rattle.hbc_io.specs.Answer.{Answer, gives, refuses, refused_at, and_then}
use Rattle.hbc_io.specs.Lends.{below}
use Rattle.hbc_io.proofs.Exits.{not_given, given, reached}
use Rattle.hbc_rows.specs.Rows.{row_at}
use Rattle.hbc_function_record.specs.declared.Layout.{Layout}
use Rattle.hbc_function_record.specs.declared.Found.{Found}
use Rattle.hbc_function_record.specs.Record.{large_of}
use Rattle.hbc_function_record.specs.Row.{width}
use Rattle.hbc_function_header.specs.declared.Ground.{Ground}
use Rattle.hbc_function_header.specs.declared.Ground.TheVariants as ground
use Rattle.hbc_function_header.specs.Header.{header_at, ground_of, where_of, where_at, found, record_at, function_at}
use Rattle.hbc_function_header.specs.Meets.{meets}
use Rattle.hbc_function_totals.specs.declared.Share.{Share}
use Rattle.hbc_function_totals.specs.declared.Totals.{Totals}
use Rattle.hbc_function_totals.specs.Totals.{most, share_of, exchanged, next, kept}
use Rattle.hbc_function.specs.Table.{step, scan, share_by, Table}
use Rattle.hbc_function.specs.Refresh.{held, kept_met, if_kept, left_by, refreshed_by, refresh_answer, RefreshFunctions}
use Rattle.hbc_function.proofs.Sums.{held_short}
use Rattle.hbc_claims_function.specs.Totals.{True, Fails, large_below, sizes_below, large_above, sizes_above, Stopped, Passed}
use Rattle.hbc_claims_function.specs.Written.{Words}
use Rattle.hbc_claims_function.proofs.Scans.{scan_each, scan_front}
use Rattle.hbc_claims_function.proofs.Totals.{large_word, size_word_lem, words_sized, kept_true}
use Rattle.hbc_claims_function.proofs.Accepted.{refreshable}
use Rattle.hbc_claims_function.proofs.Refreshed.{past_tests}

-- ---- no read is refused 16

number_is : {A : Type 0} {k i : ℕ} {x : Refusal} → ◌≡◌ {A = Answer A} (refused_at k i) (refuses x) → x.number ≡ k
number_is e = cc

abbrev Small : Result (Option ℕ) Reason → Type 0
Small (Ok p) = Unit {0}
Small (Err k) = number_of k ≤ 3

small_by : (p : ℕ) (a b : Bool) → Small (cond a (Err reason.PastEnd) (cond b (Err reason.Cut) (Ok (Some p))))
small_by p true b = omega arith
small_by p false true = omega arith
small_by p false false = tt

small : (s : List ℕ) (n : ℕ) (g : Option Ground) → Small (where_of s n g)
unfolding where_of below
small s n None = omega arith
small s n (Some (ground.Inline at)) = tt
small s n (Some (ground.Large at place)) = small_by place (ltb (length s) place) (ltb (length s) (place + n))

found_number : (s : List ℕ) (layout : Layout) (at i : ℕ) (w : Result (Option ℕ) Reason) {x : Refusal} → Small w → found s layout at i w ≡ refuses x → x.number ≤ 3
found_number s layout at i (Ok None) h e = absurd (not_given (sym e))
found_number s layout at i (Ok (Some place)) h e = absurd (not_given (sym e))
found_number s layout at i (Err k) h e = let q = number_is e in omega arith

function_number : (s : List ℕ) (layout : Layout) (start i : ℕ) {x : Refusal} → function_at s layout start i ≡ refuses x → x.number ≤ 3
unfolding function_at record_at where_at
function_number s layout start i e =
    found_number s layout (header_at layout start i) i (where_at s layout (header_at layout start i)) (small s (large_of layout) (ground_of s layout (header_at layout start i))) e

module _ (chosen : ℕ → Bool) (f : ℕ → Answer Found) (h : (i : ℕ) (x : Refusal) → f i ≡ refuses x → x.number ≤ 3) where
  step_number : (n : ℕ) (b : Bool) (o : Answer ℕ) (a : Answer Found) {x : Refusal} → a ≡ f n → ((y : Refusal) → o ≡ refuses y → y.number ≤ 3) → step b o a ≡ refuses x
      → x.number ≤ 3
  unfolding step
  step_number n false o a {x} q p e = p x e
  step_number n true (gives k) (gives r) q p e = absurd (not_given (sym e))
  step_number n true (gives k) (refuses y) {x} q p e = let z : y ≡ x = cc in subst (λ (w : Refusal). w.number ≤ 3) z (h n y (sym q))
  step_number n true (refuses y) a {x} q p e = p x e

  scan_number : (n : ℕ) {x : Refusal} → scan chosen f n ≡ refuses x → x.number ≤ 3
  unfolding scan
  scan_number zero e = absurd (not_given (sym e))
  scan_number (suc n) e = step_number n (chosen n) (scan chosen f n) (f n) refl (λ y q. scan_number n q) e

-- ---- a refresh that is refused 16 came past every test and every read

passed : {A : Type 0} (a b k i : ℕ) (o : Answer A) {x : Refusal} → (k ≡ 16 → ⊥) → x.number ≡ 16 → below a b (refused_at k i) o ≡ refuses x → (b ≤ a) × (o ≡ refuses x)
unfolding below
passed a b k i o {x} n e p = by (ltb a b) refl p
  where
    by : (t : Bool) → ltb a b ≡ t → cond t (refused_at k i) o ≡ refuses x → (b ≤ a) × (o ≡ refuses x)
    by true h p = absurd (n (sym (number_is p) ∙ e))
    by false h p = (ltb-false a b h, p)

pub record Late (s : List ℕ) (layout : Layout) (start count low high : ℕ) (t : Table) (x : Refusal) : Type 0 where
  pub short : length s ≤ limit
  pub begins : start ≤ length s
  pub rises : low ≤ high
  pub ends : high ≤ length s
  pub holds : count * width ≤ length t.rows
  pub fits : count ≤ held s layout start
  pub number : ℕ
  pub scans : scan (meets s layout start low high) (function_at s layout start) count ≡ gives number
  pub keeps : kept_met s layout start low high t count ≡ refuses x

if_refused : (n : ℕ) (k : Answer Totals) {x : Refusal} → if_kept n k ≡ refuses x → k ≡ refuses x
if_refused n (gives t) e = absurd (not_given (sym e))
if_refused n (refuses y) {x} e = let q : y ≡ x = cc in ap refuses q

then_refused : (a : Answer ℕ) (k : Answer Totals) {x : Refusal} → (a ≡ refuses x → ⊥) → and_then a (λ n. if_kept n k) ≡ refuses x → ((n : ℕ) × (a ≡ gives n)) × (k ≡ refuses x)
then_refused (gives n) k h e = ((n, refl), if_refused n k e)
then_refused (refuses y) k {x} h e = let q : y ≡ x = cc in absurd (h (ap refuses q))

late : (s : List ℕ) (layout : Layout) (start count low high : ℕ) (t : Table) {x : Refusal} → x.number ≡ 16 → refresh_answer s layout start count low high t ≡ refuses x
    → Late s layout start count low high t x
unfolding refresh_answer
late s layout start count low high t {x} n e =
    let a = passed _ _ 1 0 _ (λ q. omega arith) n e in
    let b = passed _ _ 2 0 _ (λ q. omega arith) n a.1 in
    let c = passed _ _ 10 0 _ (λ q. omega arith) n b.1 in
    let d = passed _ _ 10 0 _ (λ q. omega arith) n c.1 in
    let f = passed _ _ 4 0 _ (λ q. omega arith) n d.1 in
    let g = passed _ _ 3 _ _ (λ q. omega arith) n f.1 in
    let u = then_refused (scan (meets s layout start low high) (function_at s layout start) count) (kept_met s layout start low high t count)
    (λ q. let z = scan_number (meets s layout start low high) (function_at s layout start) (λ i y. function_number s layout start i) count q in omega arith) g.1 in
    record { short = a.0; begins = b.0; rises = c.0; ends = d.0; holds = f.0; fits = g.0; number = u.0.0; scans = u.0.1; keeps = u.1 }

-- true totals are not refused
pub totals_fit : (s : List ℕ) (layout : Layout) (start count low high : ℕ) (t t' : Table) (x : Refusal) → Bytes s → Words t.rows → True t count
    → RefreshFunctions s layout start count low high t (Err x) t' → x.number ≡ 16 → ⊥
totals_fit s layout start count low high t t' x b w v p n =
    let l = late s layout start count low high t n (sym p.says) in
    let h = held_short s layout start in let f = l.fits in let m = l.short in
    let k = kept_true s layout start count low high t b (words_sized t.rows count w) v (omega arith) in
    not_given (sym l.keeps ∙ k.1)

-- ---- the row at which it stops

-- row `at` is the first that cannot be exchanged
record Halts (chosen : ℕ → Bool) (old new : ℕ → Share) (before : Totals) (n : ℕ) (x : Refusal) : Type 0 where
  at : ℕ
  within : at < n
  met : chosen at ≡ true
  now : Totals
  keeps : kept chosen old new before at ≡ gives now
  refused : exchanged at now (old at) (new at) ≡ refuses x

module _ (chosen : ℕ → Bool) (old new : ℕ → Share) (before : Totals) {x : Refusal} where
  earlier : (n : ℕ) → Halts chosen old new before n x → Halts chosen old new before (suc n) x
  earlier n v = let h = v.within in record { at = v.at; within = omega arith; met = v.met; now = v.now; keeps = v.keeps; refused = v.refused }

  halts_by : (n : ℕ) (b : Bool) (a : Answer Totals) → chosen n ≡ b → kept chosen old new before n ≡ a → (a ≡ refuses x → Halts chosen old new before n x)
      → next b a (λ now. exchanged n now (old n) (new n)) ≡ refuses x → Halts chosen old new before (suc n) x
  unfolding next
  halts_by n false a c k p e = earlier n (p e)
  halts_by n true (gives now) c k p e = record { at = n; within = omega arith; met = c; now = now; keeps = k; refused = e }
  halts_by n true (refuses y) c k p e = earlier n (p e)

  halts : (n : ℕ) → kept chosen old new before n ≡ refuses x → Halts chosen old new before n x
  unfolding kept
  halts zero e = absurd (not_given (sym e))
  halts (suc n) e = halts_by n (chosen n) (kept chosen old new before n) refl refl (halts n) e

-- ---- why it does

refused_by : {A P : Type 0} (a b k i : ℕ) (o : Answer A) {x : Refusal} → (a < b → P) → (o ≡ refuses x → (x.place ≡ i) × P) → below a b (refused_at k i) o ≡ refuses x
    → (x.place ≡ i) × P
unfolding below
refused_by {A} {P} a b k i o {x} f g e = by (ltb a b) refl e
  where
    by : (t : Bool) → ltb a b ≡ t → cond t (refused_at k i) o ≡ refuses x → (x.place ≡ i) × P
    by true h p = (cc, f (ltb-true a b h))
    by false h p = g p

fails_as : (i : ℕ) (now : Totals) (old new : Share) {x : Refusal} → exchanged i now old new ≡ refuses x
    → (x.place ≡ i) × Fails now old.large old.size new.large new.size
unfolding exchanged
fails_as i now old new e =
    refused_by _ _ 16 i _ large_below (refused_by _ _ 16 i _ sizes_below (refused_by _ _ 16 i _ (λ h. large_above (omega arith))
    (refused_by _ _ 16 i _ (λ h. sizes_above (omega arith)) (λ q. absurd (not_given (sym q)))))) e

fails_by : {u v : Totals} {a a' b b' c d : ℕ} → u ≡ v → a ≡ a' → b ≡ b' → Fails u a b c d → Fails v a' b' c d
fails_by {u} {v} {a} {a'} {b} {b'} {c} {d} e f g p =
    subst (λ (y : ℕ). Fails v a' y c d) g (subst (λ (y : ℕ). Fails v y b c d) f (subst (λ (y : Totals). Fails y a b c d) e p))

both_given : (a : Answer ℕ) (b : Answer Totals) {k : ℕ} {now : Totals} → a ≡ gives k → b ≡ gives now → gives k ≡ and_then a (λ n. if_kept n b)
both_given a b {k} e f = sym (ap (λ (x : Answer ℕ). and_then x (λ n. if_kept n b)) e ∙ ap (if_kept k) f)

stopped_at : (s : List ℕ) (layout : Layout) (start count low high : ℕ) (t : Table) (x : Refusal) → Late s layout start count low high t x
    → Stopped s layout start count low high t x.place
stopped_at s layout start count low high t x l =
    let chosen = meets s layout start low high in
    let f = function_at s layout start in
    let v = halts chosen (λ i. share_of (row_at width t.rows i)) (λ i. share_by (f i)) t.totals count l.keeps in
    let i : ℕ = v.at in
    let w = fails_as i v.now (share_of (row_at width t.rows i)) (share_by (f i)) v.refused in
    let q : i < count = v.within in
    let m = scan_front chosen f i count l.number (omega arith) l.scans in
    let h = l.holds in let g = l.fits in
    let a = past_tests s layout start i low high t l.short l.begins l.rises l.ends (omega arith) (omega arith) in
    subst (Stopped s layout start count low high t) (sym w.0) (record {
      within = q;
      met = v.met;
      read = λ j o c. scan_each chosen f count l.number j o l.scans c;
      k = m.0;
      before = refreshed_by s layout start i low high t;
      first = given refl (both_given (scan chosen f i) (kept_met s layout start low high t i) m.1 v.keeps ∙ a) refl;
      fails = fails_by (sym (ap (λ (y : Answer Totals). left_by y t.totals) v.keeps)) (large_word t.rows i) (size_word_lem t.rows i) w.1;
    })

pub totals_stopped : (s : List ℕ) (layout : Layout) (start count low high : ℕ) (t t' : Table) (x : Refusal)
    → RefreshFunctions s layout start count low high t (Err x) t' → x.number ≡ 16 → Stopped s layout start count low high t x.place
totals_stopped s layout start count low high t t' x p n = stopped_at s layout start count low high t x (late s layout start count low high t n (sym p.says))

-- ---- a refresh that is accepted came past every row

next_before : (b : Bool) (a : Answer Totals) (f : Totals → Answer Totals) {t : Totals} → next b a f ≡ gives t → (x : Totals) × (a ≡ gives x)
unfolding next
next_before false a f {t} e = (t, e)
next_before true (gives x) f e = (x, refl)
next_before true (refuses y) f e = absurd (not_given e)

this_given : (a : Answer Totals) (f : Totals → Answer Totals) {x t : Totals} → a ≡ gives x → next true a f ≡ gives t → f x ≡ gives t
unfolding next
this_given a f e p = sym (ap (λ (y : Answer Totals). next true y f) e) ∙ p

module _ (chosen : ℕ → Bool) (old new : ℕ → Share) (before : Totals) where
  kept_front : (i n : ℕ) {t : Totals} → i ≤ n → kept chosen old new before n ≡ gives t → (x : Totals) × (kept chosen old new before i ≡ gives x)
  unfolding kept
  kept_front i n {t} h e =
      le_ind (λ (j : ℕ). (y : Totals) → kept chosen old new before j ≡ gives y → (x : Totals) × (kept chosen old new before i ≡ gives x)) (λ y q. (y, q))
      (λ j o p y q. let b = next_before (chosen j) (kept chosen old new before j) (λ now. exchanged j now (old j) (new j)) q in p b.0 b.1) n h t e

  exchanged_at : (i : ℕ) {x t : Totals} → chosen i ≡ true → kept chosen old new before i ≡ gives x → kept chosen old new before (suc i) ≡ gives t
      → exchanged i x (old i) (new i) ≡ gives t
  unfolding kept
  exchanged_at i c e p = this_given (kept chosen old new before i) (λ now. exchanged i now (old i) (new i)) e (sym (ap (λ (b : Bool). next b (kept chosen old new before i) (λ now. exchanged i now (old i) (new i))) c) ∙ p)

none_by : (now : Totals) (o p n m : ℕ) → o ≤ now.large → p ≤ now.sizes → now.large - o + n ≤ most → now.sizes - p + m ≤ most → Fails now o p n m → ⊥
none_by now o p n m a b c d (large_below h) = omega arith
none_by now o p n m a b c d (sizes_below h) = omega arith
none_by now o p n m a b c d (large_above h) = omega arith
none_by now o p n m a b c d (sizes_above h) = omega arith

none_fails : (i : ℕ) (now : Totals) (old new : Share) {t : Totals} → exchanged i now old new ≡ gives t → Fails now old.large old.size new.large new.size → ⊥
unfolding exchanged
none_fails i now old new e =
    let a = reached _ _ _ _ not_given e in
    let b = reached _ _ _ _ not_given a.1 in
    let c = reached _ _ _ _ not_given b.1 in
    let d = reached _ _ _ _ not_given c.1 in
    none_by now old.large old.size new.large new.size a.0 b.0 c.0 d.0

pub totals_passed : (s : List ℕ) (layout : Layout) (start count low high k : ℕ) (t t' : Table) → RefreshFunctions s layout start count low high t (Ok k) t'
    → (i : ℕ) → i < count → meets s layout start low high i ≡ true → Passed s layout start low high t i
totals_passed s layout start count low high k t t' p i h c =
    let chosen = meets s layout start low high in
    let f = function_at s layout start in
    let old : ℕ → Share = λ j. share_of (row_at width t.rows j) in
    let new : ℕ → Share = λ j. share_by (f j) in
    let l = refreshable s layout start count low high t k (sym p.says) in
    let v = kept_front chosen old new t.totals i count (omega arith) l.keeps in
    let u = kept_front chosen old new t.totals (suc i) count (omega arith) l.keeps in
    let e = exchanged_at chosen old new t.totals i c v.1 u.1 in
    let m = scan_front chosen f i count k (omega arith) l.scans in
    let q = l.holds in let g = l.fits in
    let a = past_tests s layout start i low high t l.short l.begins l.rises l.ends (omega arith) (omega arith) in
    record {
      k = m.0;
      before = refreshed_by s layout start i low high t;
      first = given refl (both_given (scan chosen f i) (kept_met s layout start low high t i) m.1 v.1 ∙ a) refl;
      fits = λ w. none_fails i v.0 (old i) (new i) e
          (fails_by (ap (λ (y : Answer Totals). left_by y t.totals) v.1) (sym (large_word t.rows i)) (sym (size_word_lem t.rows i)) w);
    }
