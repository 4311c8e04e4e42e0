-- A table read from a, then refreshed with b, which is the same outside the span, is as a fresh read of b would be, in answer and in every word.
use Rattle.std.specs.Prelude.{Result, Ok, Err}
use Rattle.hbc_io.specs.Answers.{answered}
use Rattle.hbc_io.specs.declared.Refusal.{Refusal}
use Prim.Native.Nat.{ℕ, ◌+◌, ◌*◌, ◌≤◌, ◌<◌}
use mathlib.Core.Path.{◌≡◌, refl, ap, sym, ◌∙◌}
use mathlib.Core.List.{List}
use mathlib.Core.Bool.{Bool, true, false, cond}
use native.Mathlib.Omega.{arith}
use lib.ListN.{length, get_or}
use lib.Dec.{ltb}
use borrow.Author.Tests.{ltb-true, ltb-false, le-ltb}
use Rattle.hbc_bits.proofs.Laws.{Bytes}
use Rattle.hbc_io.specs.Outcome.{limit}
use Rattle.hbc_function_record.specs.declared.Layout.{Layout}
use Rattle.hbc_function_record.specs.declared.Found.{Found}
use Rattle.hbc_io.specs.Answer.{Answer, gives, asked, and_then}
use Rattle.hbc_io.specs.Lends.{below}
use Rattle.hbc_io.proofs.Exits.{not_given}
use Rattle.hbc_function_header.specs.Header.{function_at}
use Rattle.hbc_function_record.specs.Row.{width}
use Rattle.hbc_function_header.specs.Meets.{meets}
use Rattle.hbc_function.specs.Table.{scan, put_rows, all, Table, read_answer, ReadFunctions}
use Rattle.hbc_function.specs.Refresh.{held, kept_met, if_kept, refresh_answer, RefreshFunctions}
use Rattle.hbc_function.proofs.ByFile.{kept_scan}
use Rattle.hbc_function.proofs.Laws.{put_length, scanned, word_at}
use Rattle.hbc_function.proofs.Sums.{held_short}
use Rattle.hbc_claims_law.specs.Terms.{Same}
use Rattle.hbc_claims_function.proofs.Function.{function_same}
use Rattle.hbc_claims_function.proofs.Words.{word_kept, word_past, by_words}
use Rattle.hbc_claims_function.proofs.Scans.{a_record, scan_each, scan_whole, alike, all_held}
use Rattle.hbc_claims_function.proofs.Accepted.{accepted, refreshable}
use Rattle.hbc_claims_function.proofs.Totals.{Sized, true_same, totals_read, totals_kept, words_sized, kept_true}
use Rattle.hbc_claims_function.specs.Accepted.{Accepted}
use Rattle.hbc_claims_function.specs.Totals.{True}
use Rattle.hbc_claims_function.specs.Written.{Words}
use Rattle.hbc_claims_function.specs.Refreshed.{AsFresh}

-- ---- the answers

held_same : (a b : List ℕ) (layout : Layout) (start count : ℕ) → length a ≡ length b → count ≤ held a layout start → count ≤ held b layout start
unfolding held
held_same a b layout start count e k = rw (← e) k

-- past every test: what is scanned, and whether the totals can be kept, is the answer
pub past_tests : (s : List ℕ) (layout : Layout) (start count low high : ℕ) (t : Table) → length s ≤ limit → start ≤ length s → low ≤ high → high ≤ length s
    → count * width ≤ length t.rows → count ≤ held s layout start
    → and_then (scan (meets s layout start low high) (function_at s layout start) count) (λ n. if_kept n (kept_met s layout start low high t count))
    ≡ refresh_answer s layout start count low high t
unfolding refresh_answer below
past_tests s layout start count low high t a b c d f g = sym (simp (le-ltb _ _ a, le-ltb _ _ b, le-ltb _ _ c, le-ltb _ _ d, le-ltb _ _ f, le-ltb _ _ g))

-- a was read whole, and b is as long
module _ (a b : List ℕ) (layout : Layout) (start count words : ℕ) (long : length a ≡ length b) (p : Accepted a layout start count words) where
  short : length b ≤ limit
  short = rw (← long) p.short

  begins : start ≤ length b
  begins = rw (← long) p.begins

  -- a refresh with b, of a table with true totals, says what is scanned
  pub scan_says : (low high : ℕ) (t : Table) → low ≤ high → high ≤ length b → Bytes b → Sized t.rows count → True t count → length t.rows ≡ words
      → scan (meets b layout start low high) (function_at b layout start) count ≡ refresh_answer b layout start count low high t
  scan_says low high t l h bytes w y n =
      let h5 : count * width ≤ length t.rows = rw n p.holds in
      let h6 = held_same a b layout start count long (all_held a layout start count p.number p.begins p.scans) in
      let h7 = held_short b layout start in let h1 = short in
      let k = kept_true b layout start count low high t bytes w y (omega arith) in
      sym (kept_scan (scan (meets b layout start low high) (function_at b layout start) count) (kept_met b layout start low high t count) k.1)
      ∙ past_tests b layout start count low high t short begins l h h5 h6

  -- and a read of b what is scanned of some, if the others are known to be read
  pub read_says : (chosen : ℕ → Bool) (f : ℕ → Answer Found) (k : ℕ) → scan all f count ≡ gives k → ((i : ℕ) → chosen i ≡ false → f i ≡ function_at b layout start i)
      → asked (scan chosen (function_at b layout start) count) ≡ read_answer b layout start count words
  read_says chosen f k e same = sym (alike chosen f (function_at b layout start) same count k e) ∙ scanned b layout start count words short begins p.holds

-- a fresh read of b answers as the refresh does, but for the count
pub same_answer : {a b : List ℕ} {low high : ℕ} → Same a b low high → low ≤ high → high ≤ length b → (layout : Layout) (start count words : ℕ) (t : Table)
    → Bytes b → Words t.rows → True t count → length t.rows ≡ words → read_answer a layout start count words ≡ gives tt
    → read_answer b layout start count words ≡ asked (refresh_answer b layout start count low high t)
same_answer {a} {b} {low} {high} v l h layout start count words t bytes w y n e =
    let p = accepted a layout start count words e in
    sym (read_says a b layout start count words v.long p (meets b layout start low high) (function_at a layout start) p.number p.scans (λ i m. function_same v i layout start m))
    ∙ ap asked (scan_says a b layout start count words v.long p low high t l h bytes (words_sized t.rows count w) y n)

-- ---- the tables

-- the chosen of fb, and the others of fa
abbrev pub mix : (ℕ → Bool) → (ℕ → Answer Found) → (ℕ → Answer Found) → ℕ → Answer Found
mix chosen fa fb i = cond (chosen i) (fb i) (fa i)

-- fa's rows, and over them the chosen of fb's, are the rows of both, where all that is put can be read
module _ (chosen : ℕ → Bool) (fa fb : ℕ → Answer Found) (n k m : ℕ) (e : scan chosen fb n ≡ gives k) (all_read : scan all fa n ≡ gives m) where
  mix_read : (i : ℕ) → i < n → (b : Bool) → chosen i ≡ b → asked (cond b (fb i) (fa i)) ≡ gives tt
  mix_read i o true p = scan_each chosen fb n k i o e p
  mix_read i o false p = scan_each all fa n m i o all_read refl

  pub mix_scan : (j : ℕ) × (scan all (mix chosen fa fb) n ≡ gives j)
  mix_scan = scan_whole (mix chosen fa fb) n (λ i o. mix_read i o (chosen i) refl)

  module _ (t : List ℕ) (h : n * width ≤ length t) where
    mix_by : (i c : ℕ) → c < width → (lt : Bool) → ltb i n ≡ lt → (b : Bool) → chosen i ≡ b
        → get_or (put_rows chosen fb (put_rows all fa t n) n) (i * width + c) 0 ≡ get_or (put_rows all (mix chosen fa fb) t n) (i * width + c) 0
    mix_by i c q false l b p =
        let o : n ≤ i = ltb-false i n l in
        word_past chosen fb (put_rows all fa t n) n i c q o ∙ word_past all fa t n i c q o ∙ sym (word_past all (mix chosen fa fb) t n i c q o)
    mix_by i c q true l true p =
        let o : i < n = ltb-true i n l in
        let r = a_record (fb i) (scan_each chosen fb n k i o e p) in
        word_at chosen fb (put_rows all fa t n) n i c r.0 (rw (put_length all fa t n) h) o q p r.1
        ∙ sym (word_at all (mix chosen fa fb) t n i c r.0 h o q refl (ap (λ (x : Bool). cond x (fb i) (fa i)) p ∙ r.1))
    mix_by i c q true l false p =
        let o : i < n = ltb-true i n l in
        let r = a_record (fa i) (scan_each all fa n m i o all_read refl) in
        word_kept chosen fb (put_rows all fa t n) n i c q p ∙ word_at all fa t n i c r.0 h o q refl r.1
        ∙ sym (word_at all (mix chosen fa fb) t n i c r.0 h o q refl (ap (λ (x : Bool). cond x (fb i) (fa i)) p ∙ r.1))

    pub mixed : put_rows chosen fb (put_rows all fa t n) n ≡ put_rows all (mix chosen fa fb) t n
    mixed =
        by_words (put_rows chosen fb (put_rows all fa t n) n) (put_rows all (mix chosen fa fb) t n)
        (put_length chosen fb (put_rows all fa t n) n ∙ put_length all fa t n ∙ sym (put_length all (mix chosen fa fb) t n))
        (λ i c q. mix_by i c q (ltb i n) refl (chosen i) refl)

    -- which are fb's, where fa and fb are the same but for the chosen
    pub over : ((i : ℕ) → chosen i ≡ false → fa i ≡ fb i) → put_rows chosen fb (put_rows all fa t n) n ≡ put_rows all fb t n
    over same = mixed ∙ ap (λ (f : ℕ → Answer Found). put_rows all f t n) (λ j i. one i (chosen i) refl j)
      where
        one : (i : ℕ) (b : Bool) → chosen i ≡ b → cond b (fb i) (fa i) ≡ fb i
        one i true p = refl
        one i false p = same i p

-- ---- the theorem, over the promises alone: t₀ is what the read of a leaves, t₁ its rows with true totals

pub rows_by : (a : List ℕ) (layout : Layout) (start count : ℕ) {t t₀ : Table} {rows : List ℕ} → ReadFunctions a layout start count t (Ok tt) t₀ → rows ≡ t₀.rows
    → rows ≡ put_rows all (function_at a layout start) t.rows count
rows_by a layout start count p e = e ∙ ap (λ (x : Table). x.rows) p.leaves

module _ {a b : List ℕ} {low high : ℕ} (v : Same a b low high) (layout : Layout) (start count : ℕ) {t t₀ t₁ t₂ t₃ : Table}
    (p : ReadFunctions a layout start count t (Ok tt) t₀) (rows : t₁.rows ≡ t₀.rows) (true-before : True t₁ count) where
  refreshed_is : {n : ℕ} → ReadFunctions b layout start count t (Ok tt) t₂ → RefreshFunctions b layout start count low high t₁ (Ok n) t₃ → t₃ ≡ t₂
  refreshed_is {n} f g =
      let x = accepted a layout start count (length t.rows) (sym p.says) in
      let y = refreshable b layout start count low high t₁ n (sym g.says) in
      true_same
      (ap (λ (u : Table). u.rows) g.leaves
      ∙ ap (λ (u : List ℕ). put_rows (meets b layout start low high) (function_at b layout start) u count) (rows_by a layout start count p rows)
      ∙ over (meets b layout start low high) (function_at a layout start) (function_at b layout start) count n x.number y.scans x.scans t.rows x.holds
      (λ i m. function_same v i layout start m)
      ∙ sym (ap (λ (u : Table). u.rows) f.leaves))
      (totals_kept b layout start count low high n t₁ t₃ g true-before) (totals_read b layout start count t t₂ f)

  by_case : (r : Result (Unit {0}) Refusal) (q : Result ℕ Refusal) → answered r ≡ asked (answered q) → ReadFunctions b layout start count t r t₂
      → RefreshFunctions b layout start count low high t₁ q t₃ → AsFresh r t₂ t₁ q t₃
  by_case (Ok tt) (Ok n) e f g = record {
    when_read = λ h. (n, refl, refreshed_is f g);
    when_refused = λ x h. let z : ◌≡◌ {A = ℕ} 0 1 = cc in absurd (omega arith);
    only_read = λ m h. refl;
    only_refused = λ x h. let z : ◌≡◌ {A = ℕ} 0 1 = cc in absurd (omega arith);
  }
  by_case (Err y) (Err w) e f g = record {
    when_read = λ h. let z : ◌≡◌ {A = ℕ} 0 1 = cc in absurd (omega arith);
    when_refused = λ x h. (cc, g.leaves);
    only_read = λ m h. let z : ◌≡◌ {A = ℕ} 0 1 = cc in absurd (omega arith);
    only_refused = λ x h. cc;
  }
  by_case (Ok tt) (Err w) e f g = absurd (not_given (sym e))
  by_case (Err y) (Ok n) e f g = absurd (not_given e)

  -- one equation for the four directions
  pub answers : {r : Result (Unit {0}) Refusal} {q : Result ℕ Refusal} → low ≤ high → high ≤ length b → Bytes b → Words t₁.rows → ReadFunctions b layout start count t r t₂
      → RefreshFunctions b layout start count low high t₁ q t₃ → answered r ≡ asked (answered q)
  answers l h bytes w f g =
      let n : length t₁.rows ≡ length t.rows = ap length (rows_by a layout start count p rows) ∙ put_length all (function_at a layout start) t.rows count in
      f.says ∙ same_answer v l h layout start count (length t.rows) t₁ bytes w true-before n (sym p.says) ∙ ap asked (sym g.says)

  pub refreshed_as_fresh : {r : Result (Unit {0}) Refusal} {q : Result ℕ Refusal} → low ≤ high → high ≤ length b → Bytes b → Words t₁.rows → ReadFunctions b layout start count t r t₂
      → RefreshFunctions b layout start count low high t₁ q t₃ → AsFresh r t₂ t₁ q t₃
  refreshed_as_fresh {r} {q} l h bytes w f g = by_case r q (answers l h bytes w f g) f g
