-- The laws of the totals: while rows are read and written, and when a refresh is settled.
use Prim.Native.Nat.{ℕ, suc, ◌+◌, ◌*◌, ◌-◌, ◌≤◌, ◌<◌}
use mathlib.Core.Path.{◌≡◌, refl, ap, sym, ◌∙◌, subst}
use mathlib.Core.List.{List}
use mathlib.Core.Bool.{Bool, true, false, cond}
use native.Mathlib.Omega.{arith}
use native.Mathlib.Nat.{div-le_self}
use lib.ListN.{length, take, drop}
use lib.Dec.{leb, ltb, eqb}
use borrow.Author.Tests.{le-leb, lt-leb, leb-true, ltb-true, ltb-false, eqb-true}
use Rattle.hbc_io.specs.declared.Refusal.{Refusal}
use Rattle.hbc_io.specs.Outcome.{limit}
use Rattle.hbc_io.specs.Answer.{Answer, gives, refuses, asked, and_then}
use Rattle.hbc_io.specs.Plain.{word_at}
use Rattle.hbc_io.specs.Answers.{answered}
use Rattle.hbc_io.specs.Lends.{Lends}
use Rattle.std.specs.Prelude.{Result, Ok, Err}
use Rattle.hbc_io.proofs.Exits.{given, refused, not_given}
use Rattle.hbc_rows.specs.Rows.{row_at, put_row}
use Rattle.hbc_rows.proofs.RowsAt.{row_here, row_apart, ends}
use Rattle.hbc_function_record.specs.declared.Layout.{Layout}
use Rattle.hbc_function_record.specs.declared.Found.{Found}
use Rattle.hbc_function_record.specs.Record.{size_of}
use Rattle.hbc_function_record.specs.Row.{width, row_words, inline_found}
use Rattle.hbc_function_record.proofs.Rows.{words_length}
use Rattle.hbc_function_header.specs.Header.{header_at, function_at, row_of}
use Rattle.hbc_function_totals.specs.declared.Share.{Share}
use Rattle.hbc_function_totals.specs.declared.Totals.{Totals}
use Rattle.hbc_function_totals.specs.Totals.{share_of, share, totals, sum, sums, exchanged, kept}
use Rattle.hbc_function_totals.proofs.Sums.{sum_more, sum_skip, sum_same, sum_alike}
use Rattle.hbc_function_totals.proofs.Kepts.{kept_more, kept_skip, kept_stays, kept_safe}
use Rattle.hbc_function_header.specs.Meets.{meets}
use Rattle.hbc_function.specs.Table.{scan, all, row_by, share_by, put_rows, Table, lent, totals_of, summed}
use Rattle.hbc_function.specs.Refresh.{held, put_met, kept_met, if_kept, left_by, refreshed_by}
use Rattle.hbc_function.specs.Private.{Next, shares, Summed, Ran, Solid, with_old, Roomy, Safe, Settled}
use Rattle.hbc_function.proofs.Laws.{short_by, row_at_lem, put_long, put_skip, put_more, step_read, step_refused, scan_more, scan_stops}
use Rattle.hbc_function.proofs.Passes.{last_or, same, scan_next, rest_same, put_alike, put_from, put_whole, Patched, patch_in, patch_rest}

-- ---- the share of a row of a table

pub share_part : (t : List ℕ) (i : ℕ) {x : Share} → x ≡ share_of (take (i * width + width - i * width) (drop (i * width) t)) → x ≡ shares t i
unfolding row_at
share_part t i e = let n : i * width + width - i * width ≡ width = omega arith in e ∙ ap (λ (k : ℕ). share_of (take k (drop (i * width) t))) n

-- of one that was put by an answer that gives it
put_by : (a : Answer Found) (f : Found) (t : List ℕ) (i : ℕ) {t' : List ℕ} → gives f ≡ a → i * width + width ≤ length t → t' ≡ put_row width t i (row_by a)
    → row_at width t' i ≡ row_words f
put_by a f t i g h e = ap (λ (u : List ℕ). row_at width u i) (e ∙ ap (λ (b : Answer Found). put_row width t i (row_by b)) (sym g)) ∙ row_here width t i (row_words f) (words_length f) h

pub plain_share : (s : List ℕ) (layout : Layout) (start i : ℕ) {size : ℕ} {x : Share} {words : List ℕ} (t : List ℕ) {t' : List ℕ} → i * width + width ≤ length t
    → size ≡ size_of layout → words ≡ row_words (inline_found layout i (word_at (size_of layout) s (start + i * size)))
    → gives (inline_found layout i (word_at (size_of layout) s (header_at layout start i))) ≡ function_at s layout start i
    → t' ≡ put_row width t i (row_by (function_at s layout start i)) → x ≡ share_of words → x ≡ shares t' i
plain_share s layout start i t h e w g p q =
    q ∙ ap share_of (w ∙ ap (λ (n : ℕ). row_words (inline_found layout i (word_at (size_of layout) s (start + i * n)))) e ∙ sym (put_by (function_at s layout start i) _ t i g h p))

-- of a row among those that were put
module _ (chosen : ℕ → Bool) (f : ℕ → Answer Found) (t : List ℕ) where
  row_given : (n i : ℕ) (a : Answer Found) → a ≡ f i → i < n → chosen i ≡ true → asked a ≡ gives tt → n * width ≤ length t
      → shares (put_rows chosen f t n) i ≡ share_by a
  row_given n i (gives x) p l c r h = ap share_of (row_at_lem chosen f t n i x h l c (sym p))
  row_given n i (refuses y) p l c r h = absurd (not_given r)

-- ---- sums so far

module _ (chosen : ℕ → Bool) (f : ℕ → Share) where
  pub summed_first : {count r : ℕ} (m : ℕ) → Next chosen 0 count r → Summed chosen f r m 0 0
  unfolding sum
  summed_first m v = record {
    large_is = sym (same (sum chosen (λ k. (f k).large)) (sum_skip chosen (λ k. (f k).large)) v.skipped);
    sizes_is = sym (same (sum chosen (λ k. (f k).size)) (sum_skip chosen (λ k. (f k).size)) v.skipped);
    large_most = omega arith;
    sizes_most = omega arith;
  }

  -- up to the next that is chosen
  pub summed_next : {from count r m large sizes : ℕ} → Next chosen from count r → Summed chosen f from m large sizes → Summed chosen f r m large sizes
  summed_next v w = record {
    large_is = w.large_is ∙ sym (same (sum chosen (λ k. (f k).large)) (sum_skip chosen (λ k. (f k).large)) v.skipped);
    sizes_is = w.sizes_is ∙ sym (same (sum chosen (λ k. (f k).size)) (sum_skip chosen (λ k. (f k).size)) v.skipped);
    large_most = w.large_most;
    sizes_most = w.sizes_most;
  }

  -- and one that is
  pub summed_more : {i m large sizes : ℕ} {x : Share} → Summed chosen f i m large sizes → chosen i ≡ true → x ≡ f i → x.large ≤ 4294967295 → x.size ≤ 4294967295
      → Summed chosen f (i + 1) (m + 1) (large + x.large) (sizes + x.size)
  summed_more {i} {m} {large} {sizes} {x} w c e a b =
      let l = w.large_is in let s = w.sizes_is in let u = w.large_most in let v = w.sizes_most in
      let p = ap (λ (y : Share). y.large) e in let q = ap (λ (y : Share). y.size) e in
      let y = sum_more chosen (λ k. (f k).large) i c in let z = sum_more chosen (λ k. (f k).size) i c in
      record { large_is = omega arith; sizes_is = omega arith; large_most = omega arith; sizes_most = omega arith }

  -- at most as many, counted otherwise
  pub summed_by : {i m n large sizes : ℕ} → Summed chosen f i m large sizes → m ≤ n → Summed chosen f i n large sizes
  summed_by w h =
      let a = w.large_most in let b = w.sizes_most in
      record { large_is = w.large_is; sizes_is = w.sizes_is; large_most = omega arith; sizes_most = omega arith }

  totals_by : {i m large sizes : ℕ} → Summed chosen f i m large sizes → totals large sizes ≡ sums chosen f i
  totals_by {i} {large = large} {sizes = sizes} w =
      ap (λ (x : ℕ). totals x sizes) w.large_is ∙ ap (totals (sum chosen (λ k. (f k).large) i)) w.sizes_is

  pub summed_done : {i n m large sizes : ℕ} → i ≡ n → Summed chosen f i m large sizes → totals large sizes ≡ sums chosen f n
  summed_done {large = large} {sizes = sizes} e w = totals_by w ∙ ap (sums chosen f) e

-- ---- rows that are written

-- rows before the one that is put add what they added
pub summed_put : (chosen : ℕ → Bool) (t : List ℕ) (i : ℕ) (row : List ℕ) {t' : List ℕ} {m large sizes : ℕ} → i * width + width ≤ length t → length row ≤ width
    → t' ≡ put_row width t i row → Summed chosen (shares t) i m large sizes → Summed chosen (shares t') i m large sizes
summed_put chosen t i row {t'} h short e w =
    let as_it_was : (k : ℕ) → k < i → shares t k ≡ shares t' k = λ k l.
    let z = ends width k i l in
    ap share_of (sym (ap (λ (u : List ℕ). row_at width u k) e ∙ row_apart width t i row k short (omega arith) (λ q. omega arith))) in
    record {
      large_is = w.large_is ∙ sum_same chosen _ _ i (λ k l c. ap (λ (x : Share). x.large) (as_it_was k l));
      sizes_is = w.sizes_is ∙ sum_same chosen _ _ i (λ k l c. ap (λ (x : Share). x.size) (as_it_was k l));
      large_most = w.large_most;
      sizes_most = w.sizes_most;
    }

-- none from i on so far
pub summed_from : (f : ℕ → Share) (i m : ℕ) → Summed (leb i) f i m 0 0
summed_from f i m = summed_first (leb i) f {count = i} m (record {
  skipped = record { after = omega arith; within = omega arith; none = λ k p q. lt-leb i k q };
  met = λ h. absurd (omega arith);
})

-- the totals of one row are its share
pub one_share : (f : ℕ → Share) (i : ℕ) {r : Totals} → r ≡ sums (leb i) f (i + 1) → share r.large r.sizes ≡ f i
one_share f i {r} e =
    let w = summed_from f i 0 in let a = w.large_is in let b = w.sizes_is in
    let c = sum_more (leb i) (λ k. (f k).large) i (le-leb i i (omega arith)) in let d = sum_more (leb i) (λ k. (f k).size) i (le-leb i i (omega arith)) in
    let x = ap (λ (t : Totals). t.large) e in let y = ap (λ (t : Totals). t.sizes) e in
    let l : r.large ≡ (f i).large = omega arith in let s : r.sizes ≡ (f i).size = omega arith in
    ap (λ (n : ℕ). share n r.sizes) l ∙ ap (share (f i).large) s

-- ---- a run of rows

module _ (f : ℕ → Answer Found) (from to : ℕ) (t : List ℕ) where
  pub ran_none : from ≤ to → Ran f from to t from 0 0 t
  ran_none h = record {
    after = omega arith;
    within = h;
    large_most = omega arith;
    sizes_most = omega arith;
    puts = λ b t₀ l v. v;
    sums = λ b m l s k w. let ll = w.large_is in let ss = w.sizes_is in let lm = w.large_most in let sm = w.sizes_most in
        record { large_is = omega arith; sizes_is = omega arith; large_most = omega arith; sizes_most = omega arith };
  }

  module _ {i large sizes : ℕ} {u : List ℕ} (w : Ran f from to t i large sizes u) where
    -- the table is as long as it was
    pub ran_long : length u ≡ length t
    ran_long = put_long (w.puts from t (omega arith) (put_from f t from))

    pub ran_more : {u' : List ℕ} {x : Share} → i < to → to * width ≤ length t → u' ≡ put_row width u i (row_by (f i)) → x ≡ shares u' i
        → x.large ≤ 4294967295 → x.size ≤ 4294967295 → Ran f from to t (i + 1) (large + x.large) (sizes + x.size) u'
    ran_more {u'} {x} h k e p a c =
        let z = w.after in let lm = w.large_most in let sm = w.sizes_most in let n = ran_long in
        record {
          after = omega arith;
          within = omega arith;
          large_most = omega arith;
          sizes_most = omega arith;
          puts = λ b t₀ l v. put_more (w.puts b t₀ l v) (le-leb b i (omega arith)) e;
          sums = λ b m l s j v.
              let y = summed_more (leb b) (shares u')
              (summed_put (leb b) u i (row_by (f i)) (omega arith) (short_by (f i)) e (w.sums b m l s j v)) (le-leb b i (omega arith)) p a c in
              let yl = y.large_is in let ys = y.sizes_is in let ylm = y.large_most in let ysm = y.sizes_most in
              record { large_is = omega arith; sizes_is = omega arith; large_most = omega arith; sizes_most = omega arith };
        }

-- ---- a table that was read

pub read_lent : (f : ℕ → Answer Found) (t : List ℕ) (n : ℕ) {t' : List ℕ} {r : Totals} → t' ≡ put_rows (leb 0) f t n → r ≡ sums (leb 0) (shares t') n
    → lent t' r.large r.sizes ≡ summed (put_rows all f t n) n
read_lent f t n {t'} {r} e p =
    let always : (i : ℕ) → i < n → leb 0 i ≡ all i = λ i h. le-leb 0 i (omega arith) in
    let large : r.large ≡ (totals_of t' n).large = ap (λ (x : Totals). x.large) p ∙ sum_alike (leb 0) all _ n always in
    let sizes : r.sizes ≡ (totals_of t' n).sizes = ap (λ (x : Totals). x.sizes) p ∙ sum_alike (leb 0) all _ n always in
    let whole : totals_of t' n ≡ (summed t' n).totals = refl in
    ap (λ (x : ℕ). lent t' x r.sizes) large ∙ ap (lent t' (totals_of t' n).large) sizes ∙ ap (λ (x : Totals). record { rows = t'; totals = x }) whole
    ∙ ap (λ (u : List ℕ). summed u n) (e ∙ put_whole f t n)

-- ---- the first pass of a refresh

pub old_stops : {x : Refusal} {a : Answer ℕ} (t : Totals) → refuses x ≡ a → refuses x ≡ with_old a t
old_stops t e = ap (λ (b : Answer ℕ). with_old b t) e

pub old_done : {chosen : ℕ → Bool} {f : ℕ → Share} {a : Answer ℕ} {n i count large sizes : ℕ} → gives n ≡ a → i ≡ count → Summed chosen f i n large sizes
    → gives (n, totals large sizes) ≡ with_old a (sums chosen f count)
old_done {chosen} {f} {n = n} {count = count} e h w = ap (λ (t : Totals). gives (n, t)) (summed_done chosen f h w) ∙ ap (λ (b : Answer ℕ). with_old b (sums chosen f count)) e

-- ---- the share of a function

-- of a row that was all zeros, and not large
pub share_new : (a : Answer Found) (before : List ℕ) {row : List ℕ} {x : Share} → row ≡ row_of a before → x ≡ share_of row → share 0 0 ≡ share_of before → x ≡ share_by a
share_new (gives f) before e p z = p ∙ ap share_of e
share_new (refuses y) before e p z = p ∙ ap share_of e ∙ sym z

-- ---- the pass that keeps the totals

-- the rows of functions 0 to i - 1 that are chosen can be exchanged, which makes these totals; i is chosen, unless it is count
pub record Keeping (chosen : ℕ → Bool) (old new : ℕ → Share) (before : Totals) (count i : ℕ) (now : Totals) : Type 0 where
  pub within : i ≤ count
  pub kept_now : kept chosen old new before i ≡ gives now
  pub met : i < count → chosen i ≡ true

module _ {chosen : ℕ → Bool} {old new : ℕ → Share} {before : Totals} {count : ℕ} where
  keep_next : {from r : ℕ} {now : Totals} → Next chosen from count r → kept chosen old new before from ≡ gives now → Keeping chosen old new before count r now
  keep_next v e = record {
    within = v.skipped.within;
    kept_now = same (kept chosen old new before) (kept_skip chosen old new before) v.skipped ∙ e;
    met = v.met;
  }

  pub keep_first : {r : ℕ} → Next chosen 0 count r → Keeping chosen old new before count r before
  unfolding kept
  keep_first v = keep_next v refl

  module _ {i : ℕ} {now : Totals} (w : Keeping chosen old new before count i now) where
    pub keep_more : {r : ℕ} {t : Totals} → i < count → gives t ≡ exchanged i now (old i) (new i) → Next chosen (i + 1) count r → Keeping chosen old new before count r t
    keep_more h e v = keep_next v (kept_more chosen old new before i (w.met h) w.kept_now e)

    pub keep_stops : {x : Refusal} → i < count → refuses x ≡ exchanged i now (old i) (new i) → refuses x ≡ kept chosen old new before count
    keep_stops h e = sym (kept_stays chosen old new before (i + 1) count (omega arith) (kept_more chosen old new before i (w.met h) w.kept_now e))

    pub keep_done : count ≤ i → gives now ≡ kept chosen old new before count
    keep_done h = let l = w.within in let q : i ≡ count = omega arith in sym w.kept_now ∙ ap (kept chosen old new before) q

-- over shares that are those of the rows
pub exchanged_by : (i : ℕ) (now : Totals) {x y u v : Share} {o : Answer Totals} → o ≡ exchanged i now x y → x ≡ u → y ≡ v → o ≡ exchanged i now u v
exchanged_by i now {y = y} {u = u} e p q = e ∙ ap (λ (z : Share). exchanged i now z y) p ∙ ap (exchanged i now u) q

-- ---- the pass that writes

sums_skip : (chosen : ℕ → Bool) (f : ℕ → Share) (k : ℕ) → chosen k ≡ false → sums chosen f (suc k) ≡ sums chosen f k
sums_skip chosen f k e =
    ap (λ (x : ℕ). totals x (sum chosen (λ i. (f i).size) (suc k))) (sum_skip chosen (λ i. (f i).large) k e)
    ∙ ap (totals (sum chosen (λ i. (f i).large) k)) (sum_skip chosen (λ i. (f i).size) k e)

module _ (chosen : ℕ → Bool) (f : ℕ → Answer Found) {count n : ℕ} {t₀ : List ℕ} {left i : ℕ} {t : List ℕ}
    (w : Patched chosen f count n left i t₀ t) (d : scan chosen f count ≡ gives n) where
  share_by_lem : (r : ℕ) (a : Answer Found) {t' : List ℕ} → a ≡ f r → r < count → Next chosen i count r → r * width + width ≤ length t → t' ≡ put_row width t r (row_by a)
      → shares t' r ≡ share_by a
  share_by_lem r (gives x) p b v h e = ap share_of (put_by (gives x) x t r refl h e)
  share_by_lem r (refuses x) p b v h e =
      let stopped : refuses x ≡ scan chosen f count = scan_stops chosen f r count (n - left) b (scan_next f v w.found) (step_refused (n - left) (f r) (v.met b) (ap asked p)) in
      absurd (not_given (stopped ∙ d))

  pub patch_summed : {r large sizes : ℕ} {t' : List ℕ} {x : Share} → 0 < left → Next chosen i count r → r * width + width ≤ length t
      → t' ≡ put_row width t r (row_by (f r)) → x ≡ shares t' r → x.large ≤ 4294967295 → x.size ≤ 4294967295
      → Summed chosen (λ k. share_by (f k)) i (n - left) large sizes
      → Summed chosen (λ k. share_by (f k)) (r + 1) (n - (left - 1)) (large + x.large) (sizes + x.size)
  patch_summed {r} {large} {sizes} h v l e p a b u =
      let z = patch_in w d h v in let fit = w.fits in
      let q : n - left + 1 ≡ n - (left - 1) = omega arith in
      let s = summed_more chosen (λ k. share_by (f k)) (summed_next chosen (λ k. share_by (f k)) v u) (v.met z) (p ∙ share_by_lem r (f r) refl z v l e) a b in
      record { large_is = s.large_is; sizes_is = s.sizes_is; large_most = rw (← q) s.large_most; sizes_most = rw (← q) s.sizes_most }

  pub patch_sums : {large sizes : ℕ} → left ≤ 0 → Summed chosen (λ k. share_by (f k)) i (n - left) large sizes
      → totals large sizes ≡ sums chosen (λ k. share_by (f k)) count
  patch_sums h u = summed_done chosen _ refl u ∙ patch_rest w d (sums chosen (λ k. share_by (f k))) (sums_skip chosen (λ k. share_by (f k))) h

-- ---- rows that follow one another without a gap

module _ {chosen : ℕ → Bool} {f : ℕ → Answer Found} {first count : ℕ} where
  pub solid_first : Next chosen 0 count first → Solid chosen f first count first
  unfolding scan
  solid_first v = record {
    after = omega arith;
    within = v.skipped.within;
    none = λ k h. v.skipped.none k (omega arith) h;
    each = λ k h l. absurd (omega arith);
    read = λ k h l. absurd (omega arith);
    counts = scan_next f v refl ∙ ap gives (let q : 0 ≡ first - first = omega arith in q);
  }

  pub solid_more : {e : ℕ} → Solid chosen f first count e → e < count → chosen e ≡ true → gives tt ≡ asked (f e) → Solid chosen f first count (e + 1)
  solid_more {e} v h c r = record {
    after = omega (arith, v.after);
    within = omega arith;
    none = v.none;
    each = λ k a l. last_or (λ k. chosen k ≡ true) e k (ltb k e) refl l (v.each k a) c;
    read = λ k a l. last_or (λ k. gives tt ≡ asked (f k)) e k (ltb k e) refl l (v.read k a) r;
    counts = scan_more chosen f e (e - first) v.counts (step_read (e - first) (f e) c r) ∙ ap gives (let a = v.after in let q : e - first + 1 ≡ e + 1 - first = omega arith in q);
  }

  step_by : (e i : ℕ) {e' r : ℕ} (b : Bool) → eqb i e ≡ b → Solid chosen f first count e → e ≤ i → i < count → chosen i ≡ true → gives tt ≡ asked (f i)
      → e' ≡ cond b (i + 1) e → i + 1 ≤ r → Solid chosen f first count e' × (e' ≤ r)
  step_by e i true h v l k c q p z =
      let y : i ≡ e = eqb-true i e h in let x : e + 1 ≡ i + 1 = omega arith in
      (subst (Solid chosen f first count) (x ∙ sym p) (solid_more v (omega arith) (rw (← y) c) (rw (← y) q)), omega arith)
  step_by e i false h v l k c q p z = (subst (Solid chosen f first count) (sym p) v, omega arith)

  pub solid_step : {e i e' r : ℕ} → Solid chosen f first count e × (e ≤ i) → i < count → chosen i ≡ true → gives tt ≡ asked (f i)
      → e' ≡ cond (eqb i e) (i + 1) e → i + 1 ≤ r → Solid chosen f first count e' × (e' ≤ r)
  solid_step {e} {i} v k c q p z = step_by e i (eqb i e) refl v.0 v.1 k c q p z

  module _ {e : ℕ} (v : Solid chosen f first count e) where
    solid_by : (i : ℕ) (b : Bool) → ltb i first ≡ b → i < e → chosen i ≡ leb first i
    solid_by i true h l = v.none i (ltb-true _ _ h) ∙ sym (lt-leb first i (ltb-true _ _ h))
    solid_by i false h l = let z : first ≤ i = ltb-false _ _ h in v.each i z l ∙ sym (le-leb first i z)

    solid_alike : (i : ℕ) → i < e → chosen i ≡ leb first i
    solid_alike i l = solid_by i (ltb i first) refl l

    module _ {n : ℕ} (q : e - first ≡ n) (d : scan chosen f count ≡ gives n) where
      solid_rest : {A : Type 0} (g : ℕ → A) → ((k : ℕ) → chosen k ≡ false → g (suc k) ≡ g k) → g e ≡ g count
      solid_rest g skip = rest_same chosen f g skip e n count v.within (v.counts ∙ ap gives q) d

      pub solid_put : (t : List ℕ) → put_rows (leb first) f t e ≡ put_rows chosen f t count
      solid_put t = sym (put_alike chosen (leb first) f t e solid_alike) ∙ solid_rest (put_rows chosen f t) (put_skip chosen f t)

      -- the row of each is its function's
      solid_share : (t : List ℕ) {t' : List ℕ} → count * width ≤ length t → t' ≡ put_rows (leb first) f t e → (i : ℕ) → i < e → chosen i ≡ true → shares t' i ≡ share_by (f i)
      solid_share t h p i l c =
          let a : first ≤ i = leb-true first i (sym (solid_alike i l) ∙ c) in
          let r = row_given (leb first) f t e i (f i) refl l (le-leb first i a) (sym (v.read i a l)) (omega (arith, v.within)) in
          ap (λ (u : List ℕ). shares u i) p ∙ r

      pub solid_sums : (t : List ℕ) {t' : List ℕ} {r : Totals} → count * width ≤ length t → t' ≡ put_rows (leb first) f t e → r ≡ sums (leb first) (shares t') e
          → r ≡ sums chosen (λ k. share_by (f k)) count
      solid_sums t {t'} {r} h p w =
          let same_large : sum (leb first) (λ k. (shares t' k).large) e ≡ sum chosen (λ k. (share_by (f k)).large) e =
          sym (sum_alike chosen (leb first) _ e solid_alike) ∙ sum_same chosen _ _ e (λ i l c. ap (λ (x : Share). x.large) (solid_share t h p i l c)) in
          let same_sizes : sum (leb first) (λ k. (shares t' k).size) e ≡ sum chosen (λ k. (share_by (f k)).size) e =
          sym (sum_alike chosen (leb first) _ e solid_alike) ∙ sum_same chosen _ _ e (λ i l c. ap (λ (x : Share). x.size) (solid_share t h p i l c)) in
          w ∙ ap (λ (x : ℕ). totals x (sum (leb first) (λ k. (shares t' k).size) e)) same_large ∙ ap (totals (sum chosen (λ k. (share_by (f k)).large) e)) same_sizes
          ∙ solid_rest (sums chosen (λ k. share_by (f k))) (sums_skip chosen (λ k. share_by (f k)))

-- ---- where no total can fall below 0 or go above the most

pub not_safe : (large sizes : ℕ) (old : Totals) → Safe large sizes old false
not_safe large sizes old e = let z : ◌≡◌ {A = ℕ} 0 1 = cc in absurd (omega arith)

-- ---- a refresh is settled

-- what the first pass says of the functions and of the old rows
number_in : Answer (ℕ × Totals) → ℕ
number_in (gives p) = p.0
number_in (refuses x) = 0

old_in : Totals → Answer (ℕ × Totals) → Totals
old_in t (gives p) = p.1
old_in t (refuses x) = t

pub checked_met : (a : Answer ℕ) (t : Totals) {old : Totals} {n : ℕ} → gives (n, old) ≡ with_old a t → (a ≡ gives n) × (old ≡ t)
unfolding number_in old_in
checked_met (gives m) t e = (sym (ap (λ (x : Answer (ℕ × Totals)). gives (number_in x)) e), ap (old_in t) e)
checked_met (refuses x) t e = absurd (not_given (sym e))

pub checked_refused : (a : Answer ℕ) (t : Totals) {x : Refusal} → refuses x ≡ with_old a t → a ≡ refuses x
checked_refused (gives m) t e = absurd (not_given e)
checked_refused (refuses y) t {x} e = let p : y ≡ x = cc in ap refuses p

module _ (s : List ℕ) (layout : Layout) (start count low high n : ℕ) (before : Table) where
  settle_by : {t' : List ℕ} {now : Totals} → t' ≡ put_met s layout start low high before.rows count → kept_met s layout start low high before count ≡ gives now
      → Settled s layout start count low high n before (Ok n) (lent t' now.large now.sizes)
  settle_by {t'} {now} e k = given refl (sym (ap (if_kept n) k))
      (ap (λ (u : List ℕ). lent u now.large now.sizes) e
      ∙ ap (λ (t : Totals). lent (put_met s layout start low high before.rows count) t.large t.sizes) (sym (ap (λ (a : Answer Totals). left_by a before.totals) k)))

  pub settle_kept : {t' : List ℕ} {now : Totals} → t' ≡ put_met s layout start low high before.rows count → gives now ≡ kept_met s layout start low high before count
      → Settled s layout start count low high n before (Ok n) (lent t' now.large now.sizes)
  settle_kept e k = settle_by e (sym k)

  pub settle_safe : {t' : List ℕ} {old new : Totals} → t' ≡ put_met s layout start low high before.rows count
      → old ≡ sums (meets s layout start low high) (shares before.rows) count
      → new ≡ sums (meets s layout start low high) (λ i. share_by (function_at s layout start i)) count
      → Roomy before.totals.large before.totals.sizes old → new.large ≤ limit * 4294967295 → new.sizes ≤ limit * 4294967295
      → Settled s layout start count low high n before (Ok n)
      (lent t' (before.totals.large - old.large + new.large) (before.totals.sizes - old.sizes + new.sizes))
  settle_safe {t'} {old} {new} e p q v h k =
      let ol = ap (λ (t : Totals). t.large) p in let os = ap (λ (t : Totals). t.sizes) p in
      let nl = ap (λ (t : Totals). t.large) q in let ns = ap (λ (t : Totals). t.sizes) q in
      let a = v.large_out in let b = v.sizes_out in let c = v.large_in in let d = v.sizes_in in
      settle_by e (kept_safe (meets s layout start low high) (shares before.rows) (λ i. share_by (function_at s layout start i)) before.totals count
      (record { large = omega arith; sizes = omega arith; large_most = omega arith; sizes_most = omega arith })
      ∙ ap gives (ap (λ (t : Totals). totals (before.totals.large - t.large + (sums (meets s layout start low high) (λ i. share_by (function_at s layout start i)) count).large)
      (before.totals.sizes - t.sizes + (sums (meets s layout start low high) (λ i. share_by (function_at s layout start i)) count).sizes)) (sym p)
      ∙ ap (λ (t : Totals). totals (before.totals.large - old.large + t.large) (before.totals.sizes - old.sizes + t.sizes)) (sym q)))

  pub settle_refused : {x : Refusal} → refuses x ≡ kept_met s layout start low high before count → Settled s layout start count low high n before (Err x) before
  settle_refused e = refused refl (ap (if_kept n) e)

  -- past every read: what is settled is the answer
  pub settled : {r : Result ℕ Refusal} {after : Table} → scan (meets s layout start low high) (function_at s layout start) count ≡ gives n
      → Settled s layout start count low high n before r after
      → Lends answered
      (and_then (scan (meets s layout start low high) (function_at s layout start) count) (λ m. if_kept m (kept_met s layout start low high before count)))
      (refreshed_by s layout start count low high before) before r after
  settled e v = record {
    says = v.says ∙ sym (ap (λ (a : Answer ℕ). and_then a (λ m. if_kept m (kept_met s layout start low high before count))) e);
    leaves = v.leaves;
  }

  pub stopped : {x : Refusal} → scan (meets s layout start low high) (function_at s layout start) count ≡ refuses x
      → Lends answered
      (and_then (scan (meets s layout start low high) (function_at s layout start) count) (λ m. if_kept m (kept_met s layout start low high before count)))
      (refreshed_by s layout start count low high before) before (Err x) before
  stopped e = refused refl (sym (ap (λ (a : Answer ℕ). and_then a (λ m. if_kept m (kept_met s layout start low high before count))) e))

-- no more headers fit than the file has bytes
pub held_short : (s : List ℕ) (layout : Layout) (start : ℕ) → held s layout start ≤ length s
unfolding held
held_short s layout start = let h = div-le_self (length s - start) (size_of layout) in omega arith
