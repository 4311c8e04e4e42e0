-- The laws of Next, and of the two passes of a refresh, over any functions and any choice among them.
use Prim.Native.Nat.{ℕ, zero, suc, ◌+◌, ◌-◌, ◌≤◌, ◌<◌}
use mathlib.Core.Path.{◌≡◌, refl, ap, sym, ◌∙◌, subst}
use mathlib.Core.List.{List}
use mathlib.Core.Bool.{Bool, true, false}
use native.Mathlib.Omega.{arith}
use native.Mathlib.Decide.{le_ind}
use lib.Dec.{ltb, leb}
use borrow.Author.Tests.{ltb-true, ltb-false, le-leb, lt-leb}
use Rattle.hbc_io.specs.declared.Refusal.{Refusal}
use Rattle.hbc_rows.specs.Rows as rows
use Rattle.hbc_function_record.specs.declared.Found.{Found}
use Rattle.hbc_function_record.specs.Row.{width}
use Rattle.hbc_io.specs.Answer.{Answer, gives, refuses, asked}
use Rattle.hbc_function.specs.Table.{counted, step, scan, row_by, put_rows, all}
use Rattle.hbc_function.specs.Private.{Skipped, Next, Put}
use Rattle.hbc_function.proofs.Laws.{step_read, step_refused, scan_more, scan_stops, scan_done, put_none, put_next, put_skip, put_more}

-- ---- one function more

-- what holds of functions before i, and of i, holds of those up to i
pub last_or : (A : ℕ → Type 0) (i k : ℕ) (b : Bool) → ltb k i ≡ b → k < i + 1 → (k < i → A k) → A i → A k
last_or A i k true e h f g = f (ltb-true _ _ e)
last_or A i k false e h f g = let l : i ≤ k = ltb-false _ _ e in let q : i ≡ k = omega arith in subst A q g

module _ {chosen : ℕ → Bool} {from count : ℕ} where
  pub skip_none : from ≤ count → Skipped chosen from count from
  skip_none h = record { after = omega arith; within = h; none = λ k p q. absurd (omega arith) }

  pub skip_more : {i : ℕ} → Skipped chosen from count i → i < count → chosen i ≡ false → Skipped chosen from count (i + 1)
  skip_more {i} v h e =
      let a = v.after in
      record { after = omega arith; within = omega arith; none = λ k p q. last_or (λ k. chosen k ≡ false) i k (ltb k i) refl q (v.none k p) e }

  pub next_met : {i : ℕ} → Skipped chosen from count i → chosen i ≡ true → Next chosen from count i
  next_met v e = record { skipped = v; met = λ h. e }

  pub next_none : {i : ℕ} → Skipped chosen from count i → count ≤ i → Next chosen from count i
  next_none v h = record { skipped = v; met = λ l. absurd (omega arith) }

  -- what functions that are not chosen leave as it is is at r what it was at `from`
  pub same : {A : Type 0} (g : ℕ → A) → ((k : ℕ) → chosen k ≡ false → g (suc k) ≡ g k) → {r : ℕ} → Skipped chosen from count r → g r ≡ g from
  same g f {r} v = le_ind (λ (m : ℕ). m ≤ r → g m ≡ g from) (λ h. refl) (λ m k p h. f m (v.none m k (omega arith)) ∙ p (omega arith)) r v.after (omega arith)

module _ {chosen : ℕ → Bool} (f : ℕ → Answer Found) {from count r : ℕ} (v : Next chosen from count r) where
  pub scan_next : {k : ℕ} → scan chosen f from ≡ gives k → scan chosen f r ≡ gives k
  unfolding scan step
  scan_next e = same (scan chosen f) (λ k p. rw p) v.skipped ∙ e

  pub put_same : (t : List ℕ) → put_rows chosen f t r ≡ put_rows chosen f t from
  put_same t = same (put_rows chosen f t) (put_skip chosen f t) v.skipped

-- what the search for the next cites
pub ruleset nexts = (skip_none, skip_more, next_met, next_none)

-- ---- rows from one on

module _ (f : ℕ → Answer Found) (t : List ℕ) (i : ℕ) where
  pub put_from : Put (leb i) f i t t
  put_from =
      let v : Skipped (leb i) 0 i i = record { after = omega arith; within = omega arith; none = λ k p q. lt-leb i k q } in
      record { is = sym (same (put_rows (leb i) f t) (put_skip (leb i) f t) v ∙ put_none (leb i) f t) }

  pub put_one : put_rows (leb i) f t (i + 1) ≡ rows.put_row width t i (row_by (f i))
  put_one = sym (put_more put_from (le-leb i i (omega arith)) refl).is

-- the same choice puts the same rows
module _ (c d : ℕ → Bool) (f : ℕ → Answer Found) (t : List ℕ) where
  alike_by : (n : ℕ) (b : Bool) → c n ≡ b → c n ≡ d n → put_rows c f t n ≡ put_rows d f t n → put_rows c f t (suc n) ≡ put_rows d f t (suc n)
  alike_by n true e p h = put_next c f t n e ∙ ap (λ (u : List ℕ). rows.put_row width u n (row_by (f n))) h ∙ sym (put_next d f t n (sym p ∙ e))
  alike_by n false e p h = put_skip c f t n e ∙ h ∙ sym (put_skip d f t n (sym p ∙ e))

  pub put_alike : (n : ℕ) → ((i : ℕ) → i < n → c i ≡ d i) → put_rows c f t n ≡ put_rows d f t n
  put_alike zero e = put_none c f t ∙ sym (put_none d f t)
  put_alike (suc n) e = alike_by n (c n) refl (e n (omega arith)) (put_alike n (λ i h. e i (omega arith)))

pub put_whole : (f : ℕ → Answer Found) (t : List ℕ) (n : ℕ) → put_rows (leb 0) f t n ≡ put_rows all f t n
put_whole f t n = put_alike (leb 0) all f t n (λ i h. le-leb 0 i (omega arith))

-- ---- once as many are counted as there are, no more are chosen

-- what functions 0 to m - 1 count is at least n, and where it is n they leave of g what functions 0 to i - 1 leave
record Rest {A : Type 0} (g : ℕ → A) (i n m k : ℕ) : Type 0 where
  more : n ≤ k
  same_left : k ≡ n → g m ≡ g i

gives_same : {a b : ℕ} → gives a ≡ gives b → a ≡ b
gives_same e = cc

-- g is what functions that are not chosen leave as it is
module _ (chosen : ℕ → Bool) (f : ℕ → Answer Found) {A : Type 0} (g : ℕ → A) (skip : (k : ℕ) → chosen k ≡ false → g (suc k) ≡ g k) (i n : ℕ) where
  rest_chosen : (m k j : ℕ) (a : Answer Found) → Rest g i n m j → counted j a ≡ gives k → Rest g i n (suc m) k
  rest_chosen m k j (gives r) v e = let h : k ≡ j + 1 = cc in let l = v.more in record { more = omega arith; same_left = λ q. absurd (omega arith) }
  rest_chosen m k j (refuses x) v e = let z : ◌≡◌ {A = ℕ} 0 1 = cc in absurd (omega arith)

  rest_step : (m k : ℕ) (b : Bool) (o : Answer ℕ) → chosen m ≡ b → scan chosen f m ≡ o → ((j : ℕ) → scan chosen f m ≡ gives j → Rest g i n m j)
      → step b o (f m) ≡ gives k → Rest g i n (suc m) k
  unfolding step
  rest_step m k false o c d p e = let v = p k (d ∙ e) in record { more = v.more; same_left = λ q. skip m c ∙ v.same_left q }
  rest_step m k true (gives j) c d p e = rest_chosen m k j (f m) (p j d) e
  rest_step m k true (refuses x) c d p e = let z : ◌≡◌ {A = ℕ} 0 1 = cc in absurd (omega arith)

  rest : scan chosen f i ≡ gives n → (m : ℕ) → i ≤ m → (k : ℕ) → scan chosen f m ≡ gives k → Rest g i n m k
  unfolding scan
  rest e m h = le_ind (λ (m : ℕ). (k : ℕ) → scan chosen f m ≡ gives k → Rest g i n m k)
      (λ k d. let q : n ≡ k = gives_same (sym e ∙ d) in record { more = omega arith; same_left = λ u. refl })
      (λ m l p k d. rest_step m k (chosen m) (scan chosen f m) refl refl p d) m h

  pub rest_same : (m : ℕ) → i ≤ m → scan chosen f i ≡ gives n → scan chosen f m ≡ gives n → g i ≡ g m
  rest_same m h e d = sym ((rest e m h n d).same_left refl)

-- no more are counted than there are
few_by : (n : ℕ) (b : Bool) (o : Answer ℕ) (a : Answer Found) (k : ℕ) → ((j : ℕ) → o ≡ gives j → j ≤ n) → step b o a ≡ gives k → k ≤ suc n
unfolding step
few_by n false o a k p e = let h = p k e in omega arith
few_by n true (gives j) (gives f) k p e = let h = p j refl in let q : k ≡ j + 1 = cc in omega arith
few_by n true (gives j) (refuses x) k p e = let z : ◌≡◌ {A = ℕ} 0 1 = cc in absurd (omega arith)
few_by n true (refuses x) a k p e = let z : ◌≡◌ {A = ℕ} 0 1 = cc in absurd (omega arith)

pub scan_few : (chosen : ℕ → Bool) (f : ℕ → Answer Found) (n k : ℕ) → scan chosen f n ≡ gives k → k ≤ n
unfolding scan
scan_few chosen f zero k e = let q : k ≡ 0 = cc in omega arith
scan_few chosen f (suc n) k e = few_by n (chosen n) (scan chosen f n) (f n) k (λ j. scan_few chosen f n j) e

-- ---- the pass that counts

-- n of functions 0 to i - 1 are chosen and can be read; i is chosen, unless it is count
pub record Met (chosen : ℕ → Bool) (f : ℕ → Answer Found) (count i n : ℕ) : Type 0 where
  pub within : i ≤ count
  pub few : n ≤ i
  pub found : scan chosen f i ≡ gives n
  pub met : i < count → chosen i ≡ true

module _ {chosen : ℕ → Bool} {f : ℕ → Answer Found} {count : ℕ} where
  pub met_first : {r : ℕ} → Next chosen 0 count r → Met chosen f count r 0
  unfolding scan
  met_first v = record { within = v.skipped.within; few = omega arith; found = scan_next f v refl; met = v.met }

  module _ {i n : ℕ} (m : Met chosen f count i n) where
    pub met_more : {r : ℕ} → i < count → gives tt ≡ asked (f i) → Next chosen (i + 1) count r → Met chosen f count r (n + 1)
    met_more h e v =
        let a = v.skipped.after in let b = m.few in
        record { within = v.skipped.within; few = omega arith; found = scan_next f v (scan_more chosen f i n m.found (step_read n (f i) (m.met h) e)); met = v.met }

    pub met_stops : {x : Refusal} → i < count → refuses x ≡ asked (f i) → refuses x ≡ scan chosen f count
    met_stops h e = scan_stops chosen f i count n h m.found (step_refused n (f i) (m.met h) e)

    pub met_done : count ≤ i → gives n ≡ scan chosen f count
    met_done h = let w = m.within in let q : i ≡ count = omega arith in scan_done chosen f i count n q m.found

-- ---- the pass that writes

-- a chosen one is counted where no refusal is met
got_by : (chosen : ℕ → Bool) (f : ℕ → Answer Found) (i count n k : ℕ) (a : Answer Found) → a ≡ f i → i < count → chosen i ≡ true → scan chosen f count ≡ gives n
    → scan chosen f i ≡ gives k → scan chosen f (i + 1) ≡ gives (k + 1)
got_by chosen f i count n k (gives r) p h c d e = scan_more chosen f i k e (step_read k (f i) c (ap asked p))
got_by chosen f i count n k (refuses x) p h c d e =
    let stopped : refuses x ≡ scan chosen f count = scan_stops chosen f i count k h e (step_refused k (f i) c (ap asked p)) in
    let z : ◌≡◌ {A = ℕ} 0 1 = cc in absurd (omega arith)

-- of the n chosen ones all but `left` are among functions 0 to i - 1, and t is t₀ with their rows
pub record Patched (chosen : ℕ → Bool) (f : ℕ → Answer Found) (count n left i : ℕ) (t₀ t : List ℕ) : Type 0 where
  pub within : i ≤ count
  pub fits : left ≤ n
  pub found : scan chosen f i ≡ gives (n - left)
  pub put : Put chosen f i t₀ t

module _ {chosen : ℕ → Bool} {f : ℕ → Answer Found} {count n : ℕ} {t₀ : List ℕ} where
  pub patch_first : {r : ℕ} → Next chosen 0 count r → Patched chosen f count n n r t₀ t₀
  unfolding scan
  patch_first v =
      let q : 0 ≡ n - n = omega arith in
      record { within = v.skipped.within; fits = omega arith; found = scan_next f v (ap gives q); put = record { is = sym (put_same f v t₀ ∙ put_none chosen f t₀) } }

  module _ {left i : ℕ} {t : List ℕ} (w : Patched chosen f count n left i t₀ t) (d : scan chosen f count ≡ gives n) where
    in-by : (r : ℕ) (b : Bool) → ltb r count ≡ b → 0 < left → Next chosen i count r → r < count
    in-by r true e h v = ltb-true _ _ e
    in-by r false e h v =
        let a : count ≤ r = ltb-false _ _ e in let b = v.skipped.within in let q : r ≡ count = omega arith in
        let all_found : scan chosen f count ≡ gives (n - left) = rw (← q) (scan_next f v w.found) in
        let z : n - left ≡ n = gives_same (sym all_found ∙ d) in let l = w.fits in omega arith

    pub patch_in : {r : ℕ} → 0 < left → Next chosen i count r → r < count
    patch_in {r} h v = in-by r (ltb r count) refl h v

    pub patch_more : {r : ℕ} {t' : List ℕ} → 0 < left → Next chosen i count r → t' ≡ rows.put_row width t r (row_by (f r)) → Patched chosen f count n (left - 1) (r + 1) t₀ t'
    patch_more {r} {t'} h v e =
        let b = patch_in h v in let fit = w.fits in
        let q : n - left + 1 ≡ n - (left - 1) = omega arith in
        let here : Put chosen f r t₀ t = record { is = w.put.is ∙ sym (put_same f v t₀) } in
        record {
          within = omega arith;
          fits = omega arith;
          found = got_by chosen f r count n (n - left) (f r) refl b (v.met b) d (scan_next f v w.found) ∙ ap gives q;
          put = put_more here (v.met b) e;
        }

    -- what the functions that are not chosen leave as it is is at i what it is at count
    pub patch_rest : {A : Type 0} (g : ℕ → A) → ((k : ℕ) → chosen k ≡ false → g (suc k) ≡ g k) → left ≤ 0 → g i ≡ g count
    patch_rest g skip h =
        let q : n - left ≡ n = omega arith in
        rest_same chosen f g skip i n count w.within (w.found ∙ ap gives q) d

    pub patch_done : left ≤ 0 → t ≡ put_rows chosen f t₀ count
    patch_done h = w.put.is ∙ patch_rest (put_rows chosen f t₀) (put_skip chosen f t₀) h
