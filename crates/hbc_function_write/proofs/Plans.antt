-- The check: rows one after another, and the first that is refused.
use Prim.Native.Nat.{ℕ, zero, suc, ◌+◌, ◌≤◌, ◌<◌}
use mathlib.Core.Path.{◌≡◌, refl, sym, ◌∙◌}
use mathlib.Core.List.{List}
use Rattle.std.specs.Prelude.{Option, Some, None}
use mathlib.Core.Bool.{Bool, true, false, cond}
use native.Mathlib.Omega.{arith}
use native.Mathlib.Numerals.{add-one}
use native.Mathlib.Decide.{le_ind}
use lib.Dec.{ltb}
use borrow.Author.Tests.{ltb-true, ltb-false}
use Rattle.hbc_io.specs.declared.Refusal.{Refusal}
use Rattle.hbc_io.specs.Outcome.{refusal_at}
use Rattle.hbc_io.specs.Answer.{Answer, gives, refuses, refused_at, and_then}
use Rattle.hbc_io.proofs.Exits.{not_given}
use Rattle.hbc_rows.specs.Rows.{row_at}
use Rattle.hbc_function_record.specs.declared.Layout.{Layout}
use Rattle.hbc_function_record.specs.Record.{large_of}
use Rattle.hbc_function_record.specs.Row.{width}
use Rattle.hbc_function_bytes.specs.Bytes.{goes_inline, right_row}
use Rattle.hbc_function_write.specs.declared.Plan.{Plan}
use Rattle.hbc_function_write.specs.Write.{rounded, free_at, place_at, end_at, says_end, right_end, checked, follows, right_rows}
use Rattle.hbc_function_write.specs.Private.{earlier, first, plan_of, large_plan, looked_at, next_plan}

-- ---- the plan

pub with_late : (layout : Layout) (w : List ℕ) (i : ℕ) (p : Plan) {a n m : ℕ} {l : Option ℕ} → a ≡ rounded p.free → n ≡ large_of layout → m ≡ rounded (a + n)
    → l ≡ earlier p.late (cond (says_end layout w m) None (Some i)) → record { free = a + n; end = a + n; late = l } ≡ large_plan layout w i p
unfolding large_plan
with_late layout w i p o q g e = rw (e, g, o, q)

module _ (layout : Layout) (w : List ℕ) (i : ℕ) (p : Plan) where
  pub looked_wrong : right_row layout i w ≡ false → None ≡ looked_at layout w i p
  unfolding looked_at
  looked_wrong e = rw e

  pub looked_next : {q : Plan} → right_row layout i w ≡ true → q ≡ large_plan layout w i p → Some q ≡ looked_at layout w i p
  unfolding looked_at
  looked_next e f = rw (e, f)

  wrong_by : (b : Bool) → None ≡ cond b (Some (large_plan layout w i p)) None → b ≡ false
  wrong_by true e = let z : ◌≡◌ {A = ℕ} 0 1 = cc in absurd (omega arith)
  wrong_by false e = refl

  next_is : {q : Plan} (b : Bool) → Some q ≡ cond b (Some (large_plan layout w i p)) None → (b ≡ true) × (q ≡ large_plan layout w i p)
  next_is true e = (refl, cc)
  next_is false e = let z : ◌≡◌ {A = ℕ} 0 1 = cc in absurd (omega arith)

  pub is_wrong : {r : Option Plan} → r ≡ None → r ≡ looked_at layout w i p → right_row layout i w ≡ false
  unfolding looked_at
  is_wrong f e = wrong_by (right_row layout i w) (sym f ∙ e)

  pub is_next : {r : Option Plan} {q : Plan} → r ≡ Some q → r ≡ looked_at layout w i p → (right_row layout i w ≡ true) × (q ≡ large_plan layout w i p)
  unfolding looked_at
  is_next f e = next_is (right_row layout i w) (sym f ∙ e)

  pub plan_inline : goes_inline layout w ≡ true → p ≡ next_plan layout w i p
  unfolding next_plan
  plan_inline e = rw e

  pub plan_large : {q : Plan} → goes_inline layout w ≡ false → q ≡ large_plan layout w i p → q ≡ next_plan layout w i p
  unfolding next_plan
  plan_large e h = rw e h

kept : (o : Option ℕ) → o ≡ earlier o None
kept (Some k) = refl
kept None = refl

module _ (layout : Layout) (f : ℕ → List ℕ) (large table : ℕ) where
  next_by : (i : ℕ) (c : Bool) → goes_inline layout (f i) ≡ c → cond c (plan_of layout f large table i) (large_plan layout (f i) i (plan_of layout f large table i))
      ≡ plan_of layout f large table (suc i)
  unfolding plan_of large_plan free_at end_at place_at first right_end
  next_by i true e =
      rw e (λ j. record {
        free = free_at layout f large i;
        end = end_at layout f large table i;
        late = kept (first (right_end layout f large) i) j;
      })
  next_by i false e = rw e

  -- one row more
  pub plan_next : (i : ℕ) {p q : Plan} {w : List ℕ} → p ≡ plan_of layout f large table i → w ≡ f i → q ≡ next_plan layout w i p → q ≡ plan_of layout f large table (i + 1)
  unfolding next_plan
  plan_next i a b d = d ∙ rw (b, a, add-one i) (next_by i (goes_inline layout (f i)) refl)

-- ---- the first row that is refused

module _ (k : ℕ) (p : ℕ → Bool) where
  pub checked_more : (i : ℕ) → checked k p i ≡ gives tt → p i ≡ true → checked k p (i + 1) ≡ gives tt
  unfolding checked
  checked_more i h e = rw (add-one i, h, e)

  refused_here : (i : ℕ) → checked k p i ≡ gives tt → p i ≡ false → checked k p (suc i) ≡ refused_at k i
  unfolding checked
  refused_here i h e = rw (h, e)

  refused_on : (x : Refusal) (n : ℕ) → checked k p n ≡ refuses x → checked k p (suc n) ≡ refuses x
  unfolding checked
  refused_on x n h = rw h

  -- it stays the first
  pub refused_first : (i n : ℕ) → i < n → checked k p i ≡ gives tt → p i ≡ false → checked k p n ≡ refused_at k i
  refused_first i n h a e =
      le_ind (λ (m : ℕ). checked k p m ≡ refused_at k i) (refused_here i a e) (λ m l q. refused_on (refusal_at k i) m q) n h

  -- what is told of the first, if there is one
  abbrev told : Option ℕ → Answer (Unit {0})
  told (Some i) = refused_at k i
  told None = gives tt

  first_by : (n : ℕ) (o : Option ℕ) → checked k p n ≡ told o → (d : Bool)
      → ◌≡◌ {A = Answer (Unit {0})} (and_then (checked k p n) (λ u. cond d (gives tt) (refused_at k n))) (told (earlier o (cond d None (Some n))))
  first_by n (Some i) q d = rw q
  first_by n None q true = rw q
  first_by n None q false = rw q

  -- looked for row by row
  pub first_checked : (n : ℕ) → checked k p n ≡ told (first p n)
  unfolding checked first
  first_checked zero = refl
  first_checked (suc n) = first_by n (first p n) (first_checked n) (p n)

  -- a test that is the same of every row
  pub checked_same : (q : ℕ → Bool) (n : ℕ) → ((i : ℕ) → i < n → p i ≡ q i) → checked k p n ≡ checked k q n
  unfolding checked
  checked_same q zero h = refl
  checked_same q (suc n) h = rw (checked_same q n (λ i l. h i (omega arith)), h n (omega arith))

-- ---- no row is refused

-- what follows a test of all rows that was passed
pub through : {A : Type 0} (a : Answer (Unit {0})) (o : Answer A) {e : A} → follows a o ≡ gives e → (a ≡ gives tt) × (o ≡ gives e)
unfolding follows
through (gives u) o h = (refl, h)
through (refuses x) o h = absurd (not_given h)

test_by : (b : Bool) (x : Refusal) → ◌≡◌ {A = Answer (Unit {0})} (cond b (gives tt) (refuses x)) (gives tt) → b ≡ true
test_by true x h = refl
test_by false x h = absurd (not_given h)

step_by : (a : Answer (Unit {0})) (b : Bool) (x : Refusal) → ◌≡◌ {A = Answer (Unit {0})} (and_then a (λ u. cond b (gives tt) (refuses x))) (gives tt)
    → (a ≡ gives tt) × (b ≡ true)
step_by (gives u) b x h = (refl, test_by b x h)
step_by (refuses y) b x h = absurd (not_given h)

pub last_or : (p : ℕ → Bool) (i n : ℕ) (b : Bool) → ltb i n ≡ b → i < suc n → (i < n → p i ≡ true) → p n ≡ true → p i ≡ true
last_or p i n true e h f l = f (ltb-true i n e)
last_or p i n false e h f l = let k : n ≤ i = ltb-false i n e in let q : i ≡ n = omega arith in rw q l

pub all_checked : (k : ℕ) (p : ℕ → Bool) (n i : ℕ) → i < n → checked k p n ≡ gives tt → p i ≡ true
unfolding checked
all_checked k p zero i h e = absurd (omega arith)
all_checked k p (suc n) i h e =
    let t = step_by (checked k p n) (p n) (refusal_at k n) e in
    last_or p i n (ltb i n) refl h (λ l. all_checked k p n i l t.0) t.1

-- ---- all rows

module _ {A : Type 0} (rows : List ℕ) (layout : Layout) (count large : ℕ) (o : Answer A) where
  pub wrong_row : (i : ℕ) → i < count → checked 13 (λ i. right_row layout i (row_at width rows i)) i ≡ gives tt → right_row layout i (row_at width rows i) ≡ false
      → refused_at 13 i ≡ right_rows rows layout count large o
  unfolding follows
  wrong_row i h a e = sym (rw (refused_first 13 (λ i. right_row layout i (row_at width rows i)) i count h a e))

  module _ (a : checked 13 (λ i. right_row layout i (row_at width rows i)) count ≡ gives tt) {l : Option ℕ} (e : l ≡ first (right_end layout (row_at width rows) large) count) where
    pub late_row : {i : ℕ} → l ≡ Some i → refused_at 14 i ≡ right_rows rows layout count large o
    unfolding follows
    late_row g = sym (rw (a, first_checked 14 (right_end layout (row_at width rows) large) count, ← e, g))

    pub right_rows_lem : l ≡ None → o ≡ right_rows rows layout count large o
    unfolding follows
    right_rows_lem g = sym (rw (a, first_checked 14 (right_end layout (row_at width rows) large) count, ← e, g))
