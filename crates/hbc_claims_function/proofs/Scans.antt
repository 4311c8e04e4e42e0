-- What an accepted scan says of each function, how many it counts, and when two scans are accepted or refused alike.
use Prim.Native.Nat.{ℕ, zero, suc, ◌+◌, ◌*◌, ◌-◌, ◌/◌, ◌≤◌, ◌<◌}
use mathlib.Core.Path.{◌≡◌, refl, ap, sym, ◌∙◌}
use mathlib.Core.List.{List}
use mathlib.Core.Bool.{Bool, true, false, cond}
use native.Mathlib.Omega.{arith}
use native.Mathlib.Decide.{le_ind}
use native.Mathlib.Nat.{le-div_iff_mul-le, add-mul, one-mul}
use lib.ListN.{length}
use lib.Dec.{eqb}
use borrow.Author.Tests.{eqb-true, eqb-false}
use Rattle.hbc_function_record.specs.declared.Layout.{Layout}
use Rattle.hbc_function_record.specs.declared.Found.{Found}
use Rattle.hbc_io.specs.Answer.{Answer, gives, refuses, asked}
use Rattle.hbc_io.proofs.Exits.{not_given}
use Rattle.hbc_function_record.specs.Record.{size_of}
use Rattle.hbc_function_header.specs.Header.{function_at}
use Rattle.hbc_function.specs.Table.{counted, step, scan, all}
use Rattle.hbc_function.specs.Refresh.{held}
use Rattle.hbc_function.proofs.Laws.{step_read, size_pos}
use Rattle.hbc_claims_function.proofs.Function.{ends}
use Rattle.hbc_claims_law.specs.Terms.{count_of}

-- what is read is found
pub a_record : (a : Answer Found) → asked a ≡ gives tt → (r : Found) × (a ≡ gives r)
a_record (gives r) e = (r, refl)
a_record (refuses x) e = absurd (not_given e)

counted_read : (n k : ℕ) (a : Answer Found) → counted n a ≡ gives k → (asked a ≡ gives tt) × (k ≡ n + 1)
counted_read n k (gives r) e = (refl, cc)
counted_read n k (refuses x) e = absurd (not_given e)

-- a step that was accepted
step_before : (b : Bool) (x : Answer ℕ) (a : Answer Found) (k : ℕ) → step b x a ≡ gives k → (n : ℕ) × (x ≡ gives n)
unfolding step
step_before false x a k e = (k, e)
step_before true (gives n) a k e = (n, refl)
step_before true (refuses y) a k e = absurd (not_given e)

step_this : (b : Bool) (x : Answer ℕ) (a : Answer Found) (k : ℕ) → step b x a ≡ gives k → b ≡ true → asked a ≡ gives tt
unfolding step
step_this false x a k e p = let z : ◌≡◌ {A = ℕ} 0 1 = cc in absurd (omega arith)
step_this true (gives n) a k e p = (counted_read n k a e).0
step_this true (refuses y) a k e p = absurd (not_given e)

step_count : (b : Bool) (n k : ℕ) (a : Answer Found) → step b (gives n) a ≡ gives k → k ≡ cond b (n + 1) n
unfolding step
step_count false n k a e = cc
step_count true n k a e = (counted_read n k a e).1

count_step : (b : Bool) (m n : ℕ) → m ≤ n → cond b (m + 1) m ≤ suc n
count_step true m n h = omega arith
count_step false m n h = omega arith

-- which is at most n
pub count_le : (chosen : ℕ → Bool) (n : ℕ) → count_of chosen n ≤ n
unfolding count_of
count_le chosen zero = omega arith
count_le chosen (suc n) = count_step (chosen n) (count_of chosen n) n (count_le chosen n)

module _ (chosen : ℕ → Bool) (f : ℕ → Answer Found) where
  scan_before : (n k : ℕ) → scan chosen f (suc n) ≡ gives k → (m : ℕ) × (scan chosen f n ≡ gives m)
  unfolding scan
  scan_before n k e = step_before (chosen n) (scan chosen f n) (f n) k e

  scan_this : (n k : ℕ) → scan chosen f (suc n) ≡ gives k → chosen n ≡ true → asked (f n) ≡ gives tt
  unfolding scan
  scan_this n k e p = step_this (chosen n) (scan chosen f n) (f n) k e p

  -- each function that was chosen was read
  each_by : (n k i : ℕ) → i < suc n → scan chosen f (suc n) ≡ gives k → chosen i ≡ true → ((m : ℕ) → i < n → scan chosen f n ≡ gives m → asked (f i) ≡ gives tt)
      → (eq : Bool) → eqb i n ≡ eq → asked (f i) ≡ gives tt
  each_by n k i h e p ih true q = let z : i ≡ n = eqb-true i n q in rw z (scan_this n k e (rw z at p))
  each_by n k i h e p ih false q =
      let d = eqb-false i n q in
      let b = scan_before n k e in
      ih b.0 (omega (arith, d)) b.1

  pub scan_each : (n k i : ℕ) → i < n → scan chosen f n ≡ gives k → chosen i ≡ true → asked (f i) ≡ gives tt
  scan_each zero k i h e p = absurd (omega arith)
  scan_each (suc n) k i h e p = each_by n k i h e p (λ m l q. scan_each n m i l q p) (eqb i n) refl

  -- and so was the scan of fewer
  pub scan_front : (i n k : ℕ) → i ≤ n → scan chosen f n ≡ gives k → (m : ℕ) × (scan chosen f i ≡ gives m)
  scan_front i n k h e =
      le_ind (λ (j : ℕ). (l : ℕ) → scan chosen f j ≡ gives l → (m : ℕ) × (scan chosen f i ≡ gives m)) (λ l q. (l, q)) (λ j o p l q. let b = scan_before j l q in p b.0 b.1) n h k e

  pub scan_counts : (n k : ℕ) → scan chosen f n ≡ gives k → k ≡ count_of chosen n
  unfolding scan count_of
  scan_counts zero k e = cc
  scan_counts (suc n) k e =
      let b = step_before (chosen n) (scan chosen f n) (f n) k e in
      step_count (chosen n) b.0 k (f n) (sym (ap (λ (x : Answer ℕ). step (chosen n) x (f n)) b.1) ∙ e)
      ∙ ap (λ (j : ℕ). cond (chosen n) (j + 1) j) (scan_counts n b.0 b.1)

-- all that can be read each by itself is scanned
pub scan_whole : (f : ℕ → Answer Found) (n : ℕ) → ((i : ℕ) → i < n → asked (f i) ≡ gives tt) → (k : ℕ) × (scan all f n ≡ gives k)
unfolding scan
scan_whole f zero h = (0, refl)
scan_whole f (suc n) h =
    let b = scan_whole f n (λ i l. h i (omega arith)) in
    (b.0 + 1, ap (λ (x : Answer ℕ). step true x (f n)) b.1 ∙ sym (step_read b.0 (f n) refl (sym (h n (omega arith)))))

-- ---- two scans

asked_counted : (m n : ℕ) (a : Answer Found) → asked (counted m a) ≡ asked (counted n a)
asked_counted m n (gives r) = refl
asked_counted m n (refuses x) = refl

asked_step : (x y : Answer ℕ) (a : Answer Found) → asked x ≡ asked y → asked (step true x a) ≡ asked (step true y a)
unfolding step
asked_step (gives m) (gives n) a e = asked_counted m n a
asked_step (refuses x) (refuses y) a e = e
asked_step (gives m) (refuses y) a e = absurd (not_given (sym e))
asked_step (refuses x) (gives n) a e = absurd (not_given e)

asked_skip : (x : Answer ℕ) (a : Answer Found) → asked a ≡ gives tt → asked (step true x a) ≡ asked x
unfolding step
asked_skip (gives m) (gives r) e = refl
asked_skip (gives m) (refuses y) e = absurd (not_given e)
asked_skip (refuses x) a e = refl

-- fa was read whole; fb is the same where it is not chosen: then reading all of fb ends as reading the chosen of fb does
module _ (chosen : ℕ → Bool) (fa fb : ℕ → Answer Found) (same : (i : ℕ) → chosen i ≡ false → fa i ≡ fb i) where
  alike_by : (n : ℕ) (b : Bool) → chosen n ≡ b → asked (fa n) ≡ gives tt → asked (scan all fb n) ≡ asked (scan chosen fb n)
      → asked (step true (scan all fb n) (fb n)) ≡ asked (step b (scan chosen fb n) (fb n))
  unfolding step
  alike_by n true e p ih = asked_step (scan all fb n) (scan chosen fb n) (fb n) ih
  alike_by n false e p ih = asked_skip (scan all fb n) (fb n) (sym (ap asked (same n e)) ∙ p) ∙ ih

  pub alike : (n k : ℕ) → scan all fa n ≡ gives k → asked (scan all fb n) ≡ asked (scan chosen fb n)
  unfolding scan
  alike zero k e = refl
  alike (suc n) k e =
      let b = scan_before all fa n k e in
      alike_by n (chosen n) refl (scan_this all fa n k e refl) (alike n b.0 b.1)

-- ---- as many headers as were read are in the file

pub all_held : (s : List ℕ) (layout : Layout) (start count k : ℕ) → start ≤ length s → scan all (function_at s layout start) count ≡ gives k → count ≤ held s layout start
unfolding held
all_held s layout start zero k h e = omega arith
all_held s layout start (suc n) k h e =
    let l : start + n * size_of layout + size_of layout ≤ length s = ends s layout start n (scan_this all (function_at s layout start) n k e refl) in
    let m : (n + 1) * size_of layout ≡ n * size_of layout + size_of layout = add-mul n 1 (size_of layout) ∙ ap (λ (j : ℕ). n * size_of layout + j) (one-mul (size_of layout)) in
    let q : (n + 1) * size_of layout ≤ length s - start = omega arith in
    let z : n + 1 ≤ (length s - start) / size_of layout = (le-div_iff_mul-le (size_pos layout)).1 q in
    omega arith
