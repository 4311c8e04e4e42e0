-- The laws of sums.
use Prim.Native.Nat.{ℕ, zero, suc, ◌+◌, ◌*◌, ◌≤◌, ◌<◌}
use mathlib.Core.Path.{◌≡◌, refl, ap, ◌∙◌}
use mathlib.Core.Bool.{Bool, true, false, cond}
use native.Mathlib.Omega.{arith}
use native.Mathlib.Nat.{suc-mul}
use native.Mathlib.Numerals.{add-one}
use Rattle.hbc_function_totals.specs.Totals.{sum}

-- ---- one number more

module _ (chosen : ℕ → Bool) (f : ℕ → ℕ) where
  pub sum_next : (n : ℕ) → chosen n ≡ true → sum chosen f (suc n) ≡ sum chosen f n + f n
  unfolding sum
  sum_next n e = rw e

  pub sum_more : (n : ℕ) → chosen n ≡ true → sum chosen f (n + 1) ≡ sum chosen f n + f n
  sum_more n e = rw add-one (sum_next n e)

  pub sum_skip : (n : ℕ) → chosen n ≡ false → sum chosen f (suc n) ≡ sum chosen f n
  unfolding sum
  sum_skip n e = rw e (omega arith)

-- ---- the same numbers, wherever one is chosen

same_by : (b : Bool) (x y : ℕ) → (b ≡ true → x ≡ y) → cond b x 0 ≡ cond b y 0
same_by true x y e = e refl
same_by false x y e = refl

pub sum_same : (chosen : ℕ → Bool) (f g : ℕ → ℕ) (n : ℕ) → ((i : ℕ) → i < n → chosen i ≡ true → f i ≡ g i) → sum chosen f n ≡ sum chosen g n
unfolding sum
sum_same chosen f g zero e = refl
sum_same chosen f g (suc n) e =
    ap (λ (x : ℕ). x + cond (chosen n) (f n) 0) (sum_same chosen f g n (λ i h. e i (omega arith)))
    ∙ ap (λ (x : ℕ). sum chosen g n + x) (same_by (chosen n) (f n) (g n) (e n (omega arith)))

-- and the same choice
pub sum_alike : (c d : ℕ → Bool) (f : ℕ → ℕ) (n : ℕ) → ((i : ℕ) → i < n → c i ≡ d i) → sum c f n ≡ sum d f n
unfolding sum
sum_alike c d f zero e = refl
sum_alike c d f (suc n) e =
    ap (λ (x : ℕ). x + cond (c n) (f n) 0) (sum_alike c d f n (λ i h. e i (omega arith))) ∙ ap (λ (b : Bool). sum d f n + cond b (f n) 0) (e n (omega arith))

-- ---- how great a sum is

-- of some it is no more than of all
part_by : (b : Bool) (x : ℕ) → cond b x 0 ≤ x
part_by true x = omega arith
part_by false x = omega arith

pub sum_part : (chosen : ℕ → Bool) (f : ℕ → ℕ) (n : ℕ) → sum chosen f n ≤ sum (λ i. true) f n
unfolding sum
sum_part chosen f zero = omega arith
sum_part chosen f (suc n) = let a = sum_part chosen f n in let b = part_by (chosen n) (f n) in omega arith

-- and of numbers up to m no more than m for each
pub sum_most : (chosen : ℕ → Bool) (f : ℕ → ℕ) (m n : ℕ) → ((i : ℕ) → i < n → f i ≤ m) → sum chosen f n ≤ n * m
unfolding sum
sum_most chosen f m zero h = omega arith
sum_most chosen f m (suc n) h =
    let a = sum_most chosen f m n (λ i l. h i (omega arith)) in let b = part_by (chosen n) (f n) in let c = h n (omega arith) in
    let d : suc n * m ≡ n * m + m = suc-mul n m in omega arith

-- ---- the chosen numbers exchanged: what is taken out of a sum, and what is added to it

swap_by : (b : Bool) (x y z : ℕ) → (b ≡ true → y ≡ z) → (b ≡ false → y ≡ x) → y + cond b x 0 ≡ x + cond b z 0
swap_by true x y z e f = let a = e refl in omega arith
swap_by false x y z e f = let a = f refl in omega arith

pub sum_swap : (chosen : ℕ → Bool) (old now new : ℕ → ℕ) (n : ℕ) → ((i : ℕ) → i < n → chosen i ≡ true → now i ≡ new i)
    → ((i : ℕ) → i < n → chosen i ≡ false → now i ≡ old i)
    → sum (λ i. true) now n + sum chosen old n ≡ sum (λ i. true) old n + sum chosen new n
unfolding sum
sum_swap chosen old now new zero e f = refl
sum_swap chosen old now new (suc n) e f =
    let a = sum_swap chosen old now new n (λ i h. e i (omega arith)) (λ i h. f i (omega arith)) in
    let b = swap_by (chosen n) (old n) (now n) (new n) (e n (omega arith)) (f n (omega arith)) in
    omega arith
