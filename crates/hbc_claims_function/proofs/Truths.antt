-- One of two truths at least: what follows from it, and what it follows from.
use mathlib.Core.Path.{◌≡◌, refl}
use mathlib.Core.Bool.{Bool, true, false, cond}
use Prim.Native.Nat.{ℕ}
use native.Mathlib.Omega.{arith}

pub never : true ≡ false → ⊥
never e = let z : ◌≡◌ {A = ℕ} 0 1 = cc in omega arith

-- neither, if it is not so
pub or_left : (p q : Bool) → cond p true q ≡ false → p ≡ false
or_left false q e = refl
or_left true q e = e

pub or_right : (p q : Bool) → cond p true q ≡ false → q ≡ false
or_right false q e = e
or_right true q e = let z : q ≡ false = cc in z

pub or_neither : (p q : Bool) → p ≡ false → q ≡ false → cond p true q ≡ false
or_neither p q e f = rw e f

-- it is so by the first, and by the second
pub or_first : (p q : Bool) → p ≡ true → cond p true q ≡ true
or_first p q e = rw e

pub or_second : (p q : Bool) → q ≡ true → cond p true q ≡ true
or_second true q e = refl
or_second false q e = e

pub or_turned : (p q : Bool) → cond p true q ≡ cond q true p
or_turned true true = refl
or_turned true false = refl
or_turned false true = refl
or_turned false false = refl

pub or_same : (p : Bool) → cond p true p ≡ p
or_same true = refl
or_same false = refl

pub or_four : (a b c d : Bool) → cond (cond a true b) true (cond c true d) ≡ cond (cond a true c) true (cond b true d)
or_four true b c d = refl
or_four false true true d = refl
or_four false true false d = refl
or_four false false c d = refl
