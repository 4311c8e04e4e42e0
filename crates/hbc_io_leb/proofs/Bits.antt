-- A signed number and the 64 bits that hold it.
use mathlib.Core.Path.{◌≡◌, refl, ap}
use mathlib.Core.Bool.{true, false}
use Prim.Native.Nat.{ℕ, suc, ◌-◌, ◌^◌, ◌<◌}
use native.Mathlib.Omega.{arith}
use borrow.Author.Tests.{leb-false, le-ltb}
use lib.IntN.{ℤ, pos, negsuc, nat_abs, ◌-ℤ◌}
use lib.Signed.{le_z}
use mir.Syntax.{w64}
use mir.Val.{SFits, to_z, of_z}
use mir.ValLaws.{to_z_pos, to_z-of_z}
use Rattle.hbc_io_leb.specs.Signed.{bits_of}
use Rattle.hbc_io_leb.proofs.Signed.{bits_pos, bits_neg}

pub record Up (v y : ℤ) : Type 0 where
  pub n : ℕ
  pub is : y ≡ pos n
  pub bits : bits_of v ≡ n
  pub small : n < 2 ^ 63

pub record Down (v y : ℤ) : Type 0 where
  pub n : ℕ
  pub is : y ≡ negsuc n
  pub bits : bits_of v ≡ 2 ^ 64 - suc n
  pub small : n < 2 ^ 63

up_of : (v : ℤ) → SFits w64 v → le_z (pos 0) v ≡ true → Up v v
up_of (pos n) h e = record { n = n; is = refl; bits = bits_pos n h; small = h.sfits }
up_of (negsuc n) h e = let z : ◌≡◌ {A = ℕ} 0 1 = cc in absurd (omega arith)

down_of : (v : ℤ) → SFits w64 v → le_z (pos 0) v ≡ false → Down v v
down_of (negsuc n) h e = record { n = n; is = refl; bits = bits_neg n h; small = h.sfits }
down_of (pos n) h e = absurd (omega (arith, leb-false 0 n e))

pub is_up : (v : ℤ) → SFits w64 v → le_z (pos 0) (to_z w64 (of_z w64 v)) ≡ true → Up v (to_z w64 (of_z w64 v))
is_up v h e = rw (to_z-of_z w64 v h) (up_of v h (rw (to_z-of_z w64 v h) at e))

pub is_down : (v : ℤ) → SFits w64 v → le_z (pos 0) (to_z w64 (of_z w64 v)) ≡ false → Down v (to_z w64 (of_z w64 v))
is_down v h e = rw (to_z-of_z w64 v h) (down_of v h (rw (to_z-of_z w64 v h) at e))

minus_one : (n : ℕ) → negsuc 0 -ℤ negsuc n ≡ pos n
minus_one n = rw (le-ltb (suc n) 1 (omega arith)) (ap pos (omega arith))

module _ (y : ℤ) (n : ℕ) (e : y ≡ pos n) (h : n < 2 ^ 63) where
  pub up_is : nat_abs y ≡ n
  up_is = rw e

module _ (y : ℤ) (n : ℕ) (e : y ≡ negsuc n) (h : n < 2 ^ 63) where
  pub turned : to_z w64 (of_z w64 (negsuc 0 -ℤ y)) ≡ pos n
  turned = rw (e, minus_one n) (to_z_pos w64 n h)
