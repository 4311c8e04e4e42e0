use mathlib.Core.Path.{◌≡◌, sym, ◌∙◌, ap}
use mathlib.Core.Bool.{true, false}
use Prim.Native.Nat.{suc, ◌-◌, ◌%◌, ◌<◌, ◌^◌}
use native.Mathlib.Omega.{arith}
use native.Mathlib.Nat.{mod-eq_of_lt, mod-lt}
use lib.IntN.{ℤ, pos, negsuc}
use lib.Signed.{lt_z}
use mir.Syntax.{w32}
use mir.Val.{to_z, of_z, SFits}
use mir.ValLaws.{to_z-of_z, to_z_pos}
use borrow.Author.Tests.{ltb-true}
use Rattle.hbc_io.specs.Outcome.{low_bits}
use Rattle.hbc_c_buffer.proofs.word_of.Goals as goal

flipped : (z : ℤ) → SFits w32 z → lt_z z (pos 0) ≡ true → to_z w32 (4294967295 - of_z w32 z) ≡ pos (4294967295 - low_bits 32 z)
flipped (pos n) f h = absurd (omega (arith, ltb-true n 0 h))
flipped (negsuc k) f h = let m : k % 2 ^ 32 ≡ k = mod-eq_of_lt (omega (arith, f.sfits)) in rw m (to_z_pos w32 (4294967295 - (2 ^ 32 - suc k)) (omega arith))

plain : (z : ℤ) → SFits w32 z → lt_z z (pos 0) ≡ false → z ≡ pos (low_bits 32 z)
plain (pos n) f h = ap pos (sym (mod-eq_of_lt (omega (arith, f.sfits))))
plain (negsuc k) f h = cc

small : (z : ℤ) → low_bits 32 z < 2 ^ 32
small (pos n) = mod-lt n {m = 2 ^ 32} (omega arith)
small (negsuc k) = omega arith

neg : (c : goal.Then-z-lt0) → to_z w32 (4294967295 - of_z w32 c.args.z) ≡ pos (4294967295 - low_bits 32 c.args.z)
neg c = flipped c.args.z c.ranges.z (ap (λ (z : ℤ). lt_z z (pos 0)) (sym (to_z-of_z w32 c.args.z c.ranges.z)) ∙ c.if-z-lt0.true)

nonneg : (c : goal.Else-z-lt0) → to_z w32 (of_z w32 c.args.z) ≡ pos (low_bits 32 c.args.z)
nonneg c = let e = to_z-of_z w32 c.args.z c.ranges.z in e ∙ plain c.args.z c.ranges.z (ap (λ (z : ℤ). lt_z z (pos 0)) (sym e) ∙ c.if-z-lt0.false)

pub overflow_cast-result : goal.overflow_cast-result
overflow_cast-result c = rw (neg c) (tt, record { fits = omega (arith, small c.args.z) })

pub overflow_sub-result : goal.overflow_sub-result
overflow_sub-result c = rw (neg c) (omega arith)

pub overflow_cast-result-else-z-lt0 : goal.overflow_cast-result-else-z-lt0
overflow_cast-result-else-z-lt0 c = rw (nonneg c) (tt, record { fits = small c.args.z })

pub returns-then-z-lt0 : goal.returns-then-z-lt0
returns-then-z-lt0 c = rw (neg c) (omega (arith, small c.args.z))

pub returns-else-z-lt0 : goal.returns-else-z-lt0
returns-else-z-lt0 c = rw (nonneg c)
