use mathlib.Core.Path.{◌≡◌, refl, ap, ◌∙◌}
use native.Mathlib.Omega.{arith}
use lib.ListN.{length}
use Rattle.hbc_buffer.specs.Private.{filled_from}
use Rattle.hbc_buffer.proofs.Fills.{from_more, from_length}
use Rattle.hbc_buffer.proofs.fill_none.Goals as goal

pub loop-i-init : goal.loop-i-init
unfolding filled_from
loop-i-init c = (refl, refl)

pub overflow_add-kinds : goal.overflow_add-kinds
overflow_add-kinds c = omega (arith, ap length c.loop-i.invariant.0 ∙ from_length _ _ _ _)

pub offset_bounds-kinds-first : goal.offset_bounds-kinds-first
offset_bounds-kinds-first c = omega (arith, ap length c.loop-i.invariant.0 ∙ from_length _ _ _ _)

pub bounds-kinds-first : goal.bounds-kinds-first
bounds-kinds-first c = omega (arith, ap length c.loop-i.invariant.0 ∙ from_length _ _ _ _)

pub overflow_add-payloads : goal.overflow_add-payloads
overflow_add-payloads c = omega (arith, ap length c.loop-i.invariant.1 ∙ from_length _ _ _ _)

pub offset_bounds-payloads-first : goal.offset_bounds-payloads-first
offset_bounds-payloads-first c = omega (arith, ap length c.loop-i.invariant.1 ∙ from_length _ _ _ _)

pub bounds-payloads-first : goal.bounds-payloads-first
bounds-payloads-first c = omega (arith, ap length c.loop-i.invariant.1 ∙ from_length _ _ _ _)

pub loop-i-preserved : goal.loop-i-preserved
loop-i-preserved c = (rw (from_more, ← c.loop-i.invariant.0), rw (from_more, ← c.loop-i.invariant.1))

pub shape_of-kinds : goal.shape_of-kinds
shape_of-kinds c = ap length c.loop-i.invariant.0 ∙ from_length _ _ _ _

pub shape_of-payloads : goal.shape_of-payloads
shape_of-payloads c = ap length c.loop-i.invariant.1 ∙ from_length _ _ _ _

pub returns : goal.returns
returns c = let e : c.loop-i.i ≡ c.args.n = omega arith in record { kinds_after = rw e at c.loop-i.invariant.0; payloads_after = rw e at c.loop-i.invariant.1 }
