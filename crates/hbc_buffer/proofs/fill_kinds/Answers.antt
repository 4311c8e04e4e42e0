use mathlib.Core.Path.{◌≡◌, refl, ap, ◌∙◌}
use native.Mathlib.Omega.{arith}
use lib.ListN.{length}
use Rattle.hbc_buffer.specs.Private.{filled_from}
use Rattle.hbc_buffer.proofs.Fills.{from_more, from_length}
use Rattle.hbc_buffer.proofs.fill_kinds.Goals as goal

pub loop-i-init : goal.loop-i-init
unfolding filled_from
loop-i-init c = refl

pub overflow_add-table : goal.overflow_add-table
overflow_add-table c = omega (arith, ap length c.loop-i.invariant ∙ from_length _ _ _ _)

pub offset_bounds-table-first : goal.offset_bounds-table-first
offset_bounds-table-first c = omega (arith, ap length c.loop-i.invariant ∙ from_length _ _ _ _)

pub bounds-table-first : goal.bounds-table-first
bounds-table-first c = omega (arith, ap length c.loop-i.invariant ∙ from_length _ _ _ _)

pub loop-i-preserved : goal.loop-i-preserved
loop-i-preserved c = rw (from_more, ← c.loop-i.invariant)

pub shape_of-table : goal.shape_of-table
shape_of-table c = ap length c.loop-i.invariant ∙ from_length _ _ _ _

pub returns : goal.returns
returns c = let e : c.loop-i.i ≡ c.args.n = omega arith in rw e at c.loop-i.invariant
