use mathlib.Core.Path.{◌≡◌, refl, sym, ap, ◌∙◌}
use native.Mathlib.Omega.{arith}
use native.Mathlib.Nat.{zero-mul, add-zero}
use lib.ListN.{length}
use Rattle.hbc_buffer.specs.Private.{filled_from}
use Rattle.hbc_buffer.proofs.Fills.{from_more, from_length, run_room, run_step}
use Rattle.hbc_buffer.proofs.fill_payloads.Goals as goal

pub loop-i-init : goal.loop-i-init
unfolding filled_from
loop-i-init c = (rw zero-mul (sym (add-zero _)), refl)

pub payload-requires : goal.payload-requires
payload-requires c =
    let start = c in
    (start.requires.0, run_room _ _ start.args.n _ c.loop-i-test.true c.loop-i.invariant.0 start.requires.1)

pub overflow_add-table : goal.overflow_add-table
overflow_add-table c = omega (arith, ap length c.loop-i.invariant.1 ∙ from_length _ _ _ _)

pub offset_bounds-table-first : goal.offset_bounds-table-first
offset_bounds-table-first c = omega (arith, ap length c.loop-i.invariant.1 ∙ from_length _ _ _ _)

pub bounds-table-first : goal.bounds-table-first
bounds-table-first c = omega (arith, ap length c.loop-i.invariant.1 ∙ from_length _ _ _ _)

pub overflow_add-p : goal.overflow_add-p
overflow_add-p c =
    let start = c in
    let room = run_room _ _ start.args.n _ c.loop-i-test.true c.loop-i.invariant.0 start.requires.1 in
    omega (arith, c.width-w.ensures, room)

pub loop-i-preserved : goal.loop-i-preserved
loop-i-preserved c =
    let inv = c.loop-i.invariant in
    (run_step _ _ _ inv.0 c.width-w.ensures, rw (from_more, ← inv.1, ← inv.0, c.payload.ensures))

pub shape_of-table : goal.shape_of-table
shape_of-table c = ap length c.loop-i.invariant.1 ∙ from_length _ _ _ _

pub returns : goal.returns
returns c =
    let inv = c.loop-i.invariant in
    let e : c.loop-i.i ≡ c.args.n = omega arith in
    (rw e at inv.0, rw e at inv.1)
