use Rattle.hbc_json_text.proofs.Pieces.{units_none, two_left, units_more, units_end, units_here}
use mathlib.Core.Path.{◌≡◌, sym, ◌∙◌}
use Prim.Native.Nat.{◌+◌}
use lib.ListN.{length}
use native.Mathlib.Omega.{arith}
use Rattle.hbc_json_text.proofs.next.next_unit.Goals as goal

pub loop-e-init : goal.loop-e-init
loop-e-init c = units_none _ _ c.requires.0 c.requires.1 c.requires.2

pub returns-then-is_unit_escaped : goal.returns-then-is_unit_escaped
returns-then-is_unit_escaped c = units_here _ _ _ c.loop-e.invariant c.loop-e-test.true (sym c.is_unit_escaped.ensures ∙ c.if-is_unit_escaped.true)

pub loop-e-preserved : goal.loop-e-preserved
loop-e-preserved c = units_more _ _ _ c.loop-e.invariant c.loop-e-test.true (sym c.is_unit_escaped.ensures ∙ c.if-is_unit_escaped.false)

pub returns : goal.returns
returns c =
    let e : c.loop-e.e ≡ length c.args.s.now = omega (arith, c.loop-e.invariant.inside) in
    rw (← e) (units_end _ _ _ c.loop-e.invariant (omega arith))

pub returns-else-is_unit_escaped : goal.returns-else-is_unit_escaped
returns-else-is_unit_escaped c =
    let q : c.loop-e.e + 2 ≡ length c.args.s.now = omega (arith, two_left _ _ _ c.loop-e.invariant c.loop-e-test.true) in
    rw (← q) (units_end _ _ _ (units_more _ _ _ c.loop-e.invariant c.loop-e-test.true (sym c.is_unit_escaped.ensures ∙ c.if-is_unit_escaped.false)) (omega arith))
