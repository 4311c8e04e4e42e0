use Rattle.hbc_json_text.proofs.Pieces.{next_end, next_here}
use mathlib.Core.Path.{◌≡◌, sym, ◌∙◌}
use lib.ListN.{length}
use native.Mathlib.Omega.{arith}
use Rattle.hbc_json_text.proofs.next.next_byte.Goals as goal

pub returns-then-is_escaped : goal.returns-then-is_escaped
returns-then-is_escaped c = next_here _ _ _ c.loop-e.invariant c.loop-e-test.true (sym c.is_escaped.ensures ∙ c.if-is_escaped.true)

pub returns : goal.returns
returns c =
    let e : c.loop-e.e ≡ length c.args.s.now = omega (arith, c.loop-e.invariant.inside) in
    rw (← e) (next_end _ _ _ c.loop-e.invariant (omega arith))
