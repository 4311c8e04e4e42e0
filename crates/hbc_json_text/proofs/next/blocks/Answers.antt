use Rattle.hbc_json_text.proofs.Clear.{passed_join, passed_last}
use native.Mathlib.Omega.{arith}
use Rattle.hbc_json_text.proofs.next.blocks.Goals as goal

pub loop-e-preserved : goal.loop-e-preserved
loop-e-preserved c = passed_join _ _ _ 8 c.loop-e.invariant (omega (arith, c.loop-e.invariant.inside, c.loop-e-test.true)) (c.any_escaped.ensures c.if-any_escaped.false)

pub returns : goal.returns
returns c = passed_last _ _ _ 8 c.loop-e.invariant (omega (arith, c.loop-e.invariant.inside, c.if-e-lt8.false)) c.loop-e-test.false (c.any_escaped-2.ensures c.if-any_escaped-2.false)
