use Rattle.hbc_text_utf16.proofs.Weights.{weigh_first, weigh_most, weigh_end, weigh_more, weigh_room}
use native.Mathlib.Omega.{arith}
use Rattle.hbc_text_utf16.proofs.counted.Goals as goal

pub loop-i-init : goal.loop-i-init
loop-i-init c = weigh_first _ c.requires.0

pub overflow_add-n : goal.overflow_add-n
overflow_add-n c = omega (arith, weigh_room _ _ _ _ c.loop-i.invariant (omega (arith, c.loop-i-test.true)) c.unit-u.result c.weight-n.result c.unit-u.ensures.0 c.weight-n.ensures.0, weigh_most c.args.s.now (λ i. (c.type_inv.s i).fits), c.requires.1)

pub loop-i-preserved : goal.loop-i-preserved
loop-i-preserved c = weigh_more _ _ _ _ c.loop-i.invariant (omega (arith, c.loop-i-test.true)) c.unit-u.result c.weight-n.result c.unit-u.ensures.0 c.weight-n.ensures.0 _ (omega arith)

pub returns : goal.returns
returns c = weigh_end _ _ _ _ c.loop-i.invariant (omega (arith, c.requires.0))
