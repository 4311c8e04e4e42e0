use Rattle.hbc_text_forms.proofs.Exits.{has_length, has_no_room}
use Rattle.hbc_text_utf8.proofs.Measuring.{long_first, measure_end, measure_more, long_more}
use Rattle.hbc_text_utf8.proofs.Steps.{part_inside}
use native.Mathlib.Omega.{arith}
use Rattle.hbc_text_utf8.proofs.Begun.counted.Goals as goal

pub returns-then-room-self : goal.returns-then-room-self
returns-then-room-self c = has_no_room _ _ (long_first _ _ _ c.args.self.run c.if-room-self.true) c.refuse.ensures

pub overflow_add-at : goal.overflow_add-at
overflow_add-at c = omega (arith, part_inside _ _ c.loop-e-test.true c.part.ensures)

pub run-e-requires : goal.run-e-requires
run-e-requires c = (part_inside _ _ c.loop-e-test.true c.part.ensures).1

pub returns-then-room-n : goal.returns-then-room-n
returns-then-room-n c = has_no_room _ _ (long_more _ _ _ _ c.loop-e.invariant c.part.result c.run-e.result c.loop-e-test.true c.part.ensures c.run-e.ensures c.if-room-n.true) c.refuse-then-room-n.ensures

pub loop-e-smaller : goal.loop-e-smaller
loop-e-smaller c = omega (arith, c.run-e.ensures.kept.from, c.run-e.ensures.kept.inside, part_inside _ _ c.loop-e-test.true c.part.ensures)

pub loop-e-preserved : goal.loop-e-preserved
loop-e-preserved c = measure_more _ _ _ _ c.loop-e.invariant c.part.result c.run-e.result c.loop-e-test.true c.part.ensures c.run-e.ensures c.if-room-n.false

pub returns : goal.returns
returns c = let e = measure_end _ _ _ _ c.loop-e.invariant c.loop-e-test.false in has_length _ _ e.0 e.1
