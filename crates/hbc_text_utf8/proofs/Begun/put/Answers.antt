use Rattle.hbc_text_utf8.proofs.Copies.{part_copied}
use Rattle.hbc_text_utf8.proofs.Putting.{put_end, run_room, put_run, ill_room, put_ill}
use Rattle.hbc_text_utf8.proofs.Steps.{part_inside}
use native.Mathlib.Omega.{arith}
use Rattle.hbc_text_utf8.proofs.Begun.put.Goals as goal

pub slice_bounds-copy-end-in-loop-e : goal.slice_bounds-copy-end-in-loop-e
slice_bounds-copy-end-in-loop-e c = run_room _ _ _ _ c.loop-e.invariant.put _ c.loop-e.invariant.run.kept

pub put_replacement-requires : goal.put_replacement-requires
put_replacement-requires c = ill_room _ _ _ _ (put_run _ _ _ _ c.loop-e.invariant.put _ c.loop-e.invariant.run.kept (part_copied c.args.self.bytes.now c.loop-e.d c.loop-e.at c.loop-e.e c.loop-e.n c.loop-e.invariant.run.kept.from c.loop-e.invariant.run.kept.inside (run_room _ _ _ _ c.loop-e.invariant.put _ c.loop-e.invariant.run.kept) c.copy.ensures)) c.loop-e-test.true (c.loop-e.invariant.run.ends c.loop-e-test.true)

pub overflow_add-at : goal.overflow_add-at
overflow_add-at c = omega (arith, part_inside _ _ c.loop-e-test.true c.part.ensures)

pub run-e-requires : goal.run-e-requires
run-e-requires c = (part_inside _ _ c.loop-e-test.true c.part.ensures).1

pub loop-e-smaller : goal.loop-e-smaller
loop-e-smaller c = omega (arith, c.run-e.ensures.kept.from, c.run-e.ensures.kept.inside, part_inside _ _ c.loop-e-test.true c.part.ensures)

pub loop-e-preserved : goal.loop-e-preserved
loop-e-preserved c = record { put = put_ill _ _ _ _ (put_run _ _ _ _ c.loop-e.invariant.put _ c.loop-e.invariant.run.kept (part_copied c.args.self.bytes.now c.loop-e.d c.loop-e.at c.loop-e.e c.loop-e.n c.loop-e.invariant.run.kept.from c.loop-e.invariant.run.kept.inside (run_room _ _ _ _ c.loop-e.invariant.put _ c.loop-e.invariant.run.kept) c.copy.ensures)) c.loop-e-test.true (c.loop-e.invariant.run.ends c.loop-e-test.true) c.part.ensures c.put_replacement.ensures; run = c.run-e.ensures }

pub slice_bounds-copy-end-3 : goal.slice_bounds-copy-end-3
slice_bounds-copy-end-3 c = run_room _ _ _ _ c.loop-e.invariant.put _ c.loop-e.invariant.run.kept

pub returns : goal.returns
returns c = put_end _ _ _ _ (put_run _ _ _ _ c.loop-e.invariant.put _ c.loop-e.invariant.run.kept (part_copied c.args.self.bytes.now c.loop-e.d c.loop-e.at c.loop-e.e c.loop-e.n c.loop-e.invariant.run.kept.from c.loop-e.invariant.run.kept.inside (run_room _ _ _ _ c.loop-e.invariant.put _ c.loop-e.invariant.run.kept) c.copy-2.ensures)) c.loop-e-test.false
