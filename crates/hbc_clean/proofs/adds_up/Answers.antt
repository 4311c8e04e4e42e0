use Rattle.hbc_clean.proofs.Runs.{sum_next, sum_above}
use Rattle.hbc_clean.proofs.adds_up.Goals as goal

pub returns-then-strings-sum : goal.returns-then-strings-sum
returns-then-strings-sum c = sum_above _ _ _ c.loop-run-test.true (rw (sum_next _ _ c.loop-run.invariant.0 c.run_length.ensures) at c.if-strings-sum.true)
