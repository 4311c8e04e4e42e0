use Prim.Native.Nat.{◌-◌}
use lib.ListN.{length}
use Rattle.hbc_buffer.specs.Private.{Passed, Known}
use Rattle.hbc_buffer.proofs.check.Given as goal

-- `done` of the values are read, the run that they end in is spent, and only empty tags inv.0 between its end and `at`; of the last run the tag byte,
-- length and width are kept.
abbrev pub invariant-loop-done : goal.invariant-loop-done
invariant-loop-done l = Passed l.s l.from l.count l.done l.at × Known l.count l.done l.last l.size l.wide

abbrev pub decreases-loop-done : goal.decreases-loop-done
decreases-loop-done l = length l.s - l.at
