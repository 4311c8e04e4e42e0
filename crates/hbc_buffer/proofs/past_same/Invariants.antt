use Prim.Native.Nat.{◌-◌, ◌≤◌}
use lib.ListN.{length}
use Rattle.hbc_buffer.specs.Private.{Known, Goes}
use Rattle.hbc_buffer.proofs.past_same.Given as goal

-- only runs of this tag byte stand between `from` and `at`, and their values are counted.
abbrev pub invariant-loop-done : goal.invariant-loop-done
invariant-loop-done l = Goes l.s l.count l.first l.from l.done l.at × Known l.count l.done l.b l.size l.wide × (l.done ≤ l.count)

abbrev pub decreases-loop-done : goal.decreases-loop-done
decreases-loop-done l = length l.s - l.at
