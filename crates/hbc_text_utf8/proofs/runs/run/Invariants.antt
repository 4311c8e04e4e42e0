use Rattle.hbc_text_utf8.specs.Private.{Kept}
use Prim.Native.Nat.{◌-◌}
use lib.ListN.{length}
use Rattle.hbc_text_utf8.proofs.runs.run.Given as goal

abbrev pub invariant-loop-e : goal.invariant-loop-e
invariant-loop-e l = Kept l.s l.at l.e

abbrev pub decreases-loop-e : goal.decreases-loop-e
decreases-loop-e l = length l.s - l.e
