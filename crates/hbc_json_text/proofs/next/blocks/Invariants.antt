use Rattle.hbc_json_text.specs.Private.{Passed}
use Prim.Native.Nat.{◌-◌}
use lib.ListN.{length}
use Rattle.hbc_json_text.proofs.next.blocks.Given as goal

abbrev pub invariant-loop-e : goal.invariant-loop-e
invariant-loop-e l = Passed l.s l.at l.e

abbrev pub decreases-loop-e : goal.decreases-loop-e
decreases-loop-e l = length l.s - l.e
