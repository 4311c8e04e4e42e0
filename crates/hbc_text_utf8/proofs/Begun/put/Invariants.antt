use Rattle.hbc_text_utf8.proofs.Putting.{Putting}
use Prim.Native.Nat.{◌-◌}
use lib.ListN.{length}
use Rattle.hbc_text_utf8.proofs.Begun.put.Given as goal

abbrev pub invariant-loop-e : goal.invariant-loop-e
invariant-loop-e l = Putting l.self.bytes.now l.initial.d l.at l.e l.n l.d

abbrev pub decreases-loop-e : goal.decreases-loop-e
decreases-loop-e l = length l.self.bytes.now - l.e
