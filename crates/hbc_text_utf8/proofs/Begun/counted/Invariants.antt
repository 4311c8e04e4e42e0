use Rattle.hbc_text_utf8.proofs.Measuring.{Measuring}
use Prim.Native.Nat.{◌-◌}
use lib.ListN.{length}
use Rattle.hbc_text_utf8.proofs.Begun.counted.Given as goal

abbrev pub invariant-loop-e : goal.invariant-loop-e
invariant-loop-e l = Measuring l.self.bytes.now l.room l.e l.n

abbrev pub decreases-loop-e : goal.decreases-loop-e
decreases-loop-e l = length l.self.bytes.now - l.e
