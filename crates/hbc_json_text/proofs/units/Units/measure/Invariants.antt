use Rattle.hbc_json_text.proofs.Loops.{Measuring}
use Prim.Native.Nat.{◌-◌}
use lib.ListN.{length}
use Rattle.hbc_json_text.proofs.units.Units.measure.Given as goal

abbrev pub invariant-loop-e : goal.invariant-loop-e
invariant-loop-e l = Measuring l.self.wide l.self.bytes.now l.room l.at l.e l.n

abbrev pub decreases-loop-e : goal.decreases-loop-e
decreases-loop-e l = length l.self.bytes.now - l.e
