use Rattle.std.proofs.Common.{arith}
use Rattle.hbc_record.proofs.Recorded.{placed_first, placed_on, placed_done}
use Rattle.hbc_record.proofs.place.Goals as goal

pub loop-i-init : goal.loop-i-init
loop-i-init c = placed_first _

pub loop-i-preserved : goal.loop-i-preserved
loop-i-preserved c = placed_on c.loop-i.invariant c.past-at.ensures

pub returns : goal.returns
returns c = placed_done (omega arith) c.loop-i.invariant
