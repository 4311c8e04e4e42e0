use Rattle.std.proofs.Common.{arith}
use Rattle.hbc_record.proofs.Recorded.{put_first, put_on, put_done}
use Rattle.hbc_record.proofs.put_words.Goals as goal

pub loop-i-init : goal.loop-i-init
loop-i-init c = put_first _ _

pub loop-i-preserved : goal.loop-i-preserved
loop-i-preserved c = put_on c.loop-i.invariant c.u32_at.ensures

pub returns : goal.returns
returns c = put_done (omega arith) c.loop-i.invariant
