use Rattle.std.proofs.Common.{refl, arith}
use Rattle.hbc_record.proofs.Recorded.{same_first, same_on, same_done}
use Rattle.hbc_record.proofs.bytes_are.Goals as goal

pub loop-i-init : goal.loop-i-init
loop-i-init c = same_first _ _

pub loop-i-preserved : goal.loop-i-preserved
loop-i-preserved c = same_on c.loop-i.invariant c.u8_at.ensures c.u8_at-in-loop-i.ensures refl

pub returns : goal.returns
returns c = rw (← c.field_of-a.ensures.bytes) (same_done (omega arith) c.loop-i.invariant)
