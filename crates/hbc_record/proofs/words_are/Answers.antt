use Rattle.std.proofs.Common.{refl, arith}
use Rattle.hbc_record.proofs.Recorded.{listed_first, listed_on, listed_done}
use Rattle.hbc_record.proofs.words_are.Goals as goal

pub loop-came-init : goal.loop-came-init
loop-came-init c = listed_first _ _ _ _

pub loop-came-preserved : goal.loop-came-preserved
loop-came-preserved c = listed_on c.loop-came.invariant refl c.judged_on-j.ensures

pub returns : goal.returns
returns c = rw (← c.field_of-list.ensures.bytes) (listed_done (omega arith) c.loop-came.invariant refl)
