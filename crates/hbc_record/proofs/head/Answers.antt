use Rattle.hbc_record.proofs.Recorded.{asked_is}
use Rattle.hbc_record.proofs.head.Goals as goal

pub returns : goal.returns
returns c = rw (← c.field_of-list.ensures.bytes) (asked_is _ c.listed-call.ensures c.listed-a.ensures c.listed-b.ensures c.listed-c.ensures c.listed-d.ensures c.listed-p.ensures c.listed-q.ensures c.listed-r.ensures c.listed-s.ensures c.low.ensures c.low-2.ensures c.low-3.ensures c.low-4.ensures)
