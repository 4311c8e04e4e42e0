use Rattle.hbc_record.proofs.Recorded.{counted_is, differs_is}
use Rattle.hbc_record.proofs.counted.Goals as goal

pub returns : goal.returns
returns c = counted_is _ _ c.wrapping_add_u64.ensures.value c.wrapping_add_u64-2.ensures.value (differs_is c.args.same)
