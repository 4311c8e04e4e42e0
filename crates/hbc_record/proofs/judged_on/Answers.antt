use Rattle.std.proofs.Common.{refl}
use Rattle.hbc_record.proofs.Recorded.{judged_is}
use Rattle.hbc_record.proofs.judged_on.Goals as goal

pub returns : goal.returns
returns c = judged_is _ _ _ _ _ c.listed-n.ensures c.is_listed.ensures refl
