use Rattle.hbc_record.specs.Records.{same_float}
use Rattle.hbc_record.proofs.same_float.Goals as goal

pub returns : goal.returns
unfolding same_float
returns c = rw c.float_of-w.ensures
