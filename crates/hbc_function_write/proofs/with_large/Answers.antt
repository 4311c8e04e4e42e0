use Rattle.hbc_function_write.proofs.Plans.{with_late}
use Rattle.hbc_function_write.proofs.with_large.Goals as goal

pub returns : goal.returns
returns c = with_late _ _ _ _ c.rounded_up.ensures c.large_size.ensures c.rounded_up-2.ensures c.first_late.ensures
