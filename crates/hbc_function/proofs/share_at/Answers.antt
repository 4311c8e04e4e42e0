use Rattle.hbc_function.proofs.Sums.{share_part}
use Rattle.hbc_function.proofs.share_at.Goals as goal

pub returns : goal.returns
returns c = share_part _ _ c.share_of.ensures
