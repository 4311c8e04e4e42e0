use Rattle.std.proofs.Common.{arith}
use Rattle.hbc_record.proofs.Recorded.{front_all}
use Rattle.hbc_record.proofs.lent_longs.Goals as goal

pub returns-then-t-k : goal.returns-then-t-k
returns-then-t-k c = front_all _ _ (omega arith)
