use Rattle.std.proofs.Common.{false}
use Rattle.hbc_record.specs.Records.{fill_long}
use Rattle.hbc_record.proofs.Recorded.{Listed}
use Rattle.hbc_record.proofs.are.Given as goal

-- j says whether the numbers that were looked at are the ones listed, and where the next one stands
abbrev pub invariant-loop-came : goal.invariant-loop-came
invariant-loop-came l = Listed false l.list fill_long l.t l.came-index l.j
