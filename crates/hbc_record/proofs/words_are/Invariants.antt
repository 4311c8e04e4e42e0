use Rattle.std.proofs.Common.{true}
use Rattle.hbc_record.specs.Records.{fill}
use Rattle.hbc_record.proofs.Recorded.{Listed}
use Rattle.hbc_record.proofs.words_are.Given as goal

-- j says whether the words that were looked at are the ones listed, and where the next one stands
abbrev pub invariant-loop-came : goal.invariant-loop-came
invariant-loop-came l = Listed true l.list fill l.t l.came-index l.j
