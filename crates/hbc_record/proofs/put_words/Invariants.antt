use Rattle.hbc_record.proofs.Recorded.{Put}
use Rattle.hbc_record.proofs.put_words.Given as goal

abbrev pub invariant-loop-i : goal.invariant-loop-i
invariant-loop-i l = Put l.words l.initial.table l.i l.table
