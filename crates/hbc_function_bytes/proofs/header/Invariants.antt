use Rattle.hbc_function_bytes.proofs.Words.{Packing}
use Rattle.hbc_function_bytes.proofs.header.Given as goal

abbrev pub invariant-loop-f : goal.invariant-loop-f
invariant-loop-f g l = Packing l.row l.f-items l.f-index l.words
