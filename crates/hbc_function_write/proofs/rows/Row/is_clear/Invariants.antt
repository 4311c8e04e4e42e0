use Rattle.hbc_function_write.proofs.Plains.{Clearing}
use Rattle.hbc_function_write.proofs.rows.Row.is_clear.Given as goal

abbrev pub invariant-loop-k : goal.invariant-loop-k
invariant-loop-k l = Clearing l.self.words.now l.masks l.k l.set
