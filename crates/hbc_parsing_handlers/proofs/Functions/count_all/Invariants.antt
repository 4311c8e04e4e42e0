use Rattle.hbc_parsing_handlers.proofs.Laws.{Counted}
use Rattle.hbc_parsing_handlers.proofs.Functions.count_all.Given as goal

-- at its head the sum counts the handlers of functions 0 to i - 1
abbrev pub invariant-loop-i : goal.invariant-loop-i
invariant-loop-i l = Counted l.self.file.now l.self.rows.now l.i l.sum
