use Rattle.hbc_parsing_handlers.proofs.Laws.{Handled}
use Rattle.hbc_parsing_handlers.proofs.Functions.write_all.Given as goal

-- at its head the rows of functions 0 to i - 1 are put, and `first` counts them
abbrev pub invariant-loop-i : goal.invariant-loop-i
invariant-loop-i l = Handled l.self.file.now l.self.rows.now l.i l.first l.initial.rows l.rows
