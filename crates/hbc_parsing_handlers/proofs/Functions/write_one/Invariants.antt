use Rattle.hbc_parsing_handlers.proofs.Laws.{Rowed}
use Rattle.hbc_parsing_handlers.proofs.Functions.write_one.Given as goal

-- at its head rows `first` to `first + j - 1` are those of the function's handlers 0 to j - 1
abbrev pub invariant-loop-j : goal.invariant-loop-j
invariant-loop-j l = Rowed l.file l.function l.place l.first l.j l.initial.rows l.rows
