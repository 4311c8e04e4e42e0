use Rattle.hbc_table.specs.Table.{words_from}
use Rattle.hbc_rows.specs.Rows.{filled}
use mathlib.Core.Path.{◌≡◌}
use Rattle.hbc_table.proofs.fill.Given as goal

-- so many words are in front, the rest of the table is as it was lent
abbrev pub invariant-loop-i : goal.invariant-loop-i
invariant-loop-i l = l.table ≡ filled (words_from l.s l.at) l.i l.initial.table
