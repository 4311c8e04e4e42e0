use Rattle.hbc_table_strings.proofs.Laws.{Written}
use Rattle.hbc_table_strings.proofs.write.Given as goal

-- before string i: the run held and the pairs taken are those of the i strings before it, whose rows are in front of the table as it was lent
abbrev pub invariant-loop-i : goal.invariant-loop-i
invariant-loop-i l = Written l.mode l.kinds l.small l.overflow l.storage l.i l.held l.taken l.initial.rows l.rows
