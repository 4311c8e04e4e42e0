use Rattle.hbc_table_strings.proofs.Laws.{Clear}
use Rattle.hbc_table_strings.proofs.check.Given as goal

-- before string i: none of the i strings before it lacks its pair, and so many pairs are needed for them
abbrev pub invariant-loop-i : goal.invariant-loop-i
invariant-loop-i l = Clear l.mode l.small l.pairs l.i l.needed
