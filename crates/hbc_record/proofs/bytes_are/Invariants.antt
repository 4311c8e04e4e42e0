use Rattle.hbc_record.proofs.Recorded.{Same}
use Rattle.hbc_record.proofs.bytes_are.Given as goal

-- same says whether the lengths and the bytes in front of i are the same
abbrev pub invariant-loop-i : goal.invariant-loop-i
invariant-loop-i l = Same l.a l.b l.i l.same
