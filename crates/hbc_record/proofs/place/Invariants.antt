use Rattle.hbc_record.proofs.Recorded.{Placed}
use Rattle.hbc_record.proofs.place.Given as goal

-- at is where field i stands
abbrev pub invariant-loop-i : goal.invariant-loop-i
invariant-loop-i l = Placed l.fields l.i l.at
