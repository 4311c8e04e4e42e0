use Rattle.hbc_clean_large.specs.Private.{spot_at}
use Rattle.hbc_clean_large.proofs.Sweeping.{NotEarly}
use Rattle.hbc_clean_large.proofs.first_early.Given as goal

-- none of functions 0 to id - 1 starts before the end
abbrev pub invariant-loop-id : goal.invariant-loop-id
invariant-loop-id l = NotEarly (spot_at l.s l.layout l.start) l.end l.count l.id
