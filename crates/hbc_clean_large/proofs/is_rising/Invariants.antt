use Rattle.hbc_clean_large.specs.Private.{spot_at}
use Rattle.hbc_clean_large.proofs.Sweeping.{Rising}
use Rattle.hbc_clean_large.proofs.is_rising.Given as goal

-- the large headers of functions 0 to id - 1 rise, the first from the end on, the last up to `floor`
abbrev pub invariant-loop-id : goal.invariant-loop-id
invariant-loop-id l = Rising l.layout (spot_at l.s l.layout l.start) l.count l.end l.id l.floor
