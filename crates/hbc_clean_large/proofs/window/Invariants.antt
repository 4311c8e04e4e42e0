use Rattle.hbc_function_record.specs.Record.{large_of}
use Rattle.hbc_clean_large.specs.Private.{spot_at, Filled, Least}
use Rattle.hbc_clean_large.proofs.window.Given as goal

-- the window is filled with functions 0 to id - 1, and `low` is the lowest of them that shares a byte with a later one, or best
abbrev pub invariant-loop-id : goal.invariant-loop-id
invariant-loop-id l = Filled (large_of l.layout) (spot_at l.s l.layout l.start) l.first l.id l.t × Least (large_of l.layout) (spot_at l.s l.layout l.start) l.first l.id l.best l.low
