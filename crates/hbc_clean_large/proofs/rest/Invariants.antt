use Prim.Native.Nat.{◌-◌, ◌^◌, ◌≤◌}
use Rattle.hbc_function_record.specs.Record.{large_of}
use Rattle.hbc_clean_large.specs.Private.{spot_at, SweptOn}
use Rattle.hbc_clean_large.proofs.rest.Given as goal

-- whatever was found where one of two starts below slot `from`, `low` is what is found where one starts below slot `first`
abbrev pub invariant-loop-first : goal.invariant-loop-first
invariant-loop-first l = (l.first ≤ 2 ^ 41) × SweptOn (large_of l.layout) (spot_at l.s l.layout l.start) l.from l.first l.count l.best l.low

abbrev pub decreases-loop-first : goal.decreases-loop-first
decreases-loop-first l = 2 ^ 42 - l.first
