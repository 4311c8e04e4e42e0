use Prim.Native.Nat.{◌-◌}
use Rattle.hbc_function_header.specs.Header.{function_at}
use Rattle.hbc_function_header.specs.Meets.{meets}
use Rattle.hbc_function.specs.Table.{share_by}
use Rattle.hbc_function.specs.Private.{shares}
use Rattle.hbc_function.proofs.Sums.{Keeping}
use Rattle.hbc_function.proofs.keep_met.Given as goal

-- the rows of those of functions 0 to id - 1 that meet the span can be exchanged, which makes these totals; id is the next that meets it, if one does
abbrev pub invariant-loop-id : goal.invariant-loop-id
invariant-loop-id l =
    Keeping (meets l.s l.layout l.start l.low l.high) (shares l.table) (λ i. share_by (function_at l.s l.layout l.start i)) l.initial.totals l.count l.id l.totals

abbrev pub decreases-loop-id : goal.decreases-loop-id
decreases-loop-id l = l.count - l.id
