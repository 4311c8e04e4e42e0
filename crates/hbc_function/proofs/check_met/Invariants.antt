use Prim.Native.Nat.{◌-◌, ◌≤◌}
use Rattle.hbc_function_header.specs.Header.{function_at}
use Rattle.hbc_function_header.specs.Meets.{meets}
use Rattle.hbc_function.proofs.Passes.{Met}
use Rattle.hbc_function.specs.Private.{shares, Summed, Solid}
use Rattle.hbc_function.proofs.check_met.Given as goal

-- n of functions 0 to id - 1 meet the span, each of them can be read, and id is the next that meets it, if one does; these are the sums of their old
-- rows; and from the first on to `end` all meet it
abbrev pub invariant-loop-id : goal.invariant-loop-id
invariant-loop-id l =
    Met (meets l.s l.layout l.start l.low l.high) (function_at l.s l.layout l.start) l.count l.id l.n
    × (Summed (meets l.s l.layout l.start l.low l.high) (shares l.table) l.id l.n l.large l.sizes
    × (Solid (meets l.s l.layout l.start l.low l.high) (function_at l.s l.layout l.start) l.first l.count l.end × (l.end ≤ l.id)))

abbrev pub decreases-loop-id : goal.decreases-loop-id
decreases-loop-id l = l.count - l.id
