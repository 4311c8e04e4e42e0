use Prim.Native.Nat.{◌-◌}
use Rattle.hbc_function_header.specs.Header.{function_at}
use Rattle.hbc_function_header.specs.Meets.{meets}
use Rattle.hbc_function.specs.Table.{share_by}
use Rattle.hbc_function.proofs.Passes.{Patched}
use Rattle.hbc_function.specs.Private.{Summed}
use Rattle.hbc_function.proofs.patch_each.Given as goal

-- all but `left` of the n functions that meet the span are before id, the table is the one lent with their rows, and these are their sums
abbrev pub invariant-loop-left : goal.invariant-loop-left
invariant-loop-left l =
    Patched (meets l.s l.layout l.start l.low l.high) (function_at l.s l.layout l.start) l.count l.n l.left l.id l.initial.table l.table
    × Summed (meets l.s l.layout l.start l.low l.high) (λ i. share_by (function_at l.s l.layout l.start i)) l.id (l.n - l.left) l.large l.sizes

abbrev pub decreases-loop-left : goal.decreases-loop-left
decreases-loop-left l =
    l.left
