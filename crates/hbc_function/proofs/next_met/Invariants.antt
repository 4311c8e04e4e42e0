use Rattle.hbc_function_header.specs.Meets.{meets}
use Rattle.hbc_function.specs.Private.{Skipped}
use Rattle.hbc_function.proofs.next_met.Given as goal

-- none of functions `from` to id - 1 meets the span
abbrev pub invariant-loop-id : goal.invariant-loop-id
invariant-loop-id l = Skipped (meets l.s l.layout l.start l.low l.high) l.from l.count l.id
