use Prim.Native.Nat.{◌-◌}
use Rattle.hbc_function_record.specs.declared.Layout.TheVariants.{Legacy16}
use Rattle.hbc_function_header.specs.Header.{function_at}
use Rattle.hbc_function.specs.Private.{Ran}
use Rattle.hbc_function.proofs.write_legacy_run.Given as goal

-- the rows of functions `from` to id - 1 were written, and these are their sums
abbrev pub invariant-loop-id : goal.invariant-loop-id
invariant-loop-id l = Ran (function_at l.s Legacy16 l.start) l.from l.to l.initial.table l.id l.large l.sizes l.table

abbrev pub decreases-loop-id : goal.decreases-loop-id
decreases-loop-id l = l.to - l.id
