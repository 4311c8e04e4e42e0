use Prim.Native.Nat.{◌≤◌, ◌-◌}
use lib.Dec.{leb}
use Rattle.hbc_function_record.specs.declared.Layout.TheVariants.{Legacy16}
use Rattle.hbc_function_header.specs.Header.{function_at}
use Rattle.hbc_function.specs.Private.{Put, shares, Summed}
use Rattle.hbc_function.proofs.write_legacy.Given as goal

-- the table is the one lent, with the rows of functions `from` to id - 1, and these are their sums
abbrev pub invariant-loop-id : goal.invariant-loop-id
invariant-loop-id l =
    (l.id ≤ l.to) × ((l.from ≤ l.id) × (Put (leb l.from) (function_at l.s Legacy16 l.start) l.id l.initial.table l.table × Summed (leb l.from) (shares l.table) l.id (l.id - l.from) l.large l.sizes))

abbrev pub decreases-loop-id : goal.decreases-loop-id
decreases-loop-id l = l.to - l.id
