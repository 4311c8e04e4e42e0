use Prim.Native.Nat.{◌-◌, ◌≤◌}
use lib.ListN.{length}
use Rattle.hbc_rows.proofs.Passes.{Counted, Summed}
use Rattle.hbc_io_leb.specs.Numbers.{exact}
use Rattle.hbc_debug_parts.proofs.Along.{Marked}
use Rattle.hbc_debug_scopes.specs.Scopes.{scope_at, scopes_of, name_count, numbers_at, scope_numbers}
use Rattle.hbc_debug_scopes.proofs.count.Given as goal

-- n scopes and their names are counted, and the scopes still to be read are the end of all, with the mark of all; a name takes a byte, so there are no more than bytes
abbrev pub invariant-loop-n : goal.invariant-loop-n
invariant-loop-n l =
    let left = length l.s - l.n in
    Counted (scope_at l.s) (scopes_of l.s) (length l.s) left l.n l.here × Summed (scope_at l.s) name_count (scopes_of l.s) left l.names l.here × (l.names ≤ l.here.at) × (l.here.at ≤ length l.s)
    × Marked (scope_at l.s) (numbers_at l.s) exact (scope_numbers l.s) left l.here l.exact
