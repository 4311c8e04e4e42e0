use Prim.Native.Nat.{◌-◌, ◌*◌, ◌≤◌}
use lib.ListN.{length}
use Rattle.hbc_rows.proofs.Passes.{Written, Rowed}
use Rattle.hbc_debug_scopes.specs.Scopes.{scope_at, scopes_of, name_count, scope_width, scope_row, name_row}
use Rattle.hbc_debug_scopes.proofs.write_rows.Given as goal

-- the rows and the names still to be written make the two tables as they are to be; a name takes a byte, so there are no more than bytes
abbrev pub invariant-loop-n : goal.invariant-loop-n
invariant-loop-n l =
    let left = length l.s - l.n in
    Rowed (scope_at l.s) scope_row name_count (scopes_of l.s) l.initial.rows left (scope_width * l.n) l.first l.here l.rows
    × Written (scope_at l.s) (name_row l.strings) (scopes_of l.s) l.initial.names 0 left l.first l.here l.names × (l.first ≤ l.here.at) × (l.here.at ≤ length l.s)
