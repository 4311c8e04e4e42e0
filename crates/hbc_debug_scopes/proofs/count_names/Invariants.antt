use Prim.Native.Nat.{◌-◌}
use Rattle.hbc_io_leb.specs.Signed.{sleb_at}
use Rattle.hbc_rows.proofs.Passes.{Ends}
use Rattle.hbc_io_leb.specs.Numbers.{exact}
use Rattle.hbc_debug_parts.specs.Along.{along}
use Rattle.hbc_debug_parts.proofs.Along.{Marked}
use Rattle.hbc_debug_scopes.specs.Scopes.{name_number}
use Rattle.hbc_debug_scopes.proofs.count_names.Given as goal

-- n names are passed over; those from here on, at most `left`, end where all of them end, and make the mark of all
abbrev pub invariant-loop-n : goal.invariant-loop-n
invariant-loop-n l =
    let left = l.count - l.n in
    Ends (sleb_at l.s) l.count l.initial.here left l.n l.here
    × Marked (sleb_at l.s) (name_number l.s) exact (along (sleb_at l.s) (name_number l.s) l.count l.initial.here) left l.here l.exact
