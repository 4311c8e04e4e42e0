use Prim.Native.Nat.{◌+◌, ◌-◌}
use Rattle.hbc_rows.specs.Until.{until}
use Rattle.hbc_io_leb.specs.Signed.{sleb_at}
use Rattle.hbc_rows.proofs.Passes.{Ends, Written}
use Rattle.hbc_debug_scopes.specs.Scopes.{name_cell}
use Rattle.hbc_debug_scopes.proofs.write_names.Given as goal

-- n names are passed over, and their words stand from `at` on; the words still to be written make the table as it is to be
abbrev pub invariant-loop-n : goal.invariant-loop-n
invariant-loop-n l =
    let left = l.count - l.n in
    Ends (sleb_at l.s) l.count l.initial.here left l.n l.here
    × Written (sleb_at l.s) (name_cell l.strings) (until (sleb_at l.s) l.count l.initial.here) l.initial.names l.at left (l.at + l.n) l.here l.names
