use Prim.Native.Nat.{◌-◌, ◌*◌}
use lib.ListN.{length}
use Rattle.hbc_io_strings.specs.Strings.{prefixed}
use Rattle.hbc_rows.proofs.Passes.{Written}
use Rattle.hbc_debug_strings.specs.Strings.{strings_of, string_width, string_row}
use Rattle.hbc_debug_strings.proofs.write_rows.Given as goal

-- the rows still to be written, over the table as it is, make the table as it is to be
abbrev pub invariant-loop-n : goal.invariant-loop-n
invariant-loop-n l = Written (prefixed l.part) (string_row l.base) (strings_of l.part) l.initial.rows 0 (length l.part - l.n) (string_width * l.n) l.here l.rows
