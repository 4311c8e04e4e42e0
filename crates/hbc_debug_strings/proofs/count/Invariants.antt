use Prim.Native.Nat.{◌-◌}
use lib.ListN.{length}
use Rattle.hbc_io_leb.specs.Numbers.{exact}
use Rattle.hbc_io_strings.specs.Strings.{prefixed}
use Rattle.hbc_rows.proofs.Passes.{Counted}
use Rattle.hbc_debug_parts.proofs.Along.{Marked}
use Rattle.hbc_debug_strings.specs.Strings.{strings_of, prefix_number, string_numbers}
use Rattle.hbc_debug_strings.proofs.count.Given as goal

-- n strings are counted, and those still to be read from here are the end of all that the part has; so is what is met on the way
abbrev pub invariant-loop-n : goal.invariant-loop-n
invariant-loop-n l =
    let left = length l.part - l.n in
    Counted (prefixed l.part) (strings_of l.part) (length l.part) left l.n l.here × Marked (prefixed l.part) (prefix_number l.part) exact (string_numbers l.part) left l.here l.kept
