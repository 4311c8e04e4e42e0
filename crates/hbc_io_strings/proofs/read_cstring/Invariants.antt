use Prim.Native.Nat.{◌+◌, ◌-◌}
use mathlib.Core.Path.{◌≡◌}
use lib.ListN.{drop}
use Rattle.hbc_io_strings.specs.Strings.{before0}
use Rattle.hbc_io_strings.proofs.read_cstring.Given as goal

-- no byte from at to before i is a zero
abbrev pub invariant-loop-i : goal.invariant-loop-i
invariant-loop-i l = before0 (drop l.at l.s) ≡ (l.i - l.at) + before0 (drop l.i l.s)
