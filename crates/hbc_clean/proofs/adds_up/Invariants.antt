use Prim.Native.Nat.{◌≤◌}
use mathlib.Core.Path.{◌≡◌}
use Rattle.hbc_table_strings.specs.Hermes.{lengths}
use Rattle.hbc_clean.proofs.adds_up.Given as goal

-- the lengths of the first runs, so many, are added up, and not above the count
abbrev pub invariant-loop-run : goal.invariant-loop-run
invariant-loop-run l = (l.sum ≡ lengths l.kinds l.run) × (l.sum ≤ l.strings)
