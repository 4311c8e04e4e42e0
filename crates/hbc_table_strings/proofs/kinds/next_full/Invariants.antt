use mathlib.Core.Path.{◌≡◌}
use Rattle.hbc_table_strings.specs.Private.{next_full}
use Rattle.hbc_table_strings.proofs.kinds.next_full.Given as goal

-- before run r: all from the first on were empty, so that the run looked for is looked for from here
abbrev pub invariant-loop-r : goal.invariant-loop-r
invariant-loop-r l = next_full l.kinds l.run ≡ next_full l.kinds l.r
