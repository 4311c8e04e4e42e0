use Prim.Native.Nat.{◌-◌}
use mathlib.Core.Path.{◌≡◌}
use lib.ListN.{length}
use Rattle.hbc_buffer.specs.Private.{Passed}
use Rattle.hbc_lowest.specs.Lowest.{some}
use Rattle.hbc_clean_series.specs.Series.{high_string}
use Rattle.hbc_clean_series.proofs.Gaps.{Flag}
use Rattle.hbc_clean_series.proofs.walk.Given as goal

-- `done` values are read and the tag at `at` is the next, with only empty tags before it (.0); the flag for those (.1), and for a string number too high (.2).
abbrev pub invariant-loop-done : goal.invariant-loop-done
invariant-loop-done l =
    Passed l.s l.from l.count l.done l.at × Flag l.s l.from l.count l.done l.at l.empty × (l.high ≡ some (high_string l.strings l.s l.from) l.done)

abbrev pub decreases-loop-done : goal.decreases-loop-done
decreases-loop-done l = length l.s - l.at
