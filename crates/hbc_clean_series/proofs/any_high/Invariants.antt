use Prim.Native.Nat.{◌+◌, ◌*◌}
use mathlib.Core.Path.{◌≡◌}
use Rattle.hbc_buffer_literal.specs.Literal.{width_of}
use Rattle.hbc_lowest.proofs.Laws.{None}
use Rattle.hbc_clean_series.specs.Private.{high_in}
use Rattle.hbc_clean_series.proofs.any_high.Given as goal

-- none of the first i values is high, and value i starts at p.
abbrev pub invariant-loop-i : goal.invariant-loop-i
invariant-loop-i l = None (high_in l.strings l.s l.at l.sort) l.i × (l.p ≡ l.at + l.i * width_of l.sort)
