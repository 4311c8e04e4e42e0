use Prim.Native.Nat.{◌-◌}
use mathlib.Core.Path.{◌≡◌}
use lib.ListN.{length}
use Rattle.hbc_io.specs.Outcome.{cursor_at}
use Rattle.hbc_rows.specs.Rows.{filled}
use Rattle.hbc_buffer.specs.Series.{kind_at, payload_at}
use Rattle.hbc_buffer.specs.Private.{Passed, Known}
use Rattle.hbc_buffer.proofs.write.Given as goal

-- `done` of the values are read and the run that they end in is spent; of the last run the tag byte, length and width are kept; the first `done` entries
-- of both tables are the series'.
abbrev pub invariant-loop-done : goal.invariant-loop-done
invariant-loop-done l =
    Passed l.s l.from l.count l.done l.at × Known l.count l.done l.last l.size l.wide
    × (l.kinds ≡ filled (kind_at l.s (cursor_at l.from)) l.done l.initial.kinds) × (l.payloads ≡ filled (payload_at l.s (cursor_at l.from)) l.done l.initial.payloads)

abbrev pub decreases-loop-done : goal.decreases-loop-done
decreases-loop-done l = length l.s - l.at
