use Prim.Native.Nat.{◌-◌, ◌≤◌}
use mathlib.Core.Path.{◌≡◌}
use lib.ListN.{length}
use Rattle.hbc_buffer.specs.Series.{kind_at, payload_at}
use Rattle.hbc_buffer.specs.Private.{Known, Goes, Writes}
use Rattle.hbc_buffer.proofs.write_same.Given as goal

-- as in past_same; and both tables have gone on with it.
abbrev pub invariant-loop-done : goal.invariant-loop-done
invariant-loop-done l =
    Goes l.s l.count l.first l.from l.done l.at × Known l.count l.done l.b l.size l.wide × (l.done ≤ l.count)
    × Writes kind_at l.s l.count l.first l.from l.done l.initial.kinds l.kinds × Writes payload_at l.s l.count l.first l.from l.done l.initial.payloads l.payloads
    × (length l.kinds ≡ length l.initial.kinds) × (length l.payloads ≡ length l.initial.payloads)

abbrev pub decreases-loop-done : goal.decreases-loop-done
decreases-loop-done l = length l.s - l.at
