use Prim.Native.Nat.{◌+◌, ◌*◌}
use mathlib.Core.Path.{◌≡◌}
use Rattle.hbc_buffer.specs.Private.{kinds_from, payloads_from}
use Rattle.hbc_buffer.proofs.fill_short.Given as goal

-- i kinds and i payloads from `first` on are written, and p is where the bytes of the next value start.
abbrev pub invariant-loop-i : goal.invariant-loop-i
invariant-loop-i l =
    (l.p ≡ l.at + l.i * l.w) × (l.kinds ≡ kinds_from l.k l.first l.i l.initial.kinds) × (l.payloads ≡ payloads_from l.s l.at l.w l.first l.i l.initial.payloads)
