use Prim.Native.Nat.{◌+◌, ◌*◌}
use mathlib.Core.Path.{◌≡◌}
use Rattle.hbc_buffer_literal.specs.Literal.{width_of}
use Rattle.hbc_buffer.specs.Private.{payloads_from}
use Rattle.hbc_buffer.proofs.fill_payloads.Given as goal

-- i payloads from `first` on are written, and p is where the bytes of the next value start.
abbrev pub invariant-loop-i : goal.invariant-loop-i
invariant-loop-i l =
    (l.p ≡ l.at + l.i * width_of l.tag) × (l.table ≡ payloads_from l.s l.at (width_of l.tag) l.first l.i l.initial.table)
