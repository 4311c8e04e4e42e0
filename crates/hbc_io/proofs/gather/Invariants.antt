use Prim.Native.Nat.{◌+◌, ◌-◌, ◌≤◌}
use mathlib.Core.Path.{◌≡◌}
use Rattle.hbc_bits.specs.Bits.{le_at}
use Rattle.hbc_io.proofs.gather.Given as goal

-- v is the number of the bytes from k up, those below it still to come in
abbrev pub invariant-loop-k : goal.invariant-loop-k
invariant-loop-k l = (l.k ≤ l.width) × (l.v ≡ le_at l.s (l.at + l.k) (l.width - l.k))
