use Prim.Native.Nat.{◌+◌, ◌%◌, ◌^◌}
use mathlib.Core.Path.{◌≡◌}
use lib.ListN.{take, drop}
use Rattle.hbc_io_leb.specs.Leb.{going, groups}
use Rattle.hbc_io_leb.proofs.read_groups.Given as goal

-- the k bytes looked at all say that another follows, and v is the low 64 bits of their groups
abbrev pub invariant-loop-k : goal.invariant-loop-k
invariant-loop-k l = (going (drop l.at l.s) ≡ l.k + going (drop (l.at + l.k) l.s)) × (l.v ≡ groups (take l.k (drop l.at l.s)) % 2 ^ 64)
