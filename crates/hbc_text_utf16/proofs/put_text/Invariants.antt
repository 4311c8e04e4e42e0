use Prim.Native.Nat.{◌-◌}
use lib.ListN.{length}
use Rattle.hbc_text_utf16.proofs.Steps.{Putting}
use Rattle.hbc_text_utf16.proofs.put_text.Given as goal

-- the text up to a place between two units is written, and what is behind it is as it was lent
abbrev pub invariant-loop-at : goal.invariant-loop-at
invariant-loop-at l = Putting l.s l.initial.d l.at l.n l.d

abbrev pub decreases-loop-at : goal.decreases-loop-at
decreases-loop-at l = length l.s - l.at
