use Rattle.hbc_text_utf8.proofs.Copies.{Copied}
use Prim.Native.Nat.{◌-◌}
use Rattle.hbc_text_utf8.proofs.put.copy_many.Given as goal

abbrev pub invariant-loop-i : goal.invariant-loop-i
invariant-loop-i l = Copied l.s l.initial.d 0 l.i l.d

abbrev pub decreases-loop-i : goal.decreases-loop-i
decreases-loop-i l = l.last - l.i
