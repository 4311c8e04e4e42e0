use Prim.Native.Nat.{◌*◌}
use Rattle.hbc_text_utf16.proofs.Weights.{Weighing}
use Rattle.hbc_text_utf16.proofs.counted.Given as goal

abbrev pub invariant-loop-i : goal.invariant-loop-i
invariant-loop-i l = Weighing l.s (2 * l.i) l.before l.n
