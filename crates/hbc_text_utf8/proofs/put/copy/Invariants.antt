use Rattle.hbc_text_utf8.proofs.Copies.{Copied}
use Rattle.hbc_text_utf8.proofs.put.copy.Given as goal

abbrev pub invariant-loop-i : goal.invariant-loop-i
invariant-loop-i l = Copied l.s l.initial.d 0 l.i l.d
