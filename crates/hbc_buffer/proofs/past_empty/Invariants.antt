use Rattle.hbc_buffer.specs.Private.{Empties}
use Rattle.hbc_buffer.proofs.past_empty.Given as goal

-- only empty tags of one byte stand between `at` and p.
abbrev pub invariant-loop-p : goal.invariant-loop-p
invariant-loop-p l = Empties l.s l.at l.p
