use Rattle.hbc_json_text.specs.Private.{Passed}
use Rattle.hbc_json_text.proofs.next.next_byte.Given as goal

abbrev pub invariant-loop-e : goal.invariant-loop-e
invariant-loop-e l = Passed l.s l.at l.e
