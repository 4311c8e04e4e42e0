use Rattle.hbc_json_text.proofs.Pieces.{UnitsPassed}
use Rattle.hbc_json_text.proofs.next.next_unit.Given as goal

abbrev pub invariant-loop-e : goal.invariant-loop-e
invariant-loop-e l = UnitsPassed l.s l.at l.e
