use Rattle.hbc_function_write.proofs.Writing.{Writing}
use Rattle.hbc_function_write.proofs.put_all.Given as goal

abbrev pub invariant-loop-id : goal.invariant-loop-id
invariant-loop-id g l = Writing l.rows.words.now g.F.Form.LAYOUT l.start l.rows.count l.large l.initial.buffer l.id l.free l.buffer
