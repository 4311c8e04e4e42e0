use Rattle.hbc_function_write.proofs.Checking.{Checking}
use Rattle.hbc_function_write.proofs.check.Given as goal

abbrev pub invariant-loop-id : goal.invariant-loop-id
invariant-loop-id g l = Checking l.rows.words.now g.F.Form.LAYOUT l.rows.count l.large l.table l.id l.plan
