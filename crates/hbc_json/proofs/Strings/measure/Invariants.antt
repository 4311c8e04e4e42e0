use Rattle.hbc_json.proofs.Laws.{Measuring}
use Rattle.hbc_json.proofs.Strings.measure.Given as goal

abbrev pub invariant-loop-k : goal.invariant-loop-k
invariant-loop-k l = Measuring l.self.storage.now l.self.rows.now l.self.count l.room l.n l.k
