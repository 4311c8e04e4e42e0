use Rattle.hbc_json.proofs.Laws.{Ample}
use Rattle.hbc_json.proofs.Strings.is_ample.Given as goal

abbrev pub invariant-loop-k : goal.invariant-loop-k
invariant-loop-k l = Ample l.self.storage.now l.self.rows.now l.self.count l.room l.left l.k
