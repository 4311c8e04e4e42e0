use Rattle.hbc_json.proofs.Laws.{Putting}
use Rattle.hbc_json.proofs.Strings.put_array.Given as goal

abbrev pub invariant-loop-k : goal.invariant-loop-k
invariant-loop-k l = Putting l.self.storage.now l.self.rows.now l.self.count l.initial.out l.lead l.n l.k l.out
