use Rattle.hbc_rows.proofs.Words.{copied}
use Rattle.hbc_rows.proofs.store.Goals as goal

pub returns : goal.returns
returns c = let a = c.args in rw c.copy_from_slice.ensures.after (copied a.t.now a.row.now a.at c.requires)
