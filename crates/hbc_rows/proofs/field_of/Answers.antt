use Rattle.hbc_rows.proofs.Laws.{field_fits}
use borrow.Author.Rules.{rules}
use Rattle.hbc_rows.proofs.field_of.Goals as goal

pub overflow_cast-result : goal.overflow_cast-result
overflow_cast-result c = record { fits = rw c.bits.ensures (field_fits _ _ _ _ (search rules)) }
