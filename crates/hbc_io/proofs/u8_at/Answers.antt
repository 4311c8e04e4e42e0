use Rattle.hbc_io.proofs.Plains.{word_lt}
use Rattle.hbc_io.proofs.u8_at.Goals as goal

pub overflow_cast-result : goal.overflow_cast-result
overflow_cast-result c = record { fits = rw c.peek.ensures (word_lt 1 _ _ (λ i. (c.type_inv.s i).fits)) }
