use Rattle.hbc_io.specs.Answers.{says}
use Rattle.hbc_io.proofs.Reading.{found}
use Rattle.hbc_io.proofs.Plains.{plain_lt}
use Rattle.hbc_io.proofs.read_u8.Goals as goal

pub overflow_cast-result : goal.overflow_cast-result
overflow_cast-result c = record { fits = plain_lt 1 _ _ _ _ (λ i. (c.type_inv.s i).fits) (found says c.number.ensures c.in_ok-v.was) }
