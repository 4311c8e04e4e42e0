use Rattle.hbc_text_utf8.proofs.Keeping.{eight_plain}
use borrow.Author.Tests.{eqb-true}
use native.Mathlib.Omega.{arith}
use Rattle.hbc_text_utf8.proofs.runs.is_plain.Goals as goal

pub returns : goal.returns
returns c = λ z. eight_plain _ _ _ (λ i. (c.type_inv.s i).fits) (omega arith) c.eight_bytes.ensures (eqb-true _ _ z)
