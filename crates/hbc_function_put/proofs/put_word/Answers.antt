use Rattle.hbc_function_put.proofs.Puts.{four_stores}
use Rattle.hbc_function_put.proofs.put_word.Goals as goal

pub returns : goal.returns
returns c = four_stores _ _ _ _ _ _
