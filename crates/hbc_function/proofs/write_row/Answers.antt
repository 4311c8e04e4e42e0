use native.Mathlib.Omega.{arith}
use Rattle.hbc_function_header.proofs.Headers.{row_is}
use Rattle.hbc_function.proofs.write_row.Goals as goal

pub returns : goal.returns
returns c = row_is _ _ _ _ _ (omega arith) (omega arith) (omega arith) c.function_row.ensures
