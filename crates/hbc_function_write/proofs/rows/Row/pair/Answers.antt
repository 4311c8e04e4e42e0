use mathlib.Core.Path.{refl}
use Rattle.hbc_function_write.specs.Private.{paired}
use Rattle.hbc_function_write.proofs.rows.Row.pair.Goals as goal

pub returns : goal.returns
unfolding paired
returns c = refl
