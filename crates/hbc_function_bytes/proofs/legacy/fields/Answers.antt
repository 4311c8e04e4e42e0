use mathlib.Core.Path.{refl}
use Rattle.hbc_function_bytes.specs.Bytes.{values_in}
use Rattle.hbc_function_bytes.proofs.legacy.fields.Goals as goal

pub returns : goal.returns
unfolding values_in
returns c = record { bits = refl; values = λ w. refl; in_order = refl }
