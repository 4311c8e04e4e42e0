use Rattle.hbc_function_bytes.specs.Bytes.{values_in}
use Rattle.hbc_function_bytes.proofs.Words.{legacy_pointer}
use Rattle.hbc_function_bytes.proofs.legacy.pointer.Goals as goal

pub returns : goal.returns
unfolding values_in
returns c = legacy_pointer _
