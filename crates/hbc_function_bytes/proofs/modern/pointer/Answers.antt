use Rattle.hbc_function_bytes.specs.Bytes.{values_in}
use Rattle.hbc_function_bytes.proofs.Words.{modern_pointer}
use Rattle.hbc_function_bytes.proofs.modern.pointer.Goals as goal

pub returns : goal.returns
unfolding values_in
returns c = modern_pointer _
