use Rattle.std.proofs.Common.{refl}
use Rattle.hbc_record.proofs.leaves.Goals as goal

pub returns : goal.returns
returns c = rw (← c.answers.ensures, ← c.words_are.ensures) refl
