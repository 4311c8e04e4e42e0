use native.Mathlib.Omega.{arith}
use Rattle.hbc_debug.proofs.Lists.{strings_put}
use Rattle.hbc_debug.proofs.PartBytes.put_strings.Goals as goal

pub returns : goal.returns
returns c = strings_put _ _ _ _ (omega arith) (omega arith) (omega arith) c.write_strings.ensures
