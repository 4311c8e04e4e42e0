use native.Mathlib.Omega.{arith}
use Rattle.hbc_debug.proofs.Lists.{callees_put}
use Rattle.hbc_debug.proofs.PartBytes.put_callees.Goals as goal

pub returns : goal.returns
returns c = callees_put _ _ _ _ (omega arith) (omega arith) (omega arith) c.write_callees.ensures
