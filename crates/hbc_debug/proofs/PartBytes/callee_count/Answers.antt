use native.Mathlib.Omega.{arith}
use Rattle.hbc_debug.proofs.Lists.{callees_counted, callees_not}
use Rattle.hbc_debug.proofs.PartBytes.callee_count.Goals as goal

pub returns-in-Ok : goal.returns-in-Ok
returns-in-Ok c = callees_counted _ (omega arith) _ c.count_callees.ensures c.in-Ok.is

pub returns-in-Err : goal.returns-in-Err
returns-in-Err c = absurd (callees_not _ (omega arith) _ c.count_callees.ensures c.in-Err.is)
