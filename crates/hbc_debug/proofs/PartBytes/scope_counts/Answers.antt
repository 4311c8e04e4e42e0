use native.Mathlib.Omega.{arith}
use Rattle.hbc_debug.proofs.Lists.{scopes_counted, scopes_not}
use Rattle.hbc_debug.proofs.PartBytes.scope_counts.Goals as goal

pub returns-in-Ok : goal.returns-in-Ok
returns-in-Ok c = scopes_counted _ (omega arith) c.count_scopes.ensures c.in-Ok.is

pub returns-in-Err : goal.returns-in-Err
returns-in-Err c = absurd (scopes_not _ (omega arith) c.count_scopes.ensures c.in-Err.is)
