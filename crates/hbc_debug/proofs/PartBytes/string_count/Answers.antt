use native.Mathlib.Omega.{arith}
use Rattle.hbc_debug.proofs.Lists.{strings_counted, strings_not}
use Rattle.hbc_debug.proofs.PartBytes.string_count.Goals as goal

pub returns-in-Ok : goal.returns-in-Ok
returns-in-Ok c = strings_counted _ (omega arith) c.count_strings.ensures c.in-Ok.is

pub returns-in-Err : goal.returns-in-Err
returns-in-Err c = absurd (strings_not _ (omega arith) c.count_strings.ensures c.in-Err.is)
