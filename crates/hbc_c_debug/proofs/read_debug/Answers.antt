use mathlib.Core.Path.{refl}
use Rattle.hbc_c_code.proofs.Tolds.{value_told}
use Rattle.hbc_c_debug.proofs.read_debug.Goals as goal

pub returns-in-Ok : goal.returns-in-Ok
returns-in-Ok c = value_told c.read_debug.ensures c.in-Ok.is refl refl

pub returns-in-Err : goal.returns-in-Err
returns-in-Err c = value_told c.read_debug.ensures c.in-Err.is c.code.ensures refl
