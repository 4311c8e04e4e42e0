use mathlib.Core.Path.{refl}
use Rattle.hbc_c_code.proofs.Tolds.{value_told}
use Rattle.hbc_c_parsing.proofs.read_handlers.Goals as goal

pub returns-in-Ok : goal.returns-in-Ok
returns-in-Ok c = value_told c.read_handlers.ensures c.in-Ok.is refl refl

pub returns-in-Err : goal.returns-in-Err
returns-in-Err c = value_told c.read_handlers.ensures c.in-Err.is c.code.ensures refl
