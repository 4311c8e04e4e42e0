use mathlib.Core.Path.{refl}
use Rattle.hbc_c_code.proofs.Tolds.{told_by}
use Rattle.hbc_c_function.proofs.refresh_table.Goals as goal

pub returns-in-Ok : goal.returns-in-Ok
returns-in-Ok c = told_by c.refresh_functions.ensures c.in-Ok.is refl

pub returns-in-Err : goal.returns-in-Err
returns-in-Err c = told_by c.refresh_functions.ensures c.in-Err.is c.code.ensures
