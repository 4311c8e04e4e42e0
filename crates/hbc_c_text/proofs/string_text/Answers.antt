use mathlib.Core.Path.{refl}
use Rattle.hbc_c_code.proofs.Tolds.{told_by}
use Rattle.hbc_c_text.proofs.string_text.Goals as goal

pub returns-in-Ok : goal.returns-in-Ok
returns-in-Ok c = told_by c.string_text.ensures c.in-Ok.is refl

pub returns-in-Err : goal.returns-in-Err
returns-in-Err c = told_by c.string_text.ensures c.in-Err.is c.code.ensures
