use mathlib.Core.Path.{refl}
use Rattle.hbc_c_code.proofs.Tolds.{value_told}
use Rattle.hbc_c_text.proofs.strings_json.Goals as goal

pub returns-in-Ok : goal.returns-in-Ok
returns-in-Ok c = value_told c.strings_json.ensures c.in-Ok.is refl refl

pub returns-in-Err : goal.returns-in-Err
returns-in-Err c = value_told c.strings_json.ensures c.in-Err.is c.code.ensures refl
