use mathlib.Core.Path.{refl}
use Rattle.hbc_c_parsing.proofs.Parsed.{why_told}
use Rattle.hbc_c_parsing.proofs.why_no_handlers.Goals as goal

pub returns-in-Ok-Ok : goal.returns-in-Ok-Ok
returns-in-Ok-Ok c = why_told c.why_no_handlers.ensures (rw c.in-Ok-Ok.field-0-is at c.in-Ok-Ok.is) refl refl

pub returns-in-Ok-Err : goal.returns-in-Ok-Err
returns-in-Ok-Err c = why_told c.why_no_handlers.ensures (rw c.in-Ok-Err.field-0-is at c.in-Ok-Err.is) c.reason_number.ensures refl

pub returns-in-Err : goal.returns-in-Err
returns-in-Err c = why_told c.why_no_handlers.ensures c.in-Err.is c.code.ensures refl
