use Rattle.hbc_c_function.proofs.Grounds.{found_inline, found_large, found_not}
use Rattle.hbc_c_function.proofs.ground_code.Goals as goal

pub returns-in-Ok-Inline : goal.returns-in-Ok-Inline
returns-in-Ok-Inline c = found_inline (rw c.in-Ok-Inline.field-0-is at c.in-Ok-Inline.ensures)

pub returns-in-Ok-Large : goal.returns-in-Ok-Large
returns-in-Ok-Large c = found_large (rw c.in-Ok-Large.field-0-is at c.in-Ok-Large.ensures)

pub returns-in-Err : goal.returns-in-Err
returns-in-Err c = found_not c.in-Err.ensures c.code.ensures
