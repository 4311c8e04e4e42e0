use Rattle.hbc_function_header.proofs.Headers.{row_of_layout}
use Rattle.hbc_function_header.proofs.find.row.Goals as goal

pub returns-in-Legacy16 : goal.returns-in-Legacy16
returns-in-Legacy16 c = row_of_layout _ _ _ _ _ c.in-Legacy16.is c.legacy_row.ensures

pub returns-in-Modern12 : goal.returns-in-Modern12
returns-in-Modern12 c = row_of_layout _ _ _ _ _ c.in-Modern12.is c.modern_row.ensures
