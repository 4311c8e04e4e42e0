use mathlib.Core.Path.{ap, ◌∙◌}
use native.Mathlib.Omega.{arith}
use Rattle.hbc_io.specs.Answer.{refuses}
use Rattle.hbc_function_header.proofs.Headers.{is_found, found_own, found_large, large_held}
use Rattle.hbc_function_header.proofs.find.read.Goals as goal

pub large-requires : goal.large-requires
large-requires c = (large_held _ _ _ c.where_at.ensures (rw c.in-Ok-Some.field-0-is at c.in-Ok-Some.is), omega arith)

pub returns-in-Ok-None : goal.returns-in-Ok-None
returns-in-Ok-None c = found_own _ _ _ c.where_at.ensures _ (rw c.in-Ok-None.field-0-is at c.in-Ok-None.is) c.own.ensures

pub returns-in-Ok-Some : goal.returns-in-Ok-Some
returns-in-Ok-Some c = found_large _ _ _ c.where_at.ensures _ (omega arith) (rw c.in-Ok-Some.field-0-is at c.in-Ok-Some.is) c.large.ensures

pub returns-in-Err : goal.returns-in-Err
returns-in-Err c = ap refuses c.refused.ensures ∙ is_found _ _ _ c.where_at.ensures _ c.in-Err.is
