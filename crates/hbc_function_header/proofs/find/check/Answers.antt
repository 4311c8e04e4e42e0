use mathlib.Core.Path.{ap, ◌∙◌}
use Rattle.hbc_io.specs.Answer.{refuses, asked}
use Rattle.hbc_function_header.proofs.Headers.{is_found, found_asked}
use Rattle.hbc_function_header.proofs.find.check.Goals as goal

pub returns-in-Ok : goal.returns-in-Ok
returns-in-Ok c = found_asked _ _ _ c.where_at.ensures _ c.in-Ok.is

pub returns-in-Err : goal.returns-in-Err
returns-in-Err c = ap refuses c.refused.ensures ∙ ap asked (is_found _ _ _ c.where_at.ensures _ c.in-Err.is)
