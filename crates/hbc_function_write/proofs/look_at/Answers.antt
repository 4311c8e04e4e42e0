use Rattle.std.proofs.lemmas.Bool.{not_from_false, not_from_true}
use mathlib.Core.Path.{sym, ap, ◌∙◌}
use borrow.Author.Tests.{not-true, not-false}
use Rattle.hbc_function_bytes.specs.Bytes.{right_row}
use Rattle.hbc_function_write.proofs.Plans.{looked_wrong, looked_next}
use Rattle.hbc_function_write.proofs.look_at.Goals as goal

pub returns-then-not-row_is_right : goal.returns-then-not-row_is_right
returns-then-not-row_is_right c = looked_wrong _ _ _ _ (ap (right_row _ _) (sym c.copied-row.ensures) ∙ sym c.row_is_right.ensures ∙ not-true _ (not_from_false _ c.if-not-row_is_right.true))

pub returns : goal.returns
returns c = looked_next _ _ _ _ (ap (right_row _ _) (sym c.copied-row.ensures) ∙ sym c.row_is_right.ensures ∙ not-false _ (not_from_true _ c.if-not-row_is_right.false)) (rw c.copied-row.ensures at c.with_large.ensures)
