use mathlib.Core.Path.{refl, ap, ◌∙◌}
use native.Mathlib.Omega.{arith}
use Rattle.hbc_io.specs.Answer.{refuses, asked}
use Rattle.hbc_io.proofs.Exits.{given, refused}
use Rattle.hbc_function_header.proofs.Headers.{is_found, found_own, found_large, large_held, row_read}
use Rattle.hbc_function_header.proofs.find.legacy_row.Goals as goal

pub large-requires : goal.large-requires
large-requires c = (large_held _ _ _ c.where_at.ensures (rw c.in-Ok-Some.field-0-is at c.in-Ok-Some.is), omega arith)

pub returns-in-Ok-None : goal.returns-in-Ok-None
returns-in-Ok-None c =
    let e = found_own _ _ _ c.where_at.ensures _ (rw c.in-Ok-None.field-0-is at c.in-Ok-None.is) c.own.ensures in
    given refl (ap asked e) (row_read _ _ _ (omega arith) e c.row_words-words.ensures c.put_row.ensures)

pub returns-in-Ok-Some : goal.returns-in-Ok-Some
returns-in-Ok-Some c =
    let e = found_large _ _ _ c.where_at.ensures _ (omega arith) (rw c.in-Ok-Some.field-0-is at c.in-Ok-Some.is) c.large.ensures in
    given refl (ap asked e) (row_read _ _ _ (omega arith) e c.row_words-words-in-Ok-Some.ensures c.put_row-in-Ok-Some.ensures)

pub returns-in-Err : goal.returns-in-Err
returns-in-Err c = refused refl (ap refuses c.refused.ensures ∙ ap asked (is_found _ _ _ c.where_at.ensures _ c.in-Err.is))
