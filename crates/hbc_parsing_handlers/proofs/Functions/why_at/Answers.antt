use mathlib.Core.Path.{refl}
use borrow.Author.Tests.{ne_eqb}
use Rattle.hbc_rows.proofs.Laws.{test_ne}
use Rattle.hbc_parsing_handlers.specs.Why.{table_at}
use Rattle.hbc_io.proofs.Exits.{is_below}
use Rattle.hbc_parsing_handlers.proofs.Laws.{info_inside, rounds_past}
use Rattle.hbc_io.specs.Answers.{says_moved}
use Rattle.hbc_io.proofs.Reading.{found}
use native.Mathlib.Omega.{arith}
use Rattle.hbc_parsing_handlers.proofs.Functions.why_at.Goals as goal

pub returns-in_default : goal.returns-in_default
unfolding table_at
returns-in_default c =
    let past = rounds_past _ _ _ _ _ (omega arith) (omega arith) (omega arith) (found says_moved c.align.ensures c.in_default.is) in
    info_inside _ _ _ (test_ne c.field_of.ensures c.if-field_of-eq0.false)
    (ne_eqb _ _ c.if-info-eq0.false)
    (omega (arith, c.if-file-from.false))
    (is_below _ _ _ _ (omega (arith, past)) refl)
