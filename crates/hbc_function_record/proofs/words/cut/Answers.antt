use mathlib.Core.Path.{sym, ◌∙◌}
use native.Mathlib.Omega.{arith}
use Rattle.hbc_bits.proofs.Laws.{field_low, field_high}
use Rattle.hbc_function_record.proofs.words.cut.Goals as goal

pub returns-then-f-lt64 : goal.returns-then-f-lt64
returns-then-f-lt64 c = c.bits.ensures ∙ sym (field_low 64 _ _ _ _ (omega (arith, c.requires.end, c.if-f-lt64.true)))

pub returns-else-f-lt64 : goal.returns-else-f-lt64
returns-else-f-lt64 c = c.bits-else-f-lt64.ensures ∙ sym (field_high 64 _ _ _ _ c.ranges.lo.fits c.if-f-lt64.false)
