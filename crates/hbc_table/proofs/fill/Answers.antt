use Rattle.hbc_rows.proofs.Laws.{filled_more}
use Rattle.hbc_rows.specs.Rows.{filled}
use mathlib.Core.Path.{refl}
use Rattle.hbc_table.proofs.fill.Goals as goal

pub loop-i-init : goal.loop-i-init
unfolding filled
loop-i-init c = refl

pub loop-i-preserved : goal.loop-i-preserved
loop-i-preserved c = rw (c.loop-i.invariant, c.word.ensures) (filled_more _ _ _)
