use Rattle.hbc_text_utf8.proofs.Steps.{low_e0, low_f0, low_any}
use Rattle.hbc_text_utf8.proofs.parts.low.Goals as goal

pub returns-then-b-eq224 : goal.returns-then-b-eq224
returns-then-b-eq224 c = low_e0 _ c.ranges.b.fits c.if-b-eq224.true

pub returns-then-b-eq240 : goal.returns-then-b-eq240
returns-then-b-eq240 c = low_f0 _ c.ranges.b.fits c.if-b-eq224.false c.if-b-eq240.true

pub returns : goal.returns
returns c = low_any _ c.ranges.b.fits c.if-b-eq224.false c.if-b-eq240.false
