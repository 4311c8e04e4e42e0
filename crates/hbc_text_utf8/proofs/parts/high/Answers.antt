use Rattle.hbc_text_utf8.proofs.Steps.{high_ed, high_f4, high_any}
use Rattle.hbc_text_utf8.proofs.parts.high.Goals as goal

pub returns-then-b-eq237 : goal.returns-then-b-eq237
returns-then-b-eq237 c = high_ed _ c.ranges.b.fits c.if-b-eq237.true

pub returns-then-b-eq244 : goal.returns-then-b-eq244
returns-then-b-eq244 c = high_f4 _ c.ranges.b.fits c.if-b-eq237.false c.if-b-eq244.true

pub returns : goal.returns
returns c = high_any _ c.ranges.b.fits c.if-b-eq237.false c.if-b-eq244.false
