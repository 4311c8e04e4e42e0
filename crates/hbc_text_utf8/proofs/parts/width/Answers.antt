use Rattle.hbc_text_utf8.proofs.Steps.{is_width}
use borrow.Author.Tests.{lt-ltb, le-ltb}
use Rattle.hbc_text_utf8.proofs.parts.width.Goals as goal

pub returns-then-b-lt128 : goal.returns-then-b-lt128
returns-then-b-lt128 c = rw (is_width c.args.b c.ranges.b.fits, lt-ltb _ _ c.if-b-lt128.true)

pub returns-then-b-lt194 : goal.returns-then-b-lt194
returns-then-b-lt194 c = rw (is_width c.args.b c.ranges.b.fits, le-ltb _ _ c.if-b-lt128.false, lt-ltb _ _ c.if-b-lt194.true)

pub returns-then-b-lt224 : goal.returns-then-b-lt224
returns-then-b-lt224 c = rw (is_width c.args.b c.ranges.b.fits, le-ltb _ _ c.if-b-lt128.false, le-ltb _ _ c.if-b-lt194.false, lt-ltb _ _ c.if-b-lt224.true)

pub returns-then-b-lt240 : goal.returns-then-b-lt240
returns-then-b-lt240 c = rw (is_width c.args.b c.ranges.b.fits, le-ltb _ _ c.if-b-lt128.false, le-ltb _ _ c.if-b-lt194.false, le-ltb _ _ c.if-b-lt224.false, lt-ltb _ _ c.if-b-lt240.true)

pub returns-then-b-lt245 : goal.returns-then-b-lt245
returns-then-b-lt245 c = rw (is_width c.args.b c.ranges.b.fits, le-ltb _ _ c.if-b-lt128.false, le-ltb _ _ c.if-b-lt194.false, le-ltb _ _ c.if-b-lt224.false, le-ltb _ _ c.if-b-lt240.false, lt-ltb _ _ c.if-b-lt245.true)

pub returns : goal.returns
returns c = rw (is_width c.args.b c.ranges.b.fits, le-ltb _ _ c.if-b-lt128.false, le-ltb _ _ c.if-b-lt194.false, le-ltb _ _ c.if-b-lt224.false, le-ltb _ _ c.if-b-lt240.false, le-ltb _ _ c.if-b-lt245.false)
