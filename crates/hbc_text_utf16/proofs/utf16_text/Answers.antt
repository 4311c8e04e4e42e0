use Rattle.hbc_text_utf16.proofs.Whole.{wide_odd, wide_put}
use Rattle.hbc_text_utf16.proofs.utf16_text.Goals as goal

pub returns-then-s-ne0 : goal.returns-then-s-ne0
returns-then-s-ne0 c = wide_odd _ _ c.if-s-gt-LIMIT.false c.if-s-ne0.true

pub returns-then-enough : goal.returns-then-enough
returns-then-enough c =
    let asked = c in
    wide_put _ _ asked.if-s-ne0.false asked.enough.ensures asked.if-s-gt-LIMIT.false c.if-enough.true c.put_text.ensures.0 c.put_text.ensures.1
