use Rattle.hbc_text_forms.proofs.Exits.{is_long, is_small, is_put}
use Rattle.hbc_text_utf8.proofs.Measuring.{room_is, room_less}
use Rattle.hbc_text_utf8.proofs.utf8_text.Goals as goal

pub returns-then-s-gt-LIMIT : goal.returns-then-s-gt-LIMIT
returns-then-s-gt-LIMIT c = is_long _ _ _ c.if-s-gt-LIMIT.true c.refuse.ensures

pub returns-then-enough : goal.returns-then-enough
returns-then-enough c = is_put _ _ _ c.if-s-gt-LIMIT.false (room_is _ _ (rw c.of-begun.ensures at c.enough.ensures) c.if-enough.true) (rw c.of-begun.ensures at c.put.ensures.0) (rw c.of-begun.ensures at c.put.ensures.1)

pub returns : goal.returns
returns c = is_small _ _ _ c.if-s-gt-LIMIT.false (room_less _ _ (rw c.of-begun.ensures at c.enough.ensures) c.if-enough.false) c.refuse-2.ensures
