use Rattle.hbc_text_forms.proofs.Exits.{is_long, is_small, is_put}
use Rattle.hbc_json_text.proofs.Loops.{odd_put, room_is, room_less}
use Rattle.hbc_json_text.proofs.escaped_text.Goals as goal

pub returns-then-s-gt-LIMIT : goal.returns-then-s-gt-LIMIT
returns-then-s-gt-LIMIT c = is_long _ _ _ c.if-s-gt-LIMIT.true c.refuse.ensures

pub returns-then-is_odd : goal.returns-then-is_odd
returns-then-is_odd c = odd_put c.args.wide c.args.s.now _ (c.is_odd.ensures.0 c.if-is_odd.true) c.if-s-gt-LIMIT.false

pub returns-then-enough : goal.returns-then-enough
returns-then-enough c = is_put _ _ _ c.if-s-gt-LIMIT.false (room_is c.args.wide c.args.s.now _ c.enough.ensures c.if-enough.true) c.put_all.ensures.0 c.put_all.ensures.1

pub returns : goal.returns
returns c = is_small _ _ _ c.if-s-gt-LIMIT.false (room_less c.args.wide c.args.s.now _ c.enough.ensures c.if-enough.false) c.refuse-2.ensures
