use Rattle.hbc_json_text.proofs.Pieces.{next_alone}
use Rattle.hbc_json_text.proofs.units.Units.follow.Goals as goal

pub returns-then-self-at-lt128 : goal.returns-then-self-at-lt128
returns-then-self-at-lt128 c = rw c.if-self.false (next_alone _ _ c.if-at-self.true c.if-self-at-lt128.true)
