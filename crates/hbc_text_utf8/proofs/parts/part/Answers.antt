use Rattle.hbc_text_utf8.proofs.Steps.{part_is}
use mathlib.Core.Path.{refl}
use Rattle.hbc_text_utf8.proofs.parts.part.Goals as goal

pub returns : goal.returns
returns c = part_is c.args.s.now c.args.at _ c.width-n.result c.low.result c.high.result c.follow.result refl c.width-n.ensures c.low.ensures c.high.ensures c.follow.ensures.0
