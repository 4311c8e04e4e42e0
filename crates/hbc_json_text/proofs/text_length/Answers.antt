use Rattle.hbc_json_text.proofs.Parts.{empty_length}
use Rattle.hbc_json_text.proofs.text_length.Goals as goal

pub returns-then-s-eq0 : goal.returns-then-s-eq0
returns-then-s-eq0 c = empty_length c.args.wide c.args.s.now _ c.if-s-eq0.true
