use Rattle.hbc_json_text.proofs.Clear.{eight_clear}
use Rattle.hbc_json_text.proofs.next.any_escaped.Goals as goal

pub returns : goal.returns
returns c = eight_clear c.args.s.now c.args.at _ _ _ _ _ _ _ _ c.is_escaped.ensures c.is_escaped-2.ensures c.is_escaped-3.ensures c.is_escaped-4.ensures c.is_escaped-5.ensures c.is_escaped-6.ensures c.is_escaped-7.ensures c.is_escaped-8.ensures
