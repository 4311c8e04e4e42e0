use Rattle.hbc_json.proofs.Laws.{inside_says}
use Rattle.hbc_json.proofs.Strings.inside_length.Goals as goal

pub returns : goal.returns
returns c = inside_says _ _ _ c.is_marked.ensures c.string_bytes.ensures.bytes c.args.self.few _ c.escaped_length.result c.escaped_length.ensures
