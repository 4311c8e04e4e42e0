use Rattle.hbc_json.proofs.Laws.{inside_put}
use Rattle.hbc_json.proofs.Strings.put_inside.Goals as goal

pub returns : goal.returns
returns c =
    rw c.unwrap_or.ensures
    (inside_put c.args.self.storage.now c.args.self.rows.now c.args.k c.is_marked.ensures c.string_bytes.ensures.bytes c.args.self.few c.args.out.now c.args.at c.requires c.escaped_text.ensures)
