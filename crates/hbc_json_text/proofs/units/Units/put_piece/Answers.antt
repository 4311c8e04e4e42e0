use Rattle.hbc_json_text.proofs.Parts.{empty_piece, is_piece}
use Rattle.hbc_json_text.proofs.units.Units.put_piece.Goals as goal

pub returns-then-at-e : goal.returns-then-at-e
returns-then-at-e c = empty_piece c.args.self.wide c.args.self.bytes.now c.args.d.now _ _ _ c.if-at-e.true

pub returns : goal.returns
returns c = rw c.unwrap_or.ensures (is_piece _ _ _ _ c.args.self.few c.args.d.now c.args.n c.requires.2 c.put_text.ensures)
