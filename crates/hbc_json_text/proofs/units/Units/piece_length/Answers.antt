use Rattle.hbc_json_text.proofs.Parts.{says_piece}
use Rattle.hbc_json_text.proofs.units.Units.piece_length.Goals as goal

pub returns : goal.returns
returns c = says_piece c.args.self.wide c.args.self.bytes.now c.args.at c.args.e c.args.self.few c.args.room _ c.text_length.ensures
