use Rattle.hbc_c_table.proofs.Parts.{part_told}
use Rattle.hbc_c_table.proofs.string_bytes.Goals as goal

pub returns : goal.returns
returns c = part_told c.string_span-p.ensures
