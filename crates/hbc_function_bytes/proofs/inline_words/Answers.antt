use Rattle.hbc_function_bytes.specs.Bytes.{inline_number}
use Rattle.hbc_function_bytes.proofs.inline_words.Goals as goal

pub returns-in-Legacy16 : goal.returns-in-Legacy16
unfolding inline_number
returns-in-Legacy16 c = rw (c.in-Legacy16.is, ← c.fields.ensures.bits, ← c.fields.ensures.values c.args.row) c.header.ensures

pub returns-in-Modern12 : goal.returns-in-Modern12
unfolding inline_number
returns-in-Modern12 c = rw (c.in-Modern12.is, ← c.fields-in-Modern12.ensures.bits, ← c.fields-in-Modern12.ensures.values c.args.row) c.header-in-Modern12.ensures
