use Rattle.hbc_bits.proofs.Laws.{le_four}
use native.Mathlib.Omega.{arith}
use Rattle.hbc_text_utf8.proofs.runs.four_bytes.Goals as goal

pub returns : goal.returns
returns c = le_four _ _ (omega arith) c.from.ensures c.from-2.ensures c.from-3.ensures c.from-4.ensures
