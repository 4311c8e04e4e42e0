use Rattle.hbc_bits.proofs.Laws.{le_add}
use native.Mathlib.Omega.{arith}
use Rattle.hbc_text_utf8.proofs.runs.eight_bytes.Goals as goal

pub returns : goal.returns
returns c = omega (arith, le_add c.args.s.now c.args.at 4 4 (omega arith), c.four_bytes.ensures, c.four_bytes-2.ensures)
