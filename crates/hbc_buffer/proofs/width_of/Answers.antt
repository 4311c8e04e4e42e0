use native.Mathlib.Omega.{arith}
use Rattle.hbc_bits.proofs.Laws.{field_lt}
use Rattle.hbc_buffer.proofs.Tags.{width_nibble}
use Rattle.hbc_buffer.proofs.width_of.Goals as goal

pub overflow_cast-bits : goal.overflow_cast-bits
overflow_cast-bits c = omega (arith, c.bits.ensures, field_lt 3 4 3 c.args.b (omega arith))

pub overflow_mul-bits : goal.overflow_mul-bits
overflow_mul-bits c = omega (arith, c.bits.ensures, field_lt 3 4 3 c.args.b (omega arith))

pub returns : goal.returns
returns c = width_nibble _ c.bits.ensures c.bits-2.ensures
