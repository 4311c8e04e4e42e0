use native.Mathlib.Omega.{arith}
use Rattle.hbc_bits.proofs.Laws.{field_lt}
use Rattle.hbc_buffer.proofs.length_of.Goals as goal

pub overflow_mul-result : goal.overflow_mul-result
overflow_mul-result c = omega (arith, c.bits-2.ensures, field_lt 4 0 4 c.args.b (omega arith))

pub overflow_add-result : goal.overflow_add-result
overflow_add-result c = omega (arith, c.bits-2.ensures, c.requires, field_lt 4 0 4 c.args.b (omega arith))
