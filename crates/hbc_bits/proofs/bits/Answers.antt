use Rattle.std.proofs.Common.{refl, rules, arith}
use Rattle.hbc_bits.specs.Bits.{field}
use Rattle.hbc_bits.proofs.Laws.{one_shl, field_past, field_wide}
use Rattle.hbc_bits.proofs.bits.Goals as goal

pub returns-then-first-ge64 : goal.returns-then-first-ge64
returns-then-first-ge64 c = field_past 64 _ _ _ (search rules) (omega arith)

pub returns-then-width-ge64 : goal.returns-then-width-ge64
returns-then-width-ge64 c = field_wide 64 _ _ _ (search rules) (omega arith)

pub returns : goal.returns
unfolding field
returns c = rw (one_shl 64 _ c.if-width-ge64.false) refl
