use Rattle.hbc_text_utf16.proofs.Weights.{weight_1, weight_2, weight_3, weight_second}
use native.Mathlib.Omega.{arith}
use Rattle.hbc_text_utf16.proofs.weight.Goals as goal

pub returns-then-is_high-is_low : goal.returns-then-is_high-is_low
returns-then-is_high-is_low c = (weight_second _ _ (rw (← c.is_high.ensures, ← c.is_low.ensures) c.if-is_high-is_low.true), omega arith)

pub returns-then-u-lt128 : goal.returns-then-u-lt128
returns-then-u-lt128 c = (weight_1 _ _ (rw (← c.is_high.ensures, ← c.is_low.ensures) c.if-is_high-is_low.false) c.if-u-lt128.true, omega arith)

pub returns-then-u-lt2048 : goal.returns-then-u-lt2048
returns-then-u-lt2048 c = (weight_2 _ _ (rw (← c.is_high.ensures, ← c.is_low.ensures) c.if-is_high-is_low.false) c.if-u-lt128.false c.if-u-lt2048.true, omega arith)

pub returns : goal.returns
returns c = (weight_3 _ _ (rw (← c.is_high.ensures, ← c.is_low.ensures) c.if-is_high-is_low.false) c.if-u-lt2048.false c.requires, omega arith)
