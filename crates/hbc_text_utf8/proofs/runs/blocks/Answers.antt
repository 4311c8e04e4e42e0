use Rattle.hbc_text_utf8.proofs.Keeping.{kept_join, kept_many, kept_last}
use native.Mathlib.Omega.{arith}
use Rattle.hbc_text_utf8.proofs.runs.blocks.Goals as goal

pub loop-e-preserved : goal.loop-e-preserved
loop-e-preserved c = kept_join _ _ _ _ c.loop-e.invariant (kept_many _ _ 8 (omega (arith, c.loop-e.invariant.inside, c.loop-e-test.true)) (c.is_plain.ensures c.if-is_plain.true))

pub returns-then-is_plain-2 : goal.returns-then-is_plain-2
returns-then-is_plain-2 c = kept_last _ _ 8 c.loop-e.invariant (omega (arith, c.loop-e.invariant.inside, c.if-e-lt8.false)) c.loop-e-test.false (c.is_plain-2.ensures c.if-is_plain-2.true)
