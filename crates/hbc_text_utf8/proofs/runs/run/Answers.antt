use Rattle.hbc_text_utf8.proofs.Keeping.{kept_join, kept_one}
use Rattle.hbc_text_utf8.proofs.runs.run.Goals as goal

pub loop-e-preserved-then-s-e-lt128 : goal.loop-e-preserved-then-s-e-lt128
loop-e-preserved-then-s-e-lt128 c = kept_join _ _ _ _ c.loop-e.invariant (kept_one _ _ c.loop-e-test.true c.if-s-e-lt128.true)

pub loop-e-preserved : goal.loop-e-preserved
loop-e-preserved c = kept_join _ _ _ _ c.loop-e.invariant c.character-k.ensures.kept
