use Rattle.hbc_text_utf8.proofs.Keeping.{run_join}
use Rattle.hbc_text_utf8.proofs.Begun.of.Goals as goal

pub invariant_of-result : goal.invariant_of-result
invariant_of-result c = record { run = run_join _ _ _ _ c.blocks-2.ensures c.run.ensures }
