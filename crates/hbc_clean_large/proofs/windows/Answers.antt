use Rattle.hbc_clean_large.proofs.Sweeping.{swept_first, swept_next}
use Rattle.hbc_clean_large.proofs.windows.Goals as goal

pub returns : goal.returns
returns c = c.rest.ensures.on _ _ (swept_next c.args.layout _ _ (swept_first c.args.layout _ _ _ _) c.window-low.ensures)
