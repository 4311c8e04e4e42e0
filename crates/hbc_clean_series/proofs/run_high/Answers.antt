use Rattle.hbc_clean_series.proofs.Highs.{high_strings, high_others}
use Rattle.hbc_clean_series.proofs.run_high.Goals as goal

pub returns-then-kind-eq4 : goal.returns-then-kind-eq4
returns-then-kind-eq4 c = rw c.if-before.false (high_strings _ _ _ _ _ c.kind.ensures c.if-kind-eq4.true c.any_high.ensures)

pub returns : goal.returns
returns c = rw c.if-before.false (high_others _ _ _ _ _ c.kind.ensures c.if-kind-eq4.false)
