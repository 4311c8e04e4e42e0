use Rattle.hbc_lowest.proofs.Laws.{None}
use Rattle.hbc_clean.specs.Strings.{empty_run}
use Rattle.hbc_clean.proofs.empty_run.Given as goal

-- none of the first runs is empty
abbrev pub invariant-loop-run : goal.invariant-loop-run
invariant-loop-run l = None (empty_run l.kinds) l.run
