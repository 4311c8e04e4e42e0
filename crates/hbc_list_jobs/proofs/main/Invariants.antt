use Rattle.std.proofs.Common.{◌-◌, ◌≤◌}
use Rattle.hbc_list_jobs.proofs.main.Given as goal

-- the cases before `at` were run, of the n bytes that were read
abbrev pub invariant-loop-at : goal.invariant-loop-at
invariant-loop-at l = l.n ≤ 120000

abbrev pub decreases-loop-at : goal.decreases-loop-at
decreases-loop-at l = l.n - l.at
