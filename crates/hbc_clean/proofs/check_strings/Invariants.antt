use Rattle.hbc_clean.proofs.Judging.{Judged}
use Rattle.hbc_clean.proofs.check_strings.Given as goal

-- the first i strings have their pairs, and the lowest of them that is invalid is `low`
abbrev pub invariant-loop-i : goal.invariant-loop-i
invariant-loop-i l = Judged l.small l.overflow l.storage l.i l.low
