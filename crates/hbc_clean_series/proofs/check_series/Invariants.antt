use Rattle.hbc_clean_series.proofs.Exits.{Reads}
use Rattle.hbc_clean_series.proofs.check_series.Given as goal

-- the first j series are read, and the lowest of them that break each rule are these.
abbrev pub invariant-loop-j : goal.invariant-loop-j
invariant-loop-j l = Reads l.strings l.keys l.values l.table l.j l.empty l.high
