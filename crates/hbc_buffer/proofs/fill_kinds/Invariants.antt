use mathlib.Core.Path.{◌≡◌}
use Rattle.hbc_buffer.specs.Private.{kinds_from}
use Rattle.hbc_buffer.proofs.fill_kinds.Given as goal

-- i entries from `first` on are k; the others are as they were.
abbrev pub invariant-loop-i : goal.invariant-loop-i
invariant-loop-i l = (l.table ≡ kinds_from l.k l.first l.i l.initial.table)
