use mathlib.Core.Path.{◌≡◌}
use Rattle.hbc_buffer.specs.Private.{filled_from, kinds_from}
use Rattle.hbc_buffer.proofs.fill_none.Given as goal

-- i entries from `first` on are k and 0; the others are as they were.
abbrev pub invariant-loop-i : goal.invariant-loop-i
invariant-loop-i l = (l.kinds ≡ kinds_from l.k l.first l.i l.initial.kinds) × (l.payloads ≡ filled_from l.first l.i (λ _. 0) l.initial.payloads)
