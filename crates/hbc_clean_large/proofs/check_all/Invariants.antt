use mathlib.Core.Path.{◌≡◌}
use Rattle.hbc_io.specs.Answer.{gives}
use Rattle.hbc_function_header.specs.Header.{function_at}
use Rattle.hbc_function.specs.Table.{all, scan}
use Rattle.hbc_clean_large.specs.Private.{Readable}
use Rattle.hbc_clean_large.proofs.check_all.Given as goal

-- each of functions 0 to id - 1 can be read
abbrev pub invariant-loop-id : goal.invariant-loop-id
invariant-loop-id l = (scan all (function_at l.s l.layout l.start) l.id ≡ gives l.id) × Readable l.s l.layout l.start l.id
