use mathlib.Core.Path.{ap, sym, ◌∙◌}
use native.Mathlib.Omega.{arith}
use Rattle.hbc_io.specs.Answers.{answered}
use Rattle.hbc_buffer.proofs.Exits.{whole_used}
use Rattle.hbc_buffer.proofs.read_series.Goals as goal

pub write-requires : goal.write-requires
write-requires c =
    let tests = c in
    let inside = tests.if-s-from.false in
    let whole = whole_used (sym c.check.ensures ∙ ap answered c.in_ok-used.was) in
    (tests.if-s-gt-LIMIT.false, omega (arith, inside), omega arith, tests.if-kinds-n.false, tests.if-payloads-n.false, whole)
