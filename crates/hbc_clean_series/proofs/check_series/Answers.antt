use mathlib.Core.Path.{◌≡◌}
use native.Mathlib.Omega.{arith}
use Rattle.std.specs.Prelude.{Err}
use Rattle.std.proofs.lemmas.Grind.{common_steps}
use Rattle.hbc_clean_series.proofs.Exits.{reads_first, reads_more, reads_refused, reads_done}
use Rattle.hbc_clean_series.proofs.check_series.Goals as goal

pub loop-j-init : goal.loop-j-init
loop-j-init c = reads_first _ _ _ _

pub returns-in_err-marks : goal.returns-in_err-marks
returns-in_err-marks c =
    let q : c.from_residual.result ≡ Err c.in_err-marks.field-0.0 = grind (arith, common_steps) in
    rw q (reads_refused c.loop-j.invariant c.loop-j-test.true c.in_err-marks.ensures)

pub loop-j-preserved : goal.loop-j-preserved
loop-j-preserved c = reads_more c.loop-j.invariant c.loop-j-test.true c.in_ok-marks.ensures c.lower-empty.ensures c.lower-high.ensures

pub returns : goal.returns
returns c = reads_done c.loop-j.invariant (omega arith)
