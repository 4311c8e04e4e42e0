use mathlib.Core.Path.{◌≡◌, refl, ap}
use native.Mathlib.Omega.{arith}
use Rattle.std.specs.Prelude.{Err}
use Rattle.std.proofs.lemmas.Grind.{common_steps}
use Rattle.hbc_io.specs.Answer.{asked}
use Rattle.hbc_function.specs.Table.{all, scan}
use Rattle.hbc_function.proofs.Laws.{step_read, step_refused, scan_more, scan_stops}
use Rattle.hbc_function.proofs.check_modern.Goals as goal

pub loop-id-init : goal.loop-id-init
unfolding scan
loop-id-init c = refl

pub returns-in_err-check_at : goal.returns-in_err-check_at
returns-in_err-check_at c =
    let q : c.from_residual.result ≡ Err c.in_err-check_at.field-0.0 = grind (arith, common_steps) in
    let i = c.loop-id.id in
    rw q (ap asked (scan_stops all _ i _ i (omega arith) c.loop-id.invariant (step_refused i _ refl c.in_err-check_at.ensures)))

pub loop-id-preserved : goal.loop-id-preserved
loop-id-preserved c = scan_more all _ _ _ c.loop-id.invariant (step_read c.loop-id.id _ refl c.in_ok-check_at.ensures)
