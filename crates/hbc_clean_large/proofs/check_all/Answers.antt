use mathlib.Core.Path.{◌≡◌, refl, ap}
use native.Mathlib.Omega.{arith}
use Rattle.std.specs.Prelude.{Err}
use Rattle.std.proofs.lemmas.Grind.{common_steps}
use Rattle.hbc_io.specs.Answer.{asked}
use Rattle.hbc_function.specs.Table.{all, scan}
use Rattle.hbc_function.proofs.Laws.{step_read, step_refused, scan_more, scan_stops}
use Rattle.hbc_clean_large.proofs.Grounds.{here_by, readable_first, readable_next, asked_at}
use Rattle.hbc_clean_large.proofs.check_all.Goals as goal

pub loop-id-init : goal.loop-id-init
unfolding scan
loop-id-init c = (refl, readable_first)

pub returns-in_err-check_function-clause-result_value : goal.returns-in_err-check_function-clause-result_value
returns-in_err-check_function-clause-result_value c =
    let q : c.from_residual.result ≡ Err c.in_err-check_function.field-0.0 = grind (arith, common_steps) in
    let i = c.loop-id.id in
    rw q (ap asked (scan_stops all _ i _ i (omega arith) c.loop-id.invariant.0 (step_refused i _ refl (asked_at _ _ _ _ c.requires.0 c.requires.1 c.in_err-check_function.ensures))))

pub loop-id-preserved : goal.loop-id-preserved
loop-id-preserved c =
    let e = c.in_ok-check_function.ensures in
    (scan_more all _ _ _ c.loop-id.invariant.0 (step_read c.loop-id.id _ refl (asked_at _ _ _ _ c.requires.0 c.requires.1 e)), readable_next c.loop-id.invariant.1 (here_by _ _ _ _ c.requires.0 c.requires.1 e))
