use borrow.Author.Rules.{rules}
use native.Mathlib.Omega.{arith}
use mathlib.Core.Path.{◌≡◌}
use Rattle.std.specs.Prelude.{Err}
use Rattle.std.proofs.lemmas.Grind.{common_steps}
use Rattle.hbc_function.proofs.Passes.{met_first, met_more, met_stops}
use Rattle.hbc_function.proofs.Sums.{summed_first, summed_next, summed_more, solid_first, solid_step, old_stops}
use Rattle.hbc_function.proofs.check_met.Goals as goal

pub loop-id-init : goal.loop-id-init
loop-id-init c = (met_first c.requires.next, (summed_first _ _ 0 c.requires.next, (solid_first c.requires.next, omega arith)))

pub returns-in_err-check_at : goal.returns-in_err-check_at
returns-in_err-check_at c =
    let q : c.from_residual.result ≡ Err c.in_err-check_at.field-0.0 = grind (arith, common_steps) in
    rw q (old_stops _ (met_stops c.loop-id.invariant.0 (omega arith) c.in_err-check_at.ensures), tt)

pub loop-id-preserved : goal.loop-id-preserved
loop-id-preserved c =
    let v = c.loop-id.invariant in let h = v.0.met c.loop-id-test.true in let r = c.in_ok-check_at.ensures in
    let b = c.next_met-id.ensures.skipped.after in (
      met_more v.0 (omega arith) r c.next_met-id.ensures,
      (
        summed_next _ _ c.next_met-id.ensures (summed_more _ _ v.1.0 h c.share_at-share.ensures (search rules) (search rules)),
        solid_step v.1.1 (omega arith) h r c.end_after-end.ensures b,
      ),
    )
