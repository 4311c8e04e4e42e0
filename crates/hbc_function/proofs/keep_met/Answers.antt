use mathlib.Core.Path.{◌≡◌}
use native.Mathlib.Omega.{arith}
use Rattle.std.specs.Prelude.{Err}
use Rattle.std.proofs.lemmas.Grind.{common_steps}
use Rattle.hbc_function.proofs.Sums.{keep_first, keep_more, keep_stops, exchanged_by}
use Rattle.hbc_function.proofs.keep_met.Goals as goal

pub loop-id-init : goal.loop-id-init
loop-id-init c = keep_first c.requires.next

pub returns-in_err-totals : goal.returns-in_err-totals
returns-in_err-totals c =
    let q : c.from_residual.result ≡ Err c.in_err-totals.field-0.0 = grind (arith, common_steps) in
    rw q (keep_stops c.loop-id.invariant (omega arith) (exchanged_by _ _ c.in_err-totals.ensures c.share_at-old.ensures c.new_share-new.ensures))

pub loop-id-preserved : goal.loop-id-preserved
loop-id-preserved c = keep_more c.loop-id.invariant (omega arith) (exchanged_by _ _ c.in_ok-totals.ensures c.share_at-old.ensures c.new_share-new.ensures) c.next_met-id.ensures
