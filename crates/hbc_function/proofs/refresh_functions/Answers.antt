use mathlib.Core.Path.{◌≡◌, refl, ap, ◌∙◌}
use native.Mathlib.Omega.{arith}
use Rattle.hbc_io.specs.Outcome.{refusal_at}
use Rattle.hbc_io.specs.Answer.{refuses}
use Rattle.std.specs.Prelude.{Err}
use Rattle.std.proofs.lemmas.Grind.{common_steps}
use Rattle.hbc_io.proofs.Exits.{stop, past}
use Rattle.hbc_function.specs.Refresh.{refresh_answer}
use Rattle.hbc_function.proofs.Sums.{checked_met, checked_refused, settled, stopped, held_short}
use Rattle.hbc_function.proofs.refresh_functions.Goals as goal

pub returns-then-file-gt-LIMIT : goal.returns-then-file-gt-LIMIT
unfolding refresh_answer
returns-then-file-gt-LIMIT c = stop _ _ _ _ (omega arith) refl (ap refuses c.refuse.ensures)

pub returns-then-file-start : goal.returns-then-file-start
unfolding refresh_answer
returns-then-file-start c = past _ _ _ _ (omega arith) (stop _ _ _ _ (omega arith) refl (ap refuses c.refuse-then-file-start.ensures))

pub returns-then-high-low : goal.returns-then-high-low
unfolding refresh_answer
returns-then-high-low c = past _ _ _ _ (omega arith) (past _ _ _ _ (omega arith) (stop _ _ _ _ (omega arith) refl (ap refuses c.refuse-then-high-low.ensures)))

pub returns-then-file-high : goal.returns-then-file-high
unfolding refresh_answer
returns-then-file-high c = past _ _ _ _ (omega arith) (past _ _ _ _ (omega arith) (past _ _ _ _ (omega arith) (stop _ _ _ _ (omega arith) refl (ap refuses c.refuse-then-file-high.ensures))))

pub returns-then-table-count : goal.returns-then-table-count
unfolding refresh_answer
returns-then-table-count c = past _ _ _ _ (omega arith) (past _ _ _ _ (omega arith) (past _ _ _ _ (omega arith) (past _ _ _ _ (omega arith) (stop _ _ _ _ (omega arith) refl (ap refuses c.refuse-then-table-count.ensures)))))

pub returns-then-room-count : goal.returns-then-room-count
unfolding refresh_answer
returns-then-room-count c = past _ _ _ _ (omega arith) (past _ _ _ _ (omega arith) (past _ _ _ _ (omega arith) (past _ _ _ _ (omega arith) (past _ _ _ _ (omega arith) (stop _ _ _ _ (omega arith) refl (ap refuses (c.refuse-then-room-count.ensures ∙ ap (refusal_at 3) c.room_for-room.ensures)))))))

pub returns-in_err-met : goal.returns-in_err-met
unfolding refresh_answer
returns-in_err-met c =
    let q : c.from_residual.result ≡ Err c.in_err-met.field-0.0 = grind (arith, common_steps) in
    rw q (past _ _ _ _ (omega (arith, c.if-file-gt-LIMIT.false)) (past _ _ _ _ (omega (arith, c.if-file-start.false)) (past _ _ _ _ (omega (arith, c.if-high-low.false)) (past _ _ _ _ (omega (arith, c.if-file-high.false)) (past _ _ _ _ (omega (arith, c.if-table-count.false)) (past _ _ _ _ (omega (arith, c.if-room-count.false)) (stopped _ _ _ _ _ _ 0 _ (checked_refused _ _ c.in_err-met.ensures.0))))))))

pub settle-requires-clause-width_in_bounds : goal.settle-requires-clause-width_in_bounds
settle-requires-clause-width_in_bounds c =
    let h = held_short c.args.file.now c.args.layout c.args.start in let q = c.room_for-room.ensures in (omega arith, omega arith)

pub returns : goal.returns
unfolding refresh_answer
returns c =
    past _ _ _ _ (omega (arith, c.if-file-gt-LIMIT.false)) (past _ _ _ _ (omega (arith, c.if-file-start.false)) (past _ _ _ _ (omega (arith, c.if-high-low.false)) (past _ _ _ _ (omega (arith, c.if-file-high.false)) (past _ _ _ _ (omega (arith, c.if-table-count.false)) (past _ _ _ _ (omega (arith, c.if-room-count.false)) (settled _ _ _ _ _ _ _ _ (checked_met _ _ c.in_ok-met.ensures.0).0 c.settle.ensures))))))
