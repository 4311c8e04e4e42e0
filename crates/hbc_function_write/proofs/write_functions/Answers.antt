use Rattle.std.proofs.Common.{rules, Err}
use mathlib.Core.Path.{◌≡◌, refl, ap}
use native.Mathlib.Omega.{arith}
use Rattle.hbc_io.specs.Answer.{refuses}
use Rattle.hbc_io.proofs.Exits.{stop, past, given, refused}
use Rattle.hbc_function_write.specs.Write.{write_answer}
use Rattle.hbc_function_write.proofs.Far.{call_refuses, call_before, call_short, call_fits, call_ends, call_room, call_inline}
use Rattle.hbc_function_write.proofs.write_functions.Goals as goal

pub returns-then-buffer-gt-LIMIT : goal.returns-then-buffer-gt-LIMIT
unfolding write_answer
returns-then-buffer-gt-LIMIT c = stop _ _ _ _ (omega arith) refl (ap refuses c.refuse.ensures)

pub returns-then-buffer-start : goal.returns-then-buffer-start
unfolding write_answer
returns-then-buffer-start c = past _ _ _ _ (omega arith) (stop _ _ _ _ (omega arith) refl (ap refuses c.refuse-then-buffer-start.ensures))

pub returns-then-rows-count : goal.returns-then-rows-count
unfolding write_answer
returns-then-rows-count c = past _ _ _ _ (omega arith) (past _ _ _ _ (omega arith) (stop _ _ _ _ (omega arith) refl (ap refuses c.refuse-then-rows-count.ensures)))

pub returns-then-large-table : goal.returns-then-large-table
unfolding write_answer
returns-then-large-table c = past _ _ _ _ (omega arith) (past _ _ _ _ (omega arith) (past _ _ _ _ (omega arith) (refused refl (call_before c.args.rows.now c.args.layout c.args.start c.args.count c.args.large c.args.buffer.now c.header_size.ensures c.nearest.ensures (λ k. omega (arith, c.type_inv.rows k)) (omega arith) _ c.check_rows.ensures c.in_ok-end.was c.if-large-table.true c.refuse-then-large-table.ensures))))

pub returns-then-buffer-end : goal.returns-then-buffer-end
unfolding write_answer
returns-then-buffer-end c = past _ _ _ _ (omega arith) (past _ _ _ _ (omega arith) (past _ _ _ _ (omega arith) (refused refl (call_short c.args.rows.now c.args.layout c.args.start c.args.count c.args.large c.args.buffer.now c.header_size.ensures c.nearest.ensures (λ k. omega (arith, c.type_inv.rows k)) (omega arith) _ c.check_rows.ensures c.in_ok-end.was (omega arith) c.if-buffer-end.true c.refuse-then-buffer-end.ensures))))

pub put_rows-requires : goal.put_rows-requires
put_rows-requires c = record { room = call_room c.args.rows.now c.args.layout c.args.start c.args.count c.args.large c.args.buffer.now c.header_size.ensures c.nearest.ensures (λ k. omega (arith, c.type_inv.rows k)) (omega arith) _ c.check_rows.ensures c.in_ok-end.was (omega arith) (omega arith); ends = call_ends c.args.rows.now c.args.layout c.args.start c.args.count c.args.large c.args.buffer.now c.header_size.ensures c.nearest.ensures (λ k. omega (arith, c.type_inv.rows k)) (omega arith) _ c.check_rows.ensures c.in_ok-end.was (omega arith) (omega arith); inlines = λ q. call_inline c.args.rows.now c.args.layout c.args.start c.args.count c.args.large c.args.buffer.now c.header_size.ensures c.nearest.ensures (λ k. omega (arith, c.type_inv.rows k)) (omega arith) _ c.check_rows.ensures c.in_ok-end.was (omega arith) (omega arith) q }

pub returns-in_err-end : goal.returns-in_err-end
unfolding write_answer
returns-in_err-end c =
    let e : c.from_residual.result ≡ Err c.in_err-end.field-0.0 = search rules in
    rw e (past _ _ _ _ (omega arith) (past _ _ _ _ (omega arith) (past _ _ _ _ (omega arith) (refused refl (call_refuses c.args.rows.now c.args.layout c.args.start c.args.count c.args.large c.args.buffer.now c.header_size.ensures c.nearest.ensures (λ k. omega (arith, c.type_inv.rows k)) (omega arith) _ c.check_rows.ensures c.in_err-end.was)))))

pub returns : goal.returns
unfolding write_answer
returns c = past _ _ _ _ (omega arith) (past _ _ _ _ (omega arith) (past _ _ _ _ (omega arith) (given refl (call_fits c.args.rows.now c.args.layout c.args.start c.args.count c.args.large c.args.buffer.now c.header_size.ensures c.nearest.ensures (λ k. omega (arith, c.type_inv.rows k)) (omega arith) _ c.check_rows.ensures c.in_ok-end.was (omega arith) (omega arith)) c.put_rows.ensures)))
