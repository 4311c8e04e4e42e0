use native.Mathlib.Omega.{arith}
use Rattle.hbc_buffer_literal.proofs.Laws.{width_most}
use Rattle.hbc_buffer.proofs.Fills.{small_product}
use Rattle.hbc_buffer.proofs.fill.Goals as goal

pub overflow_mul-n : goal.overflow_mul-n
overflow_mul-n c =
    let start = c in
    omega (arith, small_product start.args.n start.args.w (omega (arith, c.if-n-lt16.true)) (rw start.requires.2 (width_most _)))

pub overflow_add-n : goal.overflow_add-n
overflow_add-n c =
    let start = c in
    omega (arith, small_product start.args.n start.args.w (omega (arith, c.if-n-lt16.true)) (rw start.requires.2 (width_most _)))

pub fill_short-requires : goal.fill_short-requires
fill_short-requires c =
    let pre = c.requires in
    (pre.0, omega (arith, c.if-n-w.true, pre.1), rw pre.2 (width_most _), pre.3, pre.4)

pub returns-then-n-w : goal.returns-then-n-w
returns-then-n-w c =
    let wrote = c.fill_short.ensures in
    let kind = c.kind-k in
    record { kinds_after = rw (← kind.ensures) wrote.kinds_after; payloads_after = rw (← c.requires.2) wrote.payloads_after }

pub returns : goal.returns
returns c =
    let kind = c.kind-k in
    record { kinds_after = rw (← kind.ensures) c.fill_kinds.ensures; payloads_after = c.fill_run.ensures.1 }
