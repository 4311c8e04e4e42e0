use native.Mathlib.Omega.{arith}
use Rattle.hbc_buffer.proofs.Fills.{small_product}
use Rattle.hbc_buffer.proofs.Passes.{known_on}
use Rattle.hbc_buffer.proofs.Going.{goes_first, goes_again}
use Rattle.hbc_buffer.proofs.past_same.Goals as goal

pub loop-done-init : goal.loop-done-init
loop-done-init c = (goes_first _ _ c.requires.1, c.requires.4, c.requires.2)

pub overflow_sub-s : goal.overflow_sub-s
overflow_sub-s c = c.loop-done.invariant.0.within

pub again-requires : goal.again-requires
again-requires c = let known = c.loop-done.invariant.1 in (known.small, known.narrow, omega arith)

pub overflow_mul-at : goal.overflow_mul-at
overflow_mul-at c =
    omega (arith, small_product c.args.size c.args.wide c.loop-done.invariant.1.small c.loop-done.invariant.1.narrow)

pub overflow_add-at : goal.overflow_add-at
overflow_add-at c =
    omega (arith, small_product c.args.size c.args.wide c.loop-done.invariant.1.small c.loop-done.invariant.1.narrow)

pub overflow_add-at-then-again : goal.overflow_add-at-then-again
overflow_add-at-then-again c =
    let held = c.again.ensures c.if-again.true in
    omega (arith, held.3, c.loop-done.invariant.0.within, c.requires.0)

pub overflow_add-done : goal.overflow_add-done
overflow_add-done c =
    let held = c.again.ensures c.if-again.true in
    omega (arith, held.2, c.requires.3)

pub loop-done-smaller : goal.loop-done-smaller
loop-done-smaller c = omega (arith, (c.again.ensures c.if-again.true).3)

pub loop-done-preserved : goal.loop-done-preserved
loop-done-preserved c =
    let held = c.again.ensures c.if-again.true in
    let some = c.loop-done-test.true in
    let inv = c.loop-done.invariant in (
      goes_again inv.0 some c.requires.0 inv.1 c.byte.ensures.0 0 held,
      known_on _ inv.1 some,
      omega (arith, held.2, some),
    )

pub returns-else-again : goal.returns-else-again
returns-else-again c = c.loop-done.invariant.0

pub returns : goal.returns
returns c = c.loop-done.invariant.0
