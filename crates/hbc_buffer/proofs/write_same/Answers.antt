use mathlib.Core.Path.{refl, ap, ◌∙◌}
use native.Mathlib.Omega.{arith}
use lib.ListN.{length}
use Rattle.hbc_buffer.proofs.Fills.{from_length, small_product}
use Rattle.hbc_buffer.proofs.Passes.{known_on}
use Rattle.hbc_buffer.proofs.Going.{goes_first, writes_first, goes_again, kinds_again, payloads_again}
use Rattle.hbc_buffer.proofs.write_same.Goals as goal

pub loop-done-init : goal.loop-done-init
loop-done-init c = (goes_first _ _ c.requires.1, c.requires.4, c.requires.2, writes_first _ _ _ _ _, writes_first _ _ _ _ _, refl, refl)

pub overflow_sub-s : goal.overflow_sub-s
overflow_sub-s c = c.loop-done.invariant.0.within

pub again-requires : goal.again-requires
again-requires c = let known = c.loop-done.invariant.1 in (known.small, known.narrow, omega arith)

pub overflow_add-at : goal.overflow_add-at
overflow_add-at c = omega (arith, c.loop-done.invariant.0.within, c.requires.0)

pub fill_short-requires : goal.fill_short-requires
fill_short-requires c =
    let held = c.again.ensures c.if-again.true in
    let some = c.loop-done-test.true in
    let inv = c.loop-done.invariant in (
      c.requires.0,
      omega (arith, held.3, inv.0.within),
      inv.1.narrow,
      omega (arith, held.2, some, inv.5, c.requires.6),
      omega (arith, held.2, some, inv.6, c.requires.7),
    )

pub overflow_mul-at : goal.overflow_mul-at
overflow_mul-at c =
    omega (arith, small_product c.args.size c.args.wide c.loop-done.invariant.1.small c.loop-done.invariant.1.narrow)

pub overflow_add-at-then-again : goal.overflow_add-at-then-again
overflow_add-at-then-again c =
    omega (arith, small_product c.args.size c.args.wide c.loop-done.invariant.1.small c.loop-done.invariant.1.narrow)

pub overflow_add-at-then-again-2 : goal.overflow_add-at-then-again-2
overflow_add-at-then-again-2 c =
    let held = c.again.ensures c.if-again.true in
    omega (arith, held.3, c.loop-done.invariant.0.within, c.requires.0)

pub overflow_add-done : goal.overflow_add-done
overflow_add-done c =
    let held = c.again.ensures c.if-again.true in
    omega (arith, held.2, c.requires.3)

pub loop-done-smaller : goal.loop-done-smaller
loop-done-smaller c = omega (arith, (c.again.ensures c.if-again.true).3)

pub loop-done-preserved : goal.loop-done-preserved
loop-done-preserved c =
    let held = c.again.ensures c.if-again.true in
    let some = c.loop-done-test.true in
    let inv = c.loop-done.invariant in
    let filled = c.fill_short.ensures in
    let byte = c.byte.ensures.0 in (
      goes_again inv.0 some c.requires.0 inv.1 byte 8 held,
      known_on _ inv.1 some,
      omega (arith, held.2, some),
      kinds_again inv.0 some c.requires.0 inv.1 byte 8 held c.requires.5 filled.kinds_after inv.3,
      payloads_again inv.0 some c.requires.0 inv.1 byte 8 held filled.payloads_after inv.4,
      ap length filled.kinds_after ∙ from_length _ _ _ _ ∙ inv.5,
      ap length filled.payloads_after ∙ from_length _ _ _ _ ∙ inv.6,
    )

pub shape_of-kinds-else-again : goal.shape_of-kinds-else-again
shape_of-kinds-else-again c = c.loop-done.invariant.5

pub shape_of-payloads-else-again : goal.shape_of-payloads-else-again
shape_of-payloads-else-again c = c.loop-done.invariant.6

pub returns-else-again : goal.returns-else-again
returns-else-again c = (c.loop-done.invariant.0, c.loop-done.invariant.3, c.loop-done.invariant.4)

pub shape_of-kinds : goal.shape_of-kinds
shape_of-kinds c = c.loop-done.invariant.5

pub shape_of-payloads : goal.shape_of-payloads
shape_of-payloads c = c.loop-done.invariant.6

pub returns : goal.returns
returns c = (c.loop-done.invariant.0, c.loop-done.invariant.3, c.loop-done.invariant.4)
