use Prim.Native.Nat.{◌<◌}
use mathlib.Core.Path.{refl}
use native.Mathlib.Omega.{arith}
use native.Mathlib.Nat.{pos_of_ne-zero}
use Rattle.hbc_bits.proofs.Laws.{field_lt}
use Rattle.hbc_buffer_literal.proofs.Laws.{width_most}
use Rattle.hbc_buffer.proofs.Fills.{small_product}
use Rattle.hbc_buffer.proofs.Tags.{byte_inside, tag_there, tag_cut}
use Rattle.hbc_buffer.proofs.Passes.{passed_first, passed_none, passed_cut, passed_more, passed_all, positive, quotient, known_first, known_next, known_on, again_more, none_more}
use Rattle.hbc_buffer.proofs.Going.{empties_from}
use Rattle.hbc_buffer.proofs.check.Goals as goal

pub loop-done-init : goal.loop-done-init
loop-done-init c = (passed_first _ _ _ c.requires.1, known_first _)

pub overflow_cast-done : goal.overflow_cast-done
overflow_cast-done c = omega (arith, c.loop-done-test.true, c.requires.2)

pub returns-then-s-at : goal.returns-then-s-at
returns-then-s-at c =
    let inv = c.loop-done.invariant in
    let cut = tag_cut _ _ c.requires.0 c.byte-b.ensures.0 refl refl inv.0.within (omega (arith, c.if-s-at.true)) in
    rw c.refuse.ensures (passed_none inv.0 c.loop-done-test.true cut.0 cut.1)

pub overflow_add-at : goal.overflow_add-at
overflow_add-at c = omega (arith, c.loop-done.invariant.0.within, c.requires.0)

pub past_empty-at-requires : goal.past_empty-at-requires
past_empty-at-requires c = (c.requires.0, omega (arith, c.if-s-at.false))

pub loop-done-smaller-then-empty : goal.loop-done-smaller-then-empty
loop-done-smaller-then-empty c =
    let past = c.past_empty-at.ensures in
    omega (arith, past.up, past.within)

pub loop-done-preserved-then-empty : goal.loop-done-preserved-then-empty
loop-done-preserved-then-empty c =
    let inv = c.loop-done.invariant in
    let some = c.loop-done-test.true in
    (empties_from some c.requires.0 inv.0 c.byte-b.ensures.0 (c.empty.ensures.0 c.if-empty.true) (omega (arith, c.if-s-at.false)) c.past_empty-at.ensures, inv.1)

pub overflow_add-at-then-b-lt48 : goal.overflow_add-at-then-b-lt48
overflow_add-at-then-b-lt48 c =
    omega (arith, c.loop-done.invariant.0.within, c.requires.0)

pub overflow_add-done : goal.overflow_add-done
overflow_add-done c = omega (arith, c.least-done.ensures)

pub loop-done-smaller-then-b-lt48 : goal.loop-done-smaller-then-b-lt48
loop-done-smaller-then-b-lt48 c = omega (arith, byte_inside _ _ c.requires.0 c.loop-done.invariant.0.within c.byte-b.ensures.0 (pos_of_ne-zero (c.empty.ensures.1 c.if-empty.false)))

pub loop-done-preserved-then-b-lt48 : goal.loop-done-preserved-then-b-lt48
loop-done-preserved-then-b-lt48 c =
    let inv = c.loop-done.invariant in
    let some = c.loop-done-test.true in
    let byte = c.byte-b.ensures.0 in
    let inside = byte_inside _ _ c.requires.0 inv.0.within (byte) (pos_of_ne-zero (c.empty.ensures.1 c.if-empty.false)) in
    (none_more inv.0 some c.requires.0 byte c.if-b-lt48.true inside c.bits.ensures c.least-done.ensures, known_on _ inv.1 some)

pub overflow_sub-s : goal.overflow_sub-s
overflow_sub-s c = c.loop-done.invariant.0.within

pub again-requires : goal.again-requires
again-requires c = let known = c.loop-done.invariant.1 in (known.small, known.narrow, omega arith)

pub overflow_mul-size : goal.overflow_mul-size
overflow_mul-size c =
    let loop = c.loop-done in
    omega (arith, small_product loop.size loop.wide loop.invariant.1.small loop.invariant.1.narrow)

pub overflow_add-size : goal.overflow_add-size
overflow_add-size c =
    let loop = c.loop-done in
    omega (arith, small_product loop.size loop.wide loop.invariant.1.small loop.invariant.1.narrow)

pub overflow_add-at-then-again : goal.overflow_add-at-then-again
overflow_add-at-then-again c =
    let again = c.again.ensures c.if-again.true in
    omega (arith, again.3, c.loop-done.invariant.0.within, c.requires.0)

pub overflow_add-done-then-again : goal.overflow_add-done-then-again
overflow_add-done-then-again c =
    let again = c.again.ensures c.if-again.true in
    omega (arith, again.2, c.requires.2)

pub past_same-p-requires : goal.past_same-p-requires
past_same-p-requires c =
    let pre = c.requires in
    let some = c.loop-done-test.true in
    let again = c.again.ensures c.if-again.true in (
      pre.0,
      omega (arith, again.3, c.loop-done.invariant.0.within),
      omega (arith, again.2, some),
      pre.2,
      rw again.0 (known_on _ c.loop-done.invariant.1 some),
    )

pub loop-done-smaller-then-again : goal.loop-done-smaller-then-again
loop-done-smaller-then-again c =
    let again = c.again.ensures c.if-again.true in
    omega (arith, again.3, c.past_same-p.ensures.up, c.past_same-p.ensures.within)

pub loop-done-preserved-then-again : goal.loop-done-preserved-then-again
loop-done-preserved-then-again c =
    let inv = c.loop-done.invariant in
    let some = c.loop-done-test.true in
    let again = c.again.ensures c.if-again.true in
    (c.past_same-p.ensures.on _ (again_more inv.0 some c.requires.0 inv.1 c.byte-b.ensures.0 0 again), known_on _ inv.1 some)

pub overflow_add-first : goal.overflow_add-first
overflow_add-first c =
    omega (arith, c.loop-done.invariant.0.within, c.requires.0)

pub overflow_add-first-else-again : goal.overflow_add-first-else-again
overflow_add-first-else-again c =
    let high = field_lt 1 7 1 c.byte-b.result (omega arith) in
    omega (arith, c.loop-done.invariant.0.within, c.requires.0, c.bits-else-again.ensures, high)

pub overflow_cast-done-then-s-first : goal.overflow_cast-done-then-s-first
overflow_cast-done-then-s-first c =
    omega (arith, c.loop-done-test.true, c.requires.2)

pub returns-then-s-first : goal.returns-then-s-first
returns-then-s-first c =
    let inv = c.loop-done.invariant in
    let high = c.bits-else-again.ensures in
    let cut = tag_cut _ _ c.requires.0 c.byte-b.ensures.0 refl high inv.0.within c.if-s-first.true in
    rw c.refuse-then-s-first.ensures (passed_none inv.0 c.loop-done-test.true cut.0 cut.1)

pub overflow_add-at-else-again : goal.overflow_add-at-else-again
overflow_add-at-else-again c =
    omega (arith, c.loop-done.invariant.0.within, c.requires.0)

pub length_of-requires : goal.length_of-requires
length_of-requires c = c.byte.ensures.1

pub overflow_sub-room : goal.overflow_sub-room
overflow_sub-room c = c.if-s-first.false

pub overflow_mul-n : goal.overflow_mul-n
overflow_mul-n c =
    let few = c.least-n in
    let most : few.result < 4294967296 = omega (arith, few.ensures, c.requires.2) in
    omega (arith, small_product few.result c.width_of-w.result most (rw c.width_of-w.ensures (width_most _)))

pub nonzero_div-room : goal.nonzero_div-room
nonzero_div-room c = positive c.least-n.result _ _ c.if-room-n.true

pub overflow_add-done-then-room-n : goal.overflow_add-done-then-room-n
overflow_add-done-then-room-n c =
    let few = c.least-n in
    omega (arith, quotient few.result _ _ c.if-room-n.true, few.ensures)

pub overflow_cast-done-then-room-n : goal.overflow_cast-done-then-room-n
overflow_cast-done-then-room-n c =
    let few = c.least-n in
    omega (arith, quotient few.result _ _ c.if-room-n.true, few.ensures, c.requires.2)

pub returns-then-room-n : goal.returns-then-room-n
returns-then-room-n c =
    let inv = c.loop-done.invariant in
    let pre = c.requires in
    let some = c.loop-done-test.true in
    let high = c.bits-else-again.ensures in
    let second = c.byte.ensures.0 in
    let len = c.length_of.ensures in
    let there = tag_there _ _ pre.0 c.byte-b.ensures.0 refl high second len c.if-s-first.false in
    let few = c.least-n.ensures in
    let wide = c.width_of-w.ensures in
    rw (c.refuse-then-room-n.ensures, wide) (passed_cut inv.0 some pre.0 there _ few (rw (← wide) c.if-room-n.true))

pub overflow_mul-at : goal.overflow_mul-at
overflow_mul-at c =
    let few = c.least-n in
    let most : few.result < 4294967296 = omega (arith, few.ensures, c.requires.2) in
    omega (arith, small_product few.result c.width_of-w.result most (rw c.width_of-w.ensures (width_most _)))

pub overflow_add-at-else-again-2 : goal.overflow_add-at-else-again-2
overflow_add-at-else-again-2 c = omega (arith, c.if-room-n.false, c.if-s-first.false, c.requires.0)

pub overflow_add-done-else-again : goal.overflow_add-done-else-again
overflow_add-done-else-again c = omega (arith, c.least-n.ensures)

pub loop-done-smaller : goal.loop-done-smaller
loop-done-smaller c = omega (arith, c.if-room-n.false, c.if-s-first.false)

pub loop-done-preserved : goal.loop-done-preserved
loop-done-preserved c =
    let inv = c.loop-done.invariant in
    let pre = c.requires in
    let some = c.loop-done-test.true in
    let high = c.bits-else-again.ensures in
    let second = c.byte.ensures.0 in
    let len = c.length_of.ensures in
    let there = tag_there _ _ pre.0 c.byte-b.ensures.0 refl high second len c.if-s-first.false in
    let few = c.least-n.ensures in
    let wide = c.width_of-w.ensures in
    (rw wide (passed_more inv.0 some pre.0 there _ few (rw (← wide) c.if-room-n.false)), known_next _ _ some pre.2 len few wide)

pub overflow_sub-result : goal.overflow_sub-result
overflow_sub-result c = c.loop-done.invariant.0.up

pub overflow_cast-result : goal.overflow_cast-result
overflow_cast-result c = omega (arith, c.loop-done.invariant.0.within, c.requires.0)

pub returns : goal.returns
returns c = passed_all c.loop-done.invariant.0 (omega (arith, c.loop-done.invariant.0.below, c.loop-done-test.false))
