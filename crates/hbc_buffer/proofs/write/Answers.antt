use Prim.Native.Nat.{◌<◌}
use mathlib.Core.Path.{◌≡◌, refl, sym, ap, ◌∙◌}
use native.Mathlib.Omega.{arith}
use lib.ListN.{length}
use Rattle.hbc_bits.proofs.Laws.{field_lt}
use Rattle.hbc_rows.specs.Rows.{filled}
use Rattle.hbc_rows.proofs.Laws.{filled_length}
use Rattle.hbc_buffer_literal.specs.Literal.{width_of}
use Rattle.hbc_buffer_literal.proofs.Laws.{width_most}
use Rattle.hbc_buffer.proofs.Fills.{filled_room, small_product}
use Rattle.hbc_buffer.proofs.Passes.{passed_first, passed_more, whole_tag, whole_there, whole_room, within_tag, kinds_more, payloads_more, turn_within, turn_on, known_first, known_next, known_on, none_more, none_kinds, none_payloads}
use Rattle.hbc_buffer.proofs.Going.{empties_from}
use Rattle.hbc_buffer.proofs.write.Goals as goal

pub returns-then-s-gt-LIMIT : goal.returns-then-s-gt-LIMIT
returns-then-s-gt-LIMIT c = absurd (omega (arith, c.if-s-gt-LIMIT.true, c.requires.0))

pub loop-done-init : goal.loop-done-init
unfolding filled
loop-done-init c = (passed_first _ _ _ c.requires.1, known_first _, refl, refl)

pub overflow_add-at : goal.overflow_add-at
overflow_add-at c = omega (arith, c.loop-done.invariant.0.within, c.requires.0)

pub past_empty-at-requires : goal.past_empty-at-requires
past_empty-at-requires c =
    (c.requires.0, omega (arith, whole_tag c.loop-done.invariant.0 c.loop-done-test.true c.requires.0 c.byte-b.ensures.0 refl c.requires.5))

pub loop-done-smaller-then-empty : goal.loop-done-smaller-then-empty
loop-done-smaller-then-empty c =
    let past = c.past_empty-at.ensures in
    omega (arith, past.up, past.within)

pub loop-done-preserved-then-empty : goal.loop-done-preserved-then-empty
loop-done-preserved-then-empty c =
    let inv = c.loop-done.invariant in
    let some = c.loop-done-test.true in
    let inside = within_tag _ _ (whole_tag c.loop-done.invariant.0 c.loop-done-test.true c.requires.0 c.byte-b.ensures.0 refl c.requires.5) in
    (empties_from some c.requires.0 inv.0 c.byte-b.ensures.0 (c.empty.ensures.0 c.if-empty.true) inside c.past_empty-at.ensures, inv.1, inv.2, inv.3)

pub fill_none-requires : goal.fill_none-requires
fill_none-requires c =
    let loop = c.loop-done in
    let pre = c.requires in
    let few = c.least-n.ensures in
    let some = c.loop-done-test.true in
    (filled_room _ _ _ loop.invariant.2 pre.3 (omega (arith, few, some)), filled_room _ _ _ loop.invariant.3 pre.4 (omega (arith, few, some)))

pub overflow_add-at-then-b-lt48 : goal.overflow_add-at-then-b-lt48
overflow_add-at-then-b-lt48 c =
    omega (arith, c.loop-done.invariant.0.within, c.requires.0)

pub overflow_add-done : goal.overflow_add-done
overflow_add-done c = omega (arith, c.least-n.ensures)

pub loop-done-smaller-then-b-lt48 : goal.loop-done-smaller-then-b-lt48
loop-done-smaller-then-b-lt48 c =
    let pre = c.requires in
    omega (arith, whole_tag c.loop-done.invariant.0 c.loop-done-test.true pre.0 c.byte-b.ensures.0 refl pre.5)

pub loop-done-preserved-then-b-lt48 : goal.loop-done-preserved-then-b-lt48
loop-done-preserved-then-b-lt48 c =
    let inv = c.loop-done.invariant in
    let pre = c.requires in
    let some = c.loop-done-test.true in
    let byte = c.byte-b.ensures.0 in
    let low = c.if-b-lt48.true in
    let len = c.bits.ensures in
    let few = c.least-n.ensures in
    let filled = c.fill_none.ensures in
    let here = within_tag _ _ (whole_tag inv.0 some pre.0 byte refl pre.5) in (
      none_more inv.0 some pre.0 byte low here len few,
      known_on _ inv.1 some,
      filled.kinds_after ∙ none_kinds inv.0 some pre.0 byte low here len few _ c.bits-tag.ensures c.kind.ensures inv.2,
      filled.payloads_after ∙ none_payloads inv.0 some pre.0 byte low here len few _ inv.3,
    )

pub overflow_sub-s : goal.overflow_sub-s
overflow_sub-s c = c.loop-done.invariant.0.within

pub again-requires : goal.again-requires
again-requires c = let known = c.loop-done.invariant.1 in (known.small, known.narrow, omega arith)

pub repeat-p-requires : goal.repeat-p-requires
repeat-p-requires c =
    let inv = c.loop-done.invariant in
    let pre = c.requires in
    let some = c.loop-done-test.true in
    let again = c.again.ensures c.if-again.true in (
      pre.0,
      some,
      pre.2,
      rw again.0 inv.1,
      filled_room _ _ _ inv.2 pre.3 (omega arith),
      filled_room _ _ _ inv.3 pre.4 (omega arith),
      c.byte-b.ensures.0,
      again.1,
      again.2,
      again.3,
    )

pub loop-done-smaller-then-again : goal.loop-done-smaller-then-again
loop-done-smaller-then-again c =
    let repeat = c.repeat-p.ensures in
    omega (arith, repeat.0, repeat.1.within)

pub loop-done-preserved-then-again : goal.loop-done-preserved-then-again
loop-done-preserved-then-again c =
    let inv = c.loop-done.invariant in
    let some = c.loop-done-test.true in
    let repeat = c.repeat-p.ensures in
    (repeat.1.on _ inv.0, known_on _ inv.1 some, repeat.2.on _ _ inv.0 inv.2, repeat.3.on _ _ inv.0 inv.3)

pub overflow_add-first : goal.overflow_add-first
overflow_add-first c =
    omega (arith, c.loop-done.invariant.0.within, c.requires.0)

pub overflow_add-first-else-again : goal.overflow_add-first-else-again
overflow_add-first-else-again c =
    let high = field_lt 1 7 1 c.byte-b.result (omega arith) in
    omega (arith, c.loop-done.invariant.0.within, c.requires.0, c.bits-else-again.ensures, high)

pub overflow_add-at-else-again : goal.overflow_add-at-else-again
overflow_add-at-else-again c =
    omega (arith, c.loop-done.invariant.0.within, c.requires.0)

pub length_of-requires : goal.length_of-requires
length_of-requires c = c.byte.ensures.1

pub fill-requires : goal.fill-requires
fill-requires c =
    let inv = c.loop-done.invariant in
    let pre = c.requires in
    let some = c.loop-done-test.true in
    let tag = c.bits-tag.ensures in
    let high = c.bits-else-again.ensures in
    let second = c.byte.ensures.0 in
    let len = c.length_of.ensures in
    let there = whole_there inv.0 some pre.0 c.byte-b.ensures.0 tag high second len pre.5 in
    let few = c.least-n-else-again.ensures in
    let room = whole_room inv.0 some pre.0 there _ few pre.5 in
    let within = turn_within inv.0 some pre.0 there _ few in (
      pre.0,
      omega (arith, room, within),
      c.width_of-w.ensures ∙ ap width_of (sym tag),
      filled_room _ _ _ inv.2 pre.3 (omega (arith, few, some)),
      filled_room _ _ _ inv.3 pre.4 (omega (arith, few, some)),
    )

pub overflow_mul-at : goal.overflow_mul-at
overflow_mul-at c =
    let few = c.least-n-else-again in
    let most : few.result < 4294967296 = omega (arith, few.ensures, c.requires.2) in
    omega (arith, small_product few.result c.width_of-w.result most (rw c.width_of-w.ensures (width_most _)))

pub overflow_add-at-else-again-2 : goal.overflow_add-at-else-again-2
overflow_add-at-else-again-2 c =
    let inv = c.loop-done.invariant in
    let pre = c.requires in
    let some = c.loop-done-test.true in
    let tag = c.bits-tag.ensures in
    let high = c.bits-else-again.ensures in
    let second = c.byte.ensures.0 in
    let len = c.length_of.ensures in
    let there = whole_there inv.0 some pre.0 c.byte-b.ensures.0 tag high second len pre.5 in
    let few = c.least-n-else-again.ensures in
    let room = whole_room inv.0 some pre.0 there _ few pre.5 in
    let within = turn_within inv.0 some pre.0 there _ few in
    rw (c.width_of-w.ensures ∙ ap width_of (sym tag)) (omega (arith, room, within, pre.0))

pub overflow_add-done-else-again : goal.overflow_add-done-else-again
overflow_add-done-else-again c =
    omega (arith, c.least-n-else-again.ensures, c.loop-done-test.true, c.requires.2)

pub loop-done-smaller : goal.loop-done-smaller
loop-done-smaller c =
    let inv = c.loop-done.invariant in
    let pre = c.requires in
    let some = c.loop-done-test.true in
    let tag = c.bits-tag.ensures in
    let high = c.bits-else-again.ensures in
    let second = c.byte.ensures.0 in
    let len = c.length_of.ensures in
    let there = whole_there inv.0 some pre.0 c.byte-b.ensures.0 tag high second len pre.5 in
    let few = c.least-n-else-again.ensures in
    let room = whole_room inv.0 some pre.0 there _ few pre.5 in
    let within = turn_within inv.0 some pre.0 there _ few in
    let on = turn_on inv.0 some pre.0 there _ few in
    rw (c.width_of-w.ensures ∙ ap width_of (sym tag)) (omega (arith, room, pre.0, within, on))

pub loop-done-preserved : goal.loop-done-preserved
loop-done-preserved c =
    let inv = c.loop-done.invariant in
    let pre = c.requires in
    let some = c.loop-done-test.true in
    let tag = c.bits-tag.ensures in
    let high = c.bits-else-again.ensures in
    let second = c.byte.ensures.0 in
    let len = c.length_of.ensures in
    let there = whole_there inv.0 some pre.0 c.byte-b.ensures.0 tag high second len pre.5 in
    let few = c.least-n-else-again.ensures in
    let room = whole_room inv.0 some pre.0 there _ few pre.5 in
    let filled = c.fill.ensures in (
      rw (c.width_of-w.ensures ∙ ap width_of (sym tag)) (passed_more inv.0 some pre.0 there _ few room),
      known_next _ _ some pre.2 len few c.width_of-w.ensures,
      filled.kinds_after ∙ kinds_more inv.0 some pre.0 there _ few _ room refl inv.2,
      filled.payloads_after ∙ payloads_more inv.0 some pre.0 there _ few _ room inv.3,
    )

pub shape_of-kinds : goal.shape_of-kinds
shape_of-kinds c = ap length c.loop-done.invariant.2 ∙ filled_length _ _ _

pub shape_of-payloads : goal.shape_of-payloads
shape_of-payloads c = ap length c.loop-done.invariant.3 ∙ filled_length _ _ _

pub returns : goal.returns
returns c =
    let e : c.loop-done.done ≡ c.args.count = omega (arith, c.loop-done.invariant.0.below, c.loop-done-test.false) in
    record { kinds_after = rw e at c.loop-done.invariant.2; payloads_after = rw e at c.loop-done.invariant.3 }
