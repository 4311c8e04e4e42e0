use Prim.Native.Nat.{◌<◌}
use mathlib.Core.Path.{◌≡◌, ◌∙◌}
use native.Mathlib.Omega.{arith}
use Rattle.hbc_buffer_literal.proofs.Laws.{width_most}
use Rattle.hbc_buffer.proofs.Fills.{small_product}
use Rattle.hbc_buffer.proofs.Tags.{tag_on}
use Rattle.hbc_buffer.proofs.Passes.{passed_first, passed_none, passed_cut, passed_more, passed_all, positive, quotient}
use Rattle.hbc_clean_series.proofs.Gaps.{flag_first, flag_more, flag_done}
use Rattle.hbc_clean_series.proofs.Highs.{high_first, high_more, high_done}
use Rattle.hbc_clean_series.proofs.Exits.{marked_refused, marked_given}
use mathlib.Core.Bool.{true, cond}
use lib.Dec.{eqb}
use Rattle.hbc_clean_series.proofs.walk.Goals as goal
use Rattle.hbc_clean_series.proofs.walk.Goals.{then-empty, else-empty}

-- ---- the answers
pub loop-done-init : goal.loop-done-init
loop-done-init c = (passed_first _ _ _ c.requires.1, flag_first _ _ _, high_first _ _ _)

pub read_tag-tag-requires : goal.read_tag-tag-requires
read_tag-tag-requires c = (c.requires.0, c.loop-done.invariant.0.within)

pub overflow_sub-count : goal.overflow_sub-count
overflow_sub-count c = omega (arith, c.loop-done-test.true)

pub overflow_sub-room : goal.overflow_sub-room
overflow_sub-room c = (tag_on _ _ _ _ (c.read_tag-tag.ensures.run c.if-tag.true)).within

pub overflow_mul-n : goal.overflow_mul-n
overflow_mul-n c =
    let few = c.min-n in
    let most : few.result < 4294967296 = omega (arith, few.ensures, c.requires.2) in
    omega (arith, small_product few.result c.width-w.result most (rw c.width-w.ensures (width_most _)))

pub nonzero_div-room : goal.nonzero_div-room
nonzero_div-room c = positive c.min-n.result _ _ c.if-room-n.true

pub overflow_add-done : goal.overflow_add-done
overflow_add-done c = let few = c.min-n in omega (arith, quotient few.result _ _ c.if-room-n.true, few.ensures)

pub overflow_cast-done : goal.overflow_cast-done
overflow_cast-done c = let few = c.min-n in omega (arith, quotient few.result _ _ c.if-room-n.true, few.ensures, c.requires.2)

pub returns-then-room-n : goal.returns-then-room-n
returns-then-room-n c =
    let tag = c.read_tag-tag.ensures.run c.if-tag.true in
    let wide = c.width-w.ensures in
    let cut = passed_cut c.loop-done.invariant.0 c.loop-done-test.true c.requires.0 tag _ c.min-n.ensures (rw (← wide) c.if-room-n.true) in
    rw (c.refuse.ensures, wide) (marked_refused _ _ cut)

pub run_high-high-requires : goal.run_high-high-requires
run_high-high-requires c =
    let on = tag_on _ _ _ _ (c.read_tag-tag.ensures.run c.if-tag.true) in
    (c.requires.0, rw (← c.width-w.ensures) (omega (arith, c.if-room-n.false, on.within)))

pub overflow_mul-at : goal.overflow_mul-at
overflow_mul-at c =
    let few = c.min-n in
    let most : few.result < 4294967296 = omega (arith, few.ensures, c.requires.2) in
    omega (arith, small_product few.result c.width-w.result most (rw c.width-w.ensures (width_most _)))

pub overflow_add-at : goal.overflow_add-at
overflow_add-at c =
    let on = tag_on _ _ _ _ (c.read_tag-tag.ensures.run c.if-tag.true) in
    omega (arith, c.if-room-n.false, on.within, c.requires.0)

pub overflow_add-done-then-tag : goal.overflow_add-done-then-tag
overflow_add-done-then-tag c = omega (arith, c.min-n.ensures)

pub loop-done-smaller : goal.loop-done-smaller
loop-done-smaller c =
    let on = tag_on _ _ _ _ (c.read_tag-tag.ensures.run c.if-tag.true) in
    omega (arith, c.if-room-n.false, on.from, on.within)

pub loop-done-preserved : goal.loop-done-preserved
loop-done-preserved c =
    let inv = c.loop-done.invariant in
    let more = c.loop-done-test.true in
    let short = c.requires.0 in
    let tag = c.read_tag-tag.ensures.run c.if-tag.true in
    let few = c.min-n.ensures in
    let wide = c.width-w.ensures in
    let flag : c.if-empty.empty ≡ cond c.loop-done.empty true (eqb c.read_tag-tag.result.size 0)
    = elim c.if-empty.branch [ then-empty w ↦ rw w.if-empty.true (w.empty-is ∙ w.if-empty.true) | else-empty w ↦ rw w.if-empty.false w.empty-is ] in
    let room = rw wide at c.if-room-n.false in (
      rw wide (passed_more inv.0 more short tag _ few room),
      rw wide (flag_more inv.1 more short tag _ few room flag),
      high_more inv.0 more short tag _ few room _ inv.2 c.run_high-high.ensures,
    )

pub overflow_cast-done-else-tag : goal.overflow_cast-done-else-tag
overflow_cast-done-else-tag c = omega (arith, c.loop-done-test.true, c.requires.2)

pub returns-else-tag : goal.returns-else-tag
returns-else-tag c =
    let cut = c.read_tag-tag.ensures.cut c.if-tag.false in
    rw c.refuse-else-tag.ensures (marked_refused _ _ (passed_none c.loop-done.invariant.0 c.loop-done-test.true cut.0 cut.1))

pub returns : goal.returns
returns c =
    let inv = c.loop-done.invariant in
    let all : c.loop-done.done ≡ c.args.count = omega (arith, inv.0.below, c.loop-done-test.false) in
    marked_given (passed_all inv.0 all) (flag_done inv.1 all) (high_done _ _ _ inv.2 all)
