use mathlib.Core.Path.{◌∙◌}
use borrow.Author.Rules.{rules}
use native.Mathlib.Omega.{arith}
use Rattle.hbc_function.proofs.Laws.{put_long}
use Rattle.hbc_function.proofs.Passes.{put_one, patch_first, patch_in, patch_more, patch_done}
use Rattle.hbc_function.proofs.Sums.{one_share, summed_first, patch_summed, patch_sums}
use Rattle.hbc_function.proofs.patch_each.Goals as goal

pub loop-left-init : goal.loop-left-init
loop-left-init c = (patch_first c.requires.next, summed_first _ _ _ c.requires.next)

pub next_met-id-requires : goal.next_met-id-requires
next_met-id-requires c = let w = c.loop-left.invariant.0.within in search rules

pub overflow_add-id : goal.overflow_add-id
overflow_add-id c = let w = c.loop-left.invariant.0 in let l = put_long w.put in let i = patch_in w c.requires.count_value c.loop-left-test.true c.next_met-id.ensures in search rules

pub write_rows-row-requires : goal.write_rows-row-requires
write_rows-row-requires c = let w = c.loop-left.invariant.0 in let l = put_long w.put in let i = patch_in w c.requires.count_value c.loop-left-test.true c.next_met-id.ensures in search rules

pub overflow_add-large : goal.overflow_add-large
overflow_add-large c = let l = c.loop-left.invariant.1.large_most in let r = c.write_rows-row.ensures.2 in search rules

pub overflow_add-sizes : goal.overflow_add-sizes
overflow_add-sizes c = let l = c.loop-left.invariant.1.sizes_most in let r = c.write_rows-row.ensures.3 in search rules

pub overflow_add-id-in-loop-left : goal.overflow_add-id-in-loop-left
overflow_add-id-in-loop-left c = let w = c.loop-left.invariant.0 in let l = put_long w.put in let i = patch_in w c.requires.count_value c.loop-left-test.true c.next_met-id.ensures in search rules

pub loop-left-preserved : goal.loop-left-preserved
loop-left-preserved c =
    let w = c.loop-left.invariant.0 in let l = put_long w.put in let i = patch_in w c.requires.count_value c.loop-left-test.true c.next_met-id.ensures in
    let t = c.write_rows-row.ensures.0 ∙ put_one _ _ _ in (
      patch_more w c.requires.count_value c.loop-left-test.true c.next_met-id.ensures t,
      patch_summed _ _ w c.requires.count_value c.loop-left-test.true c.next_met-id.ensures (omega arith) t (one_share _ _ c.write_rows-row.ensures.1) (omega (arith, c.write_rows-row.ensures.2)) (omega (arith, c.write_rows-row.ensures.3)) c.loop-left.invariant.1,
    )

pub shape_of-table : goal.shape_of-table
shape_of-table c = put_long c.loop-left.invariant.0.put

pub returns : goal.returns
returns c =
    let w = c.loop-left.invariant.0 in let u = c.loop-left.invariant.1 in let l = u.large_most in let k = u.sizes_most in
    (patch_done w c.requires.count_value (omega arith), patch_sums _ _ w c.requires.count_value (omega arith) u, omega arith, omega arith)
