use borrow.Author.Rules.{rules}
use Prim.Native.Nat.{◌-◌}
use native.Mathlib.Omega.{arith}
use borrow.Author.Tests.{le-leb}
use Rattle.hbc_function_record.specs.declared.Layout.TheVariants.{Legacy16}
use Rattle.hbc_function_header.specs.Header.{function_at}
use Rattle.hbc_function.proofs.Laws.{short_by, put_long, put_more, put_done}
use Rattle.hbc_function.proofs.Passes.{put_from}
use Rattle.hbc_function.proofs.Sums.{summed_from, summed_by, summed_put, summed_more, summed_done}
use Rattle.hbc_function.proofs.write_legacy.Goals as goal

pub loop-id-init : goal.loop-id-init
loop-id-init c = (omega arith, (omega arith, (put_from _ _ _, summed_from _ _ _)))

pub write_legacy_run-run-requires : goal.write_legacy_run-run-requires
write_legacy_run-run-requires c = let v = c.loop-id.invariant in let l = put_long v.1.1.0 in search rules

pub overflow_add-large : goal.overflow_add-large
overflow_add-large c = let v = c.loop-id.invariant in let l = put_long v.1.1.0 in let r = c.write_legacy_run-run.ensures in let ra = r.after in let rb = r.within in let x = v.1.1.1.large_most in let y = r.large_most in search rules

pub overflow_add-sizes : goal.overflow_add-sizes
overflow_add-sizes c = let v = c.loop-id.invariant in let l = put_long v.1.1.0 in let r = c.write_legacy_run-run.ensures in let ra = r.after in let rb = r.within in let x = v.1.1.1.sizes_most in let y = r.sizes_most in search rules

pub write_any-share-requires : goal.write_any-share-requires
write_any-share-requires c = let v = c.loop-id.invariant in let l = put_long v.1.1.0 in let r = c.write_legacy_run-run.ensures in let ra = r.after in let rb = r.within in let p = r.puts _ _ v.1.0 v.1.1.0 in let n = put_long p in search rules

pub overflow_add-large-then-id-to : goal.overflow_add-large-then-id-to
overflow_add-large-then-id-to c = let v = c.loop-id.invariant in let l = put_long v.1.1.0 in let r = c.write_legacy_run-run.ensures in let ra = r.after in let rb = r.within in let x = v.1.1.1.large_most in let y = r.large_most in search rules

pub overflow_add-sizes-then-id-to : goal.overflow_add-sizes-then-id-to
overflow_add-sizes-then-id-to c = let v = c.loop-id.invariant in let l = put_long v.1.1.0 in let r = c.write_legacy_run-run.ensures in let ra = r.after in let rb = r.within in let x = v.1.1.1.sizes_most in let y = r.sizes_most in search rules

pub loop-id-smaller-then-id-to : goal.loop-id-smaller-then-id-to
loop-id-smaller-then-id-to c = let v = c.loop-id.invariant in let l = put_long v.1.1.0 in let r = c.write_legacy_run-run.ensures in let ra = r.after in let rb = r.within in search rules

pub loop-id-preserved-then-id-to : goal.loop-id-preserved-then-id-to
loop-id-preserved-then-id-to c =
    let v = c.loop-id.invariant in let l = put_long v.1.1.0 in let r = c.write_legacy_run-run.ensures in let ra = r.after in let rb = r.within in let p = r.puts _ _ v.1.0 v.1.1.0 in let u = summed_by _ _ {n = c.write_legacy_run-run.result.next - c.args.from} (r.sums _ _ _ _ v.1.0 v.1.1.1) (omega arith) in let n = put_long p in let t = c.write_any-share.ensures in
    let k = c.requires.from_le_to.1 in let g = c.if-id-to.true in (
      omega arith,
      (
        omega arith,
        (
          put_more p (le-leb c.args.from c.write_legacy_run-run.result.next (omega arith)) t.0,
          summed_by _ _ (summed_more _ _ (summed_put _ _ _ _ (omega arith) (short_by (function_at _ Legacy16 _ _)) t.0 u) (le-leb c.args.from c.write_legacy_run-run.result.next (omega arith)) t.1 (search rules) (search rules)) (omega arith),
        ),
      ),
    )

pub loop-id-smaller : goal.loop-id-smaller
loop-id-smaller c = let v = c.loop-id.invariant in let l = put_long v.1.1.0 in let r = c.write_legacy_run-run.ensures in let ra = r.after in let rb = r.within in search rules

pub loop-id-preserved : goal.loop-id-preserved
loop-id-preserved c =
    let v = c.loop-id.invariant in let l = put_long v.1.1.0 in let r = c.write_legacy_run-run.ensures in let ra = r.after in let rb = r.within in let p = r.puts _ _ v.1.0 v.1.1.0 in let u = summed_by _ _ {n = c.write_legacy_run-run.result.next - c.args.from} (r.sums _ _ _ _ v.1.0 v.1.1.1) (omega arith) in let n = put_long p in (omega arith, (omega arith, (p, u)))

pub shape_of-table : goal.shape_of-table
shape_of-table c = put_long c.loop-id.invariant.1.1.0

pub returns : goal.returns
returns c =
    let v = c.loop-id.invariant in let a = v.1.1.1.large_most in let b = v.1.1.1.sizes_most in
    (put_done v.1.1.0 (omega arith), summed_done _ _ (omega arith) v.1.1.1, omega arith, omega arith)
