use Rattle.std.proofs.lemmas.Bool.{not_from_true}
use borrow.Author.Rules.{rules}
use native.Mathlib.Omega.{arith}
use borrow.Author.Tests.{not-false}
use Rattle.hbc_function.proofs.Sums.{ran_none, ran_long, ran_more}
use Rattle.hbc_function.proofs.write_modern_run.Goals as goal

pub loop-id-init : goal.loop-id-init
loop-id-init c = ran_none _ _ _ _ (omega arith)

pub shape_of-table-then-not-is_plain : goal.shape_of-table-then-not-is_plain
shape_of-table-then-not-is_plain c = ran_long _ _ _ _ c.loop-id.invariant

pub returns-then-not-is_plain : goal.returns-then-not-is_plain
returns-then-not-is_plain c = c.loop-id.invariant

pub write_modern_row-share-requires : goal.write_modern_row-share-requires
write_modern_row-share-requires c = let l = ran_long _ _ _ _ c.loop-id.invariant in record { start_in_bounds = (omega arith, omega arith); width_in_bounds = omega arith; own = c.is_plain.ensures (not-false _ (not_from_true _ c.if-not-is_plain.false)) }

pub overflow_add-large : goal.overflow_add-large
overflow_add-large c = let l = c.loop-id.invariant.large_most in let a = c.loop-id.invariant.after in search rules

pub overflow_add-sizes : goal.overflow_add-sizes
overflow_add-sizes c = let l = c.loop-id.invariant.sizes_most in let a = c.loop-id.invariant.after in search rules

pub loop-id-preserved : goal.loop-id-preserved
loop-id-preserved c = ran_more _ _ _ _ c.loop-id.invariant (omega arith) (omega arith) c.write_modern_row-share.ensures.0 c.write_modern_row-share.ensures.1 (search rules) (search rules)

pub shape_of-table : goal.shape_of-table
shape_of-table c = ran_long _ _ _ _ c.loop-id.invariant

pub returns : goal.returns
returns c = c.loop-id.invariant
