use mathlib.Core.Path.{◌≡◌}
use Rattle.std.specs.Prelude.{Err}
use Rattle.std.proofs.lemmas.Grind.{common_steps}
use native.Mathlib.Omega.{arith}
use Rattle.hbc_function.proofs.Passes.{scan_few}
use Rattle.hbc_function.proofs.Sums.{settle_safe, settle_kept, settle_refused}
use borrow.Author.Rules.{rules}
use Rattle.hbc_function.proofs.settle.Goals as goal

pub overflow_add-large : goal.overflow_add-large
overflow_add-large c = let v = c.is_safe.ensures c.if-is_safe.true in let a = v.large_out in let b = v.sizes_out in let d = v.large_in in let e = v.sizes_in in let f = scan_few _ _ _ _ c.requires.count_value in let l = c.patch_met-new.ensures.2 in let m = c.patch_met-new.ensures.3 in search rules

pub overflow_add-sizes : goal.overflow_add-sizes
overflow_add-sizes c = let v = c.is_safe.ensures c.if-is_safe.true in let a = v.large_out in let b = v.sizes_out in let d = v.large_in in let e = v.sizes_in in let f = scan_few _ _ _ _ c.requires.count_value in let l = c.patch_met-new.ensures.2 in let m = c.patch_met-new.ensures.3 in search rules

pub returns-then-is_safe : goal.returns-then-is_safe
returns-then-is_safe c = let f = scan_few _ _ _ _ c.requires.count_value in let l = c.patch_met-new.ensures.2 in let m = c.patch_met-new.ensures.3 in settle_safe _ _ _ _ _ _ _ _ c.patch_met-new.ensures.0 c.requires.value c.patch_met-new.ensures.1 (c.is_safe.ensures c.if-is_safe.true) (omega arith) (omega arith)

pub returns-in_err-after : goal.returns-in_err-after
returns-in_err-after c =
    let q : c.from_residual.result ≡ Err c.in_err-after.field-0.0 = grind (arith, common_steps) in
    rw q (settle_refused _ _ _ _ _ _ _ _ c.in_err-after.ensures)

pub returns : goal.returns
returns c = settle_kept _ _ _ _ _ _ _ _ c.patch_met.ensures.0 c.in_ok-after.ensures
