use mathlib.Core.Path.{◌∙◌}
use native.Mathlib.Omega.{arith}
use Rattle.hbc_function.proofs.Sums.{solid_put, solid_sums}
use borrow.Author.Rules.{rules}
use Rattle.hbc_function.proofs.patch_met.Goals as goal

pub overflow_sub-end : goal.overflow_sub-end
overflow_sub-end c = let v = c.requires.solid in let a = v.after in let b = v.within in search rules

pub write_rows-requires : goal.write_rows-requires
write_rows-requires c = let v = c.requires.solid in let a = v.after in let b = v.within in search rules

pub returns-then-end-first : goal.returns-then-end-first
returns-then-end-first c =
    let v = c.requires.solid in let a = v.after in let b = v.within in let q = c.if-end-first.true in let w = c.write_rows.ensures in let l = w.2 in let m = w.3 in
    (w.0 ∙ solid_put v q c.requires.count_value _, solid_sums v q c.requires.count_value _ (omega arith) w.0 w.1, omega arith, omega arith)
