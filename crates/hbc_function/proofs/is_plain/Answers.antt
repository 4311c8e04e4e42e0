use native.Mathlib.Omega.{arith}
use Rattle.hbc_function_header.proofs.Headers.{size_small, size_times}
use Rattle.hbc_function.proofs.Plains.{not_known, plain_by}
use Rattle.hbc_function.proofs.is_plain.Goals as goal

pub overflow_mul-at : goal.overflow_mul-at
overflow_mul-at c = let h = size_times c.args.layout c.args.id (omega arith) in rw c.header_size-size.ensures (omega arith)

pub overflow_add-at : goal.overflow_add-at
overflow_add-at c = let h = size_times c.args.layout c.args.id (omega arith) in rw c.header_size-size.ensures (omega arith)

pub overflow_add-at-2 : goal.overflow_add-at-2
overflow_add-at-2 c = let h = size_times c.args.layout c.args.id (omega arith) in let k = size_small c.args.layout in rw c.header_size-size.ensures (omega arith)

pub returns-then-s-at : goal.returns-then-s-at
returns-then-s-at c = not_known _ _ _ _

pub returns : goal.returns
returns c = plain_by _ _ _ _ c.header_size-size.ensures (omega (arith, c.if-s-at.false)) c.is_flagged.ensures
