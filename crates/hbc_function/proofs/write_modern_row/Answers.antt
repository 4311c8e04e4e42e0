use native.Mathlib.Omega.{arith}
use Rattle.hbc_function_record.specs.declared.Layout.TheVariants.{Modern12}
use Rattle.hbc_function_header.proofs.Headers.{size_times}
use Rattle.hbc_function.proofs.Plains.{row_by_lem}
use Rattle.hbc_function.proofs.Sums.{plain_share}
use Rattle.hbc_function.proofs.write_modern_row.Goals as goal

pub overflow_mul-at : goal.overflow_mul-at
overflow_mul-at c = let h = size_times Modern12 c.args.id (omega arith) in rw c.header_size.ensures (omega arith)

pub overflow_add-at : goal.overflow_add-at
overflow_add-at c = let h = size_times Modern12 c.args.id (omega arith) in rw c.header_size.ensures (omega arith)

pub returns : goal.returns
returns c = let t = row_by_lem _ Modern12 _ _ _ (omega arith) c.header_size.ensures c.modern_row-words.ensures c.requires.own c.put_row.ensures in (t, plain_share _ Modern12 _ _ _ (omega arith) c.header_size.ensures c.modern_row-words.ensures c.requires.own t c.share_of.ensures)
