use native.Mathlib.Omega.{arith}
use Rattle.hbc_function_header.specs.Header.{function_at}
use Rattle.hbc_function.proofs.Laws.{put_mid_lem, part_length}
use borrow.Author.Rules.{rules}
use Rattle.hbc_function.proofs.write_any.Goals as goal

pub write_row-requires : goal.write_row-requires
write_row-requires c = let l = part_length c.args.id c.args.table.now (omega arith) in search rules

pub returns : goal.returns
returns c = (put_mid_lem _ (function_at _ _ _ _) _ (omega arith) c.write_row.ensures, c.share_at.ensures)
