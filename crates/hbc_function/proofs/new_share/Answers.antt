use mathlib.Core.Path.{refl}
use Rattle.hbc_rows.specs.Rows.{entry_at}
use Rattle.hbc_function_totals.specs.Totals.{large_row, size_row}
use Rattle.hbc_function_header.specs.Header.{function_at}
use Rattle.hbc_function.proofs.Sums.{share_new}
use Rattle.hbc_function.proofs.new_share.Goals as goal

pub returns : goal.returns
unfolding large_row size_row entry_at
returns c = share_new (function_at c.args.s.now c.args.layout c.args.start c.args.id) _ c.write_row.ensures c.share_of.ensures refl
