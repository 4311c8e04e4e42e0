use mathlib.Core.Path.{◌∙◌}
use native.Mathlib.Omega.{arith}
use Rattle.hbc_rows.proofs.RowsAt.{put_none, put_in, put_out}
use Rattle.hbc_rows.proofs.put_row.Goals as goal

pub returns-then-w-eq0 : goal.returns-then-w-eq0
returns-then-w-eq0 c = let a = c.args in put_none a.t.now a.k a.row.now c.if-w-eq0.true

pub returns-then-k-t : goal.returns-then-k-t
returns-then-k-t c = c.store.ensures ∙ put_in _ _ _ _ c.if-k-t.true

pub returns-else-k-t : goal.returns-else-k-t
returns-else-k-t c = put_out _ _ _ _ (omega arith) c.if-k-t.false
