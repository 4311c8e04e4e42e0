use mathlib.Core.Path.{sym, ◌∙◌}
use native.Mathlib.Omega.{arith}
use Rattle.hbc_rows.proofs.Words.{sets_out, sets_room}
use Rattle.hbc_rows.proofs.put_words.Goals as goal

pub returns-then-t-at : goal.returns-then-t-at
returns-then-t-at c = let a = c.args in sym (sets_out a.row.now a.t.now a.at (omega arith))

pub returns-then-room-row : goal.returns-then-room-row
returns-then-room-row c = let a = c.args in c.store.ensures ∙ sets_room a.t.now a.row.now a.at _ (omega arith) (omega arith)
