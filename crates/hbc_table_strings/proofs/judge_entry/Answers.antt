use mathlib.Core.Path.{sym, ap}
use Rattle.hbc_table_strings.specs.declared.row.StringRow.{StringRow}
use Rattle.hbc_table_strings.proofs.Laws.{judged_there}
use Rattle.hbc_table_strings.proofs.judge_entry.Goals as goal

pub returns-then-is_inside : goal.returns-then-is_inside
returns-then-is_inside c = judged_there _ _ _ c.lacks_pair.ensures c.if-lacks_pair.false c.entry_of-e.ensures c.bytes_of.ensures.0 (sym (ap (λ (r : StringRow). r.invalid) (rw c.if-is_inside.true at (c.is_inside.ensures.row 0))))

pub returns : goal.returns
returns c = judged_there _ _ _ c.lacks_pair.ensures c.if-lacks_pair.false c.entry_of-e.ensures c.bytes_of.ensures.0 (sym (ap (λ (r : StringRow). r.invalid) (rw c.if-is_inside.false at (c.is_inside.ensures.row 0))))
