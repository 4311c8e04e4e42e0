use Rattle.hbc_function_record.specs.declared.Layout.TheVariants as lay
use Rattle.hbc_function_bytes.proofs.Sums.{wrong_layout, wrong_id, none_amiss, modern_amiss}
use Rattle.hbc_function_bytes.proofs.modern.is_right.Goals as goal

pub returns-then-row-ne1 : goal.returns-then-row-ne1
returns-then-row-ne1 c = wrong_layout lay.Modern12 _ _ c.if-row-ne1.true

pub returns-then-row-id : goal.returns-then-row-id
returns-then-row-id c = wrong_id lay.Modern12 _ _ c.if-row-ne1.false c.if-row-id.true

pub returns : goal.returns
returns c = none_amiss lay.Modern12 _ _ c.if-row-ne1.false c.if-row-id.false (modern_amiss c.args.id c.args.row c.wrong.ensures)
