use Rattle.hbc_function_record.specs.declared.Layout.TheVariants as lay
use Rattle.hbc_function_bytes.proofs.Sums.{wrong_layout, wrong_id, none_amiss, legacy_amiss}
use Rattle.hbc_function_bytes.proofs.legacy.is_right.Goals as goal

pub returns-then-row-ne0 : goal.returns-then-row-ne0
returns-then-row-ne0 c = wrong_layout lay.Legacy16 _ _ c.if-row-ne0.true

pub returns-then-row-id : goal.returns-then-row-id
returns-then-row-id c = wrong_id lay.Legacy16 _ _ c.if-row-ne0.false c.if-row-id.true

pub returns : goal.returns
returns c = none_amiss lay.Legacy16 _ _ c.if-row-ne0.false c.if-row-id.false (legacy_amiss c.args.id c.args.row c.wrong.ensures)
