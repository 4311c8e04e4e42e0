use Rattle.hbc_function_record.specs.declared.Layout.TheVariants as lay
use Rattle.hbc_function_write.proofs.Plains.{other, legacy_plain}
use Rattle.hbc_function_write.proofs.form.LegacyFormForm.is_plain.Goals as goal

pub returns-then-pair-id : goal.returns-then-pair-id
returns-then-pair-id c = other c.args.row.words.now c.args.id c.args.row.small lay.Legacy16 c.pair.ensures c.if-pair-id.true

pub returns : goal.returns
returns c = legacy_plain c.args.row.words.now c.args.id c.args.row.small c.pair.ensures c.if-pair-id.false c.is_clear.ensures
