use mathlib.Core.Path.{◌∙◌}
use Rattle.hbc_function_write.proofs.Plains.{legacy_goes}
use Rattle.hbc_function_write.proofs.form.LegacyFormForm.is_inline.Goals as goal

pub returns : goal.returns
returns c = c.is_clear.ensures ∙ legacy_goes c.args.row.words.now 0 c.args.row.small
