use mathlib.Core.Path.{sym, ap, ◌∙◌}
use Rattle.hbc_c_code.specs.Code.{code_of}
use Rattle.hbc_c_function.proofs.ByLayouts.{by_some, by_other}
use Rattle.hbc_c_clean.proofs.check_bundle.Goals as goal

pub returns-in_default : goal.returns-in_default
returns-in_default c = by_other _ _ _ (sym c.try_from.ensures ∙ c.in_default.is) (c.code.ensures ∙ ap code_of c.refuse.ensures)

pub returns : goal.returns
returns c = by_some _ _ _ (sym c.try_from.ensures ∙ c.in-Ok.is) (record {
  answer = c.check_bundle-found.result;
  promised = record { is = c.check_bundle-found.ensures; left = c.tell.ensures.1 };
  says = c.tell.ensures.0;
})
