use mathlib.Core.Path.{sym, ◌∙◌}
use Rattle.hbc_function_put.proofs.Puts.{large_none, legacy_large, modern_large}
use Rattle.hbc_function_put.proofs.put_large.Goals as goal

pub returns-then-header-large_size : goal.returns-then-header-large_size
returns-then-header-large_size c = large_none _ _ _ (λ e. c.if-header-large_size.true (e ∙ sym c.large_size.ensures))

pub returns-in-Legacy16 : goal.returns-in-Legacy16
returns-in-Legacy16 c = c.store.ensures ∙ legacy_large _ _ _ c.in-Legacy16.is (c.if-header-large_size.false ∙ c.large_size.ensures)

pub returns-in-Modern12 : goal.returns-in-Modern12
returns-in-Modern12 c = c.store-in-Modern12.ensures ∙ modern_large _ _ _ c.in-Modern12.is (c.if-header-large_size.false ∙ c.large_size.ensures)
