use mathlib.Core.Path.{sym, ◌∙◌}
use native.Mathlib.Omega.{arith}
use Rattle.hbc_function_put.proofs.Puts.{header_none, legacy_header, modern_header}
use Rattle.hbc_function_put.proofs.put_header.Goals as goal

pub returns-then-header-header_size : goal.returns-then-header-header_size
returns-then-header-header_size c = header_none _ _ _ (λ e. c.if-header-header_size.true (e ∙ sym c.header_size.ensures))

pub returns-in-Legacy16 : goal.returns-in-Legacy16
returns-in-Legacy16 c = c.put_words.ensures ∙ legacy_header _ _ _ c.in-Legacy16.is (c.if-header-header_size.false ∙ c.header_size.ensures) (omega arith)

pub returns-in-Modern12 : goal.returns-in-Modern12
returns-in-Modern12 c = c.put_words-in-Modern12.ensures ∙ modern_header _ _ _ c.in-Modern12.is (c.if-header-header_size.false ∙ c.header_size.ensures)
