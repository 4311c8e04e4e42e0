use mathlib.Core.Path.{sym, ◌∙◌}
use native.Mathlib.Omega.{arith}
use Rattle.hbc_text.proofs.Laws.{wide_text, plain_text}
use Rattle.hbc_text.proofs.string_text.Goals as goal

pub returns-then-is_wide : goal.returns-then-is_wide
returns-then-is_wide c = wide_text _ _ _ _ (omega arith) c.if-rows-index.false c.string_bytes-bytes.ensures.bytes (sym c.is_wide.ensures ∙ c.if-is_wide.true) c.utf16_text.ensures

pub returns : goal.returns
returns c = plain_text _ _ _ _ (omega arith) c.if-rows-index.false c.string_bytes-bytes.ensures.bytes (sym c.is_wide.ensures ∙ c.if-is_wide.false) c.utf8_text.ensures
