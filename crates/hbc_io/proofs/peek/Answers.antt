use mathlib.Core.Path.{sym, ◌∙◌}
use native.Mathlib.Omega.{arith}
use Rattle.hbc_io.proofs.Plains.{word_there, word_none}
use Rattle.hbc_io.proofs.peek.Goals as goal

pub returns-then-s-at : goal.returns-then-s-at
returns-then-s-at c = sym (word_none _ _ _ (omega arith))

pub returns-then-s-at-2 : goal.returns-then-s-at-2
returns-then-s-at-2 c = sym (word_none _ _ _ (omega arith))

pub returns : goal.returns
returns c = c.gather.ensures ∙ sym (word_there _ _ _ (omega arith))
