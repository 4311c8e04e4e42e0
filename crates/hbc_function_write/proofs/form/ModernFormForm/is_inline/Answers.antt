use Prim.Native.Nat.{ℕ}
use mathlib.Core.Path.{ap, ◌∙◌}
use lib.Dec.{eqb}
use Rattle.hbc_function_write.proofs.Places.{info_tells}
use Rattle.hbc_function_write.proofs.form.ModernFormForm.is_inline.Goals as goal

pub returns : goal.returns
returns c = ap (λ (k : ℕ). eqb k 0) c.word.ensures ∙ info_tells _ c.requires.ended
