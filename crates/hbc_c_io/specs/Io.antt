-- docs/FORMAT.md, section 8.2: a span that was read, as two numbers that the caller lends, and the mark of a LEB128 number beside what was read.
use Rattle.std.specs.Prelude.{◌≡◌, Bool, ℕ}
use Rattle.hbc_io.specs.Outcome.{Outcome, valued}
use Rattle.hbc_io.specs.Answer.{told}
use Rattle.hbc_io.specs.declared.Span.{Span}
use Rattle.hbc_c_code.specs.Code.{value_in, truth}
use Rattle.hbc_c_code.specs.Told.{Moves}

pub record ReadsSpan (o : Outcome Span) (start₀ len₀ r at start len : ℕ) : Type 0 where
  pub tells : Moves o r at
  pub starts : start ≡ value_in (told (valued (λ (p : Span). p.start) o)) start₀
  pub counts : len ≡ value_in (told (valued (λ (p : Span). p.len) o)) len₀

-- what a read promises without its mark, and the mark: 1 or 0; refused, the number lent for it holds what it did
pub record Marked (Promised : Type 0) (mark : Outcome Bool) (exact₀ exact : ℕ) : Type 0 where
  pub promised : Promised
  pub marks : exact ≡ value_in (told (valued truth mark)) exact₀
