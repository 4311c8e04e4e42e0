-- The two ways a span is told, and its mark.
use mathlib.Core.Path.{◌≡◌, refl}
use mathlib.Core.Bool.{Bool, true, false}
use Prim.Native.Nat.{ℕ}
use mir.Val.{bool_byte}
use Rattle.hbc_io.specs.Outcome.{Outcome, got, refused}
use Rattle.hbc_io.specs.declared.Cursor.{Cursor}
use Rattle.hbc_io.specs.declared.Refusal.{Refusal}
use Rattle.hbc_io.specs.declared.Span.{Span}
use Rattle.hbc_c_code.specs.Code.{code_of, truth}
use Rattle.hbc_c_code.proofs.Tolds.{moved_to, moved_not}
use Rattle.hbc_c_io.specs.Io.{ReadsSpan, Marked}

pub span_got : {o : Outcome Span} {p : Span} {start₀ len₀ : ℕ} {n : Cursor} → o ≡ got p n → ReadsSpan o start₀ len₀ 0 n.at p.start p.len
span_got e = record { tells = moved_to e; starts = rw e; counts = rw e }

pub span_refused : {o : Outcome Span} {start₀ len₀ : ℕ} {r : Refusal} {n : Cursor} {k : ℕ} → o ≡ refused r n → k ≡ code_of r
    → ReadsSpan o start₀ len₀ k n.at start₀ len₀
span_refused e f = record { tells = moved_not e f; starts = rw e; counts = rw e }

-- a mark, as it is written
pub mark_is : (b : Bool) → bool_byte b ≡ truth b
mark_is true = refl
mark_is false = refl

module _ {P : Type 0} {o : Outcome Bool} {exact₀ : ℕ} {n : Cursor} (p : P) where
  pub marked_got : {b : Bool} → o ≡ got b n → Marked P o exact₀ (bool_byte b)
  marked_got {b} e = record { promised = p; marks = rw e (mark_is b) }

  pub marked_refused : {r : Refusal} → o ≡ refused r n → Marked P o exact₀ exact₀
  marked_refused e = record { promised = p; marks = rw e }
