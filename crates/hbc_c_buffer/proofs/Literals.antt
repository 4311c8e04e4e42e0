-- The two ways a literal is told.
use mathlib.Core.Path.{◌≡◌, refl}
use Prim.Native.Nat.{ℕ}
use lib.Ieee.{Float}
use Rattle.hbc_io.specs.Outcome.{Outcome, got, refused}
use Rattle.hbc_io.specs.declared.Cursor.{Cursor}
use Rattle.hbc_io.specs.declared.Refusal.{Refusal}
use Rattle.hbc_buffer_literal.specs.declared.Literal.{Literal}
use Rattle.hbc_buffer_literal.specs.Literal.{kind_of}
use Rattle.hbc_c_code.specs.Code.{code_of}
use Rattle.hbc_c_buffer.specs.Buffer.{float_of, word_of, LiteralTold}

module _ {o : Outcome Literal} {kind : ℕ} {number : Float} {word : ℕ} where
  pub literal_told : {v w : Literal} {n : Cursor} → o ≡ got v n → v ≡ w
      → LiteralTold o kind number word 0 n.at (kind_of w) (float_of number w) (word_of word w)
  literal_told e f = rw (e, f) (record { tells = record { says = refl; moves = refl }; kind_left = refl; number_left = refl; word_left = refl })

  pub literal_untold : {r : Refusal} {n : Cursor} {k : ℕ} → o ≡ refused r n → k ≡ code_of r
      → LiteralTold o kind number word k n.at kind number word
  literal_untold e f = rw e (record { tells = record { says = f; moves = refl }; kind_left = refl; number_left = refl; word_left = refl })
