-- What a refusal leaves: a field of the promise where r is a refusal.
use Prim.Native.Nat.{ℕ}
use mathlib.Core.Path.{sym, ◌∙◌}
use mathlib.Core.List.{List}
use mathlib.Core.Bool.{Bool}
use Rattle.hbc_io.specs.declared.Refusal.{Refusal}
use Rattle.hbc_io.specs.declared.Cursor.{Cursor}
use Rattle.hbc_buffer_literal.specs.Literal.{width_of, literal_of, literal_at}
use Rattle.hbc_io.proofs.Exits.{not_given}
use Rattle.hbc_buffer.proofs.Exits.{apart}
use Rattle.hbc_claims_io.proofs.Left.{plain_left}
use Rattle.hbc_claims_buffer.proofs.Parts.{part_none}
use Rattle.hbc_claims_buffer.specs.Refused.{LiteralLeft, SeriesLeft, ObjectLeft}

pub literal_left : (tag : ℕ) (s : List ℕ) (c : Cursor) {k : Refusal} {n : Cursor} → LiteralLeft tag s c k n
unfolding literal_at
literal_left tag s c e = plain_left s c (width_of tag) (literal_of tag) e

pub series_left : (s : List ℕ) (offset count : ℕ) {ks ps : List ℕ} {r : Refusal} {ks' ps' : List ℕ} → SeriesLeft s offset count ks ps r ks' ps'
series_left s offset count v = apart v.leaves

pub object_left : (keys values : List ℕ) (b : Bool) (offset count : ℕ) {ks ps : List ℕ} {r : Refusal} {ks' ps' : List ℕ}
    → ObjectLeft keys values b offset count ks ps r ks' ps'
object_left keys values b offset count v =
    let t = apart v.leaves in
    (t.0, t.1, λ c. part_none keys values c 0, λ o ks₁ ps₁ w. not_given (v.says ∙ sym w.says))
