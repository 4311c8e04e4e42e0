-- docs/FORMAT.md, section 1.4: what a refusal leaves.
use Rattle.std.specs.Prelude.{Result, Ok, Err, ℕ, ◌≡◌, List, [], Bool}
use Rattle.hbc_io.specs.declared.Refusal.{Refusal}
use Rattle.hbc_io.specs.declared.Cursor.{Cursor}
use Rattle.hbc_io.specs.Outcome.{refused}
use Rattle.hbc_buffer_literal.specs.Literal.{literal_at}
use Rattle.hbc_buffer.specs.Series.{ReadSeries}
use Rattle.hbc_buffer_object.specs.declared.Object.{Object}
use Rattle.hbc_buffer_object.specs.Object.{object_part, object_in, ReadObject}

-- a refused literal leaves the cursor
abbrev pub LiteralLeft : ℕ → List ℕ → Cursor → Refusal → Cursor → Type 0
LiteralLeft tag s c k n = refused k n ≡ literal_at tag s c → n ≡ c

-- a refused series leaves both tables as they were
abbrev pub SeriesLeft : List ℕ → ℕ → ℕ → List ℕ → List ℕ → Refusal → List ℕ → List ℕ → Type 0
SeriesLeft s offset count ks ps r ks' ps' = ReadSeries s offset count ks ps (Err r) ks' ps' → (ks' ≡ ks) × (ps' ≡ ps)

-- what is refused gives no object, whatever the tables that it would leave
abbrev pub NoObject : List ℕ → List ℕ → Bool → ℕ → ℕ → List ℕ → List ℕ → Type 0
NoObject keys values b offset count ks ps = (o : Object) (ks₁ ps₁ : List ℕ) → ReadObject keys values b offset count ks ps (Ok o) ks₁ ps₁ → ⊥

-- a refused object leaves both tables as they were, object_part hands back no bytes of it, whichever buffer it names, and there is no other
abbrev pub ObjectLeft : List ℕ → List ℕ → Bool → ℕ → ℕ → List ℕ → List ℕ → Refusal → List ℕ → List ℕ → Type 0
ObjectLeft keys values b offset count ks ps r ks' ps' =
    ReadObject keys values b offset count ks ps (Err r) ks' ps'
    → (ks' ≡ ks) × (ps' ≡ ps) × ((c : Bool) → object_part keys values (object_in c (Err r)) ≡ []) × NoObject keys values b offset count ks ps
