-- docs/FORMAT.md, sections 5.3 and 5.4: the bytes that an accepted series used, and the part of a buffer that an accepted object speaks of.
use Rattle.std.specs.Prelude.{Ok, ℕ, ◌+◌, ◌^◌, ◌≤◌, ◌<◌, ◌≡◌, List, [], Bool, length, take, drop}
use Rattle.hbc_io.specs.Answer.{gives}
use Rattle.hbc_buffer.specs.Series.{series_answer}
use Rattle.hbc_buffer_object.specs.declared.Object.{Object}
use Rattle.hbc_buffer_object.specs.Object.{named, object_of, object_part, ReadObject}

-- the bytes used are there: from the offset on, and not past the buffer's end
abbrev pub UsedWithin : List ℕ → ℕ → ℕ → ℕ → ℕ → ℕ → Type 0
UsedWithin s offset count kinds payloads n = (count ≡ 0 → ⊥) → series_answer s offset count kinds payloads ≡ gives n → offset + n ≤ length s

-- they are never as many as 2^32
abbrev pub UsedSmall : List ℕ → ℕ → ℕ → ℕ → ℕ → ℕ → Type 0
UsedSmall s offset count kinds payloads n = series_answer s offset count kinds payloads ≡ gives n → n < 2 ^ 32

-- an accepted object's part is those bytes, of the buffer that was named
abbrev pub PartIs : List ℕ → List ℕ → Bool → ℕ → ℕ → List ℕ → List ℕ → Object → List ℕ → List ℕ → ℕ → Type 0
PartIs keys values b offset count ks ps o ks' ps' n =
    ReadObject keys values b offset count ks ps (Ok o) ks' ps' → (count ≡ 0 → ⊥)
    → series_answer (named b keys values) offset count (length ks) (length ps) ≡ gives n
    → object_part keys values o ≡ take n (drop offset (named b keys values))

-- for count 0 it is empty
abbrev pub PartNone : List ℕ → List ℕ → Bool → ℕ → Type 0
PartNone keys values b offset = object_part keys values (object_of b offset 0 0) ≡ []
