-- What only private contracts cite: no promise rests on it.
use Rattle.std.specs.Prelude.{ℕ, ◌+◌, ◌*◌, ◌%◌, ◌^◌, ◌≡◌, List, [], ◌∷◌, Bool, true, get_or, eqb, ltb, leb}
use Rattle.hbc_function_record.specs.declared.Layout.{Layout}
use Rattle.hbc_function_record.specs.declared.bit_layout.Field.{Field}
use Rattle.hbc_function_record.specs.BitLayout.{fields_in}
use Rattle.hbc_function_record.specs.Row.{width}
use Rattle.hbc_function_bytes.specs.Bytes.{all, values_in}

-- a value in the word of 32 bits that holds its field: as many bits of it as the field is wide, from the field's first bit up
unfoldable pub placed : ℕ → ℕ → ℕ → ℕ
placed first width v = v % 2 ^ width * 2 ^ (first % 32)

-- ---- the fields of a header, each with the word of a row that it holds

-- each as (first bit, width)
abbrev pub bits_of : List (Field × ℕ) → List (ℕ × ℕ)
bits_of [] = []
bits_of (e ∷ es) = (e.0.0, e.0.1) ∷ bits_of es

-- what they hold of a row w
abbrev pub held_by : List (Field × ℕ) → List ℕ → List ℕ
held_by [] w = []
held_by (e ∷ es) w = get_or w e.1 0 ∷ held_by es w

-- they lie side by side from bit k on, in four words of 32 bits and across none, and each holds a word that a row has
abbrev pub packed : ℕ → List (Field × ℕ) → Bool
packed k [] = true
packed k (e ∷ es) = all (eqb e.0.0 k ∷ ltb k 128 ∷ ltb e.0.1 32 ∷ leb (k % 32 + e.0.1) 32 ∷ ltb e.1 width ∷ packed (k + e.0.1) es ∷ [])

-- they are the fields of a layout's header
pub record Holds (layout : Layout) (es : List (Field × ℕ)) : Type 0 where
  pub bits : bits_of es ≡ fields_in layout
  pub values : (w : List ℕ) → held_by es w ≡ values_in layout w
  pub in_order : packed 0 es ≡ true
