-- What only private contracts cite: no promise rests on it.
-- docs/FORMAT.md, section 4.8: the unit and the scalar value at a place, and the text of an even number of bytes.
use Rattle.std.specs.Prelude.{ℕ, ◌+◌, ◌*◌, List, [], ◌∷◌, cond, ◌&&◌, length, drop, get_or}
use Rattle.hbc_text_forms.specs.Scalars.{encode, encode_all}
use Rattle.hbc_text_forms.specs.Utf16.{units, is_high, is_low, pair_of, alone, scalars}
use Rattle.hbc_text_utf16.specs.declared.Code.{Code}

-- the unit at a place
abbrev pub unit_at : List ℕ → ℕ → ℕ
unit_at s at = get_or s at 0 + 256 * get_or s (at + 1) 0

-- the first scalar value of units, and its bytes
abbrev pub code_of : List ℕ → Code
code_of [] = record { taken = 0; scalar = 0 }
code_of (u ∷ []) = record { taken = 2; scalar = alone u }
code_of (u ∷ v ∷ us) = cond (is_high u && is_low v) (record { taken = 4; scalar = pair_of u v }) (record { taken = 2; scalar = alone u })

unfoldable pub code_at : List ℕ → ℕ → Code
code_at s at = code_of (units (drop at s))

-- the text of an even number of bytes
unfoldable pub text_of : List ℕ → List ℕ
text_of s = encode_all (scalars (units s))

-- how many bytes a unit adds to the text, by the unit before it: the second half of a pair one, any other those of its own value
unfoldable pub weight_of : ℕ → ℕ → ℕ
weight_of before u = cond (is_high before && is_low u) 1 (length (encode (alone u)))

-- and units one after another
unfoldable pub weights : ℕ → List ℕ → ℕ
weights before [] = 0
weights before (u ∷ us) = weight_of before u + weights u us
