-- docs/FORMAT.md, section 10.11: worked arrays, J1 to J7, each proved by computation.
use Rattle.std.specs.Prelude.{ℕ, ◌≡◌, List, [], ◌∷◌, ◌++◌, length, replicate}
use Rattle.hbc_io.specs.Answer.{Answer, gives, refused_at}
use Rattle.hbc_io.specs.Lends.{written}
use Rattle.hbc_text_forms.specs.Text.{over}
use Rattle.hbc_json.specs.StringsJson.{strings_json, strings_json_answer}

-- a row that names n bytes from a place on, with its marks
abbrev pub row : ℕ → ℕ → ℕ → List ℕ
row start n marks = start ∷ n ∷ 0 ∷ marks ∷ []

-- one string of all bytes of a storage
abbrev pub IsOne : List ℕ → ℕ → List ℕ → Type 0
IsOne s marks json = strings_json s (row 0 (length s) marks) 1 ≡ json

-- what is answered and left of so many bytes 9
abbrev pub PutsIn : List ℕ → List ℕ → ℕ → ℕ → Answer ℕ → List ℕ → Type 0
PutsIn s t count room a after =
    (strings_json_answer s t count room ≡ a)
    × (written (strings_json_answer s t count room) (over (strings_json s t count) (replicate room 9)) (replicate room 9) ≡ after)

abbrev pub cases : List {1} (Type 0)
cases =
    -- J1: no strings, with or without rows; one that is empty; two
    (strings_json [] [] 0 ≡ 0x5B ∷ 0x5D ∷ [])
    ∷ (strings_json (0x61 ∷ []) (row 0 1 0) 0 ≡ 0x5B ∷ 0x5D ∷ [])
    ∷ IsOne [] 0 (0x5B ∷ 0x22 ∷ 0x22 ∷ 0x5D ∷ [])
    ∷ (strings_json (0x61 ∷ 0x62 ∷ []) (row 1 1 0 ++ row 0 1 0) 2 ≡ 0x5B ∷ 0x22 ∷ 0x62 ∷ 0x22 ∷ 0x2C ∷ 0x22 ∷ 0x61 ∷ 0x22 ∷ 0x5D ∷ [])
    -- J2: a quote and a backslash, each behind a backslash; a slash as it is
    ∷ IsOne (0x22 ∷ 0x5C ∷ 0x2F ∷ []) 0 (0x5B ∷ 0x22 ∷ 0x5C ∷ 0x22 ∷ 0x5C ∷ 0x5C ∷ 0x2F ∷ 0x22 ∷ 0x5D ∷ [])
    -- J3: U+0000, U+000A and U+001F by their digits; a space and U+007F as they are
    ∷ IsOne (0x00 ∷ []) 0 (0x5B ∷ 0x22 ∷ 0x5C ∷ 0x75 ∷ 0x30 ∷ 0x30 ∷ 0x30 ∷ 0x30 ∷ 0x22 ∷ 0x5D ∷ [])
    ∷ IsOne (0x0A ∷ []) 0 (0x5B ∷ 0x22 ∷ 0x5C ∷ 0x75 ∷ 0x30 ∷ 0x30 ∷ 0x30 ∷ 0x61 ∷ 0x22 ∷ 0x5D ∷ [])
    ∷ IsOne (0x1F ∷ []) 0 (0x5B ∷ 0x22 ∷ 0x5C ∷ 0x75 ∷ 0x30 ∷ 0x30 ∷ 0x31 ∷ 0x66 ∷ 0x22 ∷ 0x5D ∷ [])
    ∷ IsOne (0x20 ∷ 0x7F ∷ []) 0 (0x5B ∷ 0x22 ∷ 0x20 ∷ 0x7F ∷ 0x22 ∷ 0x5D ∷ [])
    -- J4: a character of three bytes as it is, U+2028; an ill-formed byte is U+FFFD
    ∷ IsOne (0xE2 ∷ 0x80 ∷ 0xA8 ∷ []) 0 (0x5B ∷ 0x22 ∷ 0xE2 ∷ 0x80 ∷ 0xA8 ∷ 0x22 ∷ 0x5D ∷ [])
    ∷ IsOne (0xE2 ∷ 0x80 ∷ 0x22 ∷ []) 0 (0x5B ∷ 0x22 ∷ 0xEF ∷ 0xBF ∷ 0xBD ∷ 0x5C ∷ 0x22 ∷ 0x22 ∷ 0x5D ∷ [])
    -- J5: UTF-16: a quote, and a unit whose lower byte is one; a lone surrogate before a backslash; an odd number of bytes
    ∷ IsOne (0x22 ∷ 0x00 ∷ 0x22 ∷ 0x01 ∷ []) 1 (0x5B ∷ 0x22 ∷ 0x5C ∷ 0x22 ∷ 0xC4 ∷ 0xA2 ∷ 0x22 ∷ 0x5D ∷ [])
    ∷ IsOne (0x00 ∷ 0xD8 ∷ 0x5C ∷ 0x00 ∷ []) 1 (0x5B ∷ 0x22 ∷ 0xEF ∷ 0xBF ∷ 0xBD ∷ 0x5C ∷ 0x5C ∷ 0x22 ∷ 0x5D ∷ [])
    ∷ IsOne (0x22 ∷ 0x00 ∷ 0x22 ∷ []) 1 (0x5B ∷ 0x22 ∷ 0x22 ∷ 0x5D ∷ [])
    -- J6: just enough room, a byte to spare, a byte too little; for no strings too
    ∷ PutsIn (0x61 ∷ []) (row 0 1 0) 1 5 (gives 5) (0x5B ∷ 0x22 ∷ 0x61 ∷ 0x22 ∷ 0x5D ∷ [])
    ∷ PutsIn (0x61 ∷ []) (row 0 1 0) 1 6 (gives 5) (0x5B ∷ 0x22 ∷ 0x61 ∷ 0x22 ∷ 0x5D ∷ 9 ∷ [])
    ∷ PutsIn (0x61 ∷ []) (row 0 1 0) 1 4 (refused_at 4 0) (9 ∷ 9 ∷ 9 ∷ 9 ∷ [])
    ∷ PutsIn [] [] 0 1 (refused_at 4 0) (9 ∷ [])
    -- J7: more rows than the count are no matter; fewer, also where all words of one but the last are lent, are 11, before 4
    ∷ PutsIn (0x61 ∷ []) (row 0 1 0 ++ row 0 1 0) 1 5 (gives 5) (0x5B ∷ 0x22 ∷ 0x61 ∷ 0x22 ∷ 0x5D ∷ [])
    ∷ PutsIn (0x61 ∷ []) (row 0 1 0 ++ (0 ∷ 1 ∷ 0 ∷ [])) 2 1 (refused_at 11 0) (9 ∷ [])
    ∷ []
