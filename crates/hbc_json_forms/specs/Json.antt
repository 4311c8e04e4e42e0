-- docs/FORMAT.md, section 4.9: texts as JSON (RFC 8259): one array of strings, in order, without spaces.
use Rattle.std.specs.Prelude.{ℕ, ◌+◌, ◌/◌, ◌%◌, List, [], ◌∷◌, ◌++◌, Bool, cond, ◌||◌, ltb, eqb}
use Rattle.hbc_text_forms.specs.Utf8.{utf8_text}
use Rattle.hbc_text_forms.specs.Utf16.{utf16_text}

-- a hex digit, lowercase
abbrev pub hex_digit : ℕ → ℕ
hex_digit d = cond (ltb d 10) (0x30 + d) (0x57 + d)

-- the quote and the backslash
abbrev pub is_quote : ℕ → Bool
is_quote b = eqb b 0x22 || eqb b 0x5C

-- what is escaped: these, and U+0000 to U+001F
abbrev pub is_escaped : ℕ → Bool
is_escaped b = ltb b 0x20 || is_quote b

-- a byte of a text: by a backslash before it, as \u00 and two hex digits, or as it is
unfoldable pub escape : ℕ → List ℕ
escape b =
    cond (is_quote b) (0x5C ∷ b ∷ [])
    (cond (ltb b 0x20) (0x5C ∷ 0x75 ∷ 0x30 ∷ 0x30 ∷ hex_digit (b / 16) ∷ hex_digit (b % 16) ∷ [])
    (b ∷ []))

-- a text, byte by byte
unfoldable pub escaped : List ℕ → List ℕ
escaped [] = []
escaped (b ∷ t) = escape b ++ escaped t

-- a string: the text between quotes
unfoldable pub quoted : List ℕ → List ℕ
quoted t = 0x22 ∷ escaped t ++ (0x22 ∷ [])

-- strings, with a comma before each
unfoldable pub commas : List (List ℕ) → List ℕ
commas [] = []
commas (t ∷ ts) = 0x2C ∷ quoted t ++ commas ts

-- the first has none
unfoldable pub listed : List (List ℕ) → List ℕ
listed [] = []
listed (t ∷ ts) = quoted t ++ commas ts

-- all of them between brackets
unfoldable pub array : List (List ℕ) → List ℕ
array ts = 0x5B ∷ listed ts ++ (0x5D ∷ [])

-- ---- one string's bytes

-- their text, of UTF-16 or of UTF-8
abbrev pub text_in : Bool → List ℕ → List ℕ
text_in wide s = cond wide (utf16_text s) (utf8_text s)
