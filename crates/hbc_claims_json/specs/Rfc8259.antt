-- RFC 8259, held beside it: JSON texts whose value is an array of strings, and the values of those strings. Characters are numbers, those that the RFC's
-- grammar writes %x; every rule has the RFC's name. Nothing here is of the writer.
use Rattle.std.specs.Prelude.{ℕ, ◌+◌, ◌*◌, ◌≤◌, ◌<◌, ◌≡◌, ◌⊎◌, List, [], ◌∷◌, ◌++◌}
use Rattle.hbc_text_forms.specs.Scalars.{Scalars, encode_all}
use Rattle.hbc_text_forms.specs.Utf16.{High, Low, Surrogate, pair_of}

-- ---- section 2

-- ws = *( %x20 / %x09 / %x0A / %x0D )
pub data Blank : ℕ → Type 0 where
  space : Blank 0x20
  horizontal_tab : Blank 0x09
  new_line : Blank 0x0A
  return : Blank 0x0D

pub data Ws : List ℕ → Type 0 where
  no_blank : Ws []
  blank : {c : ℕ} {w : List ℕ} → Blank c → Ws w → Ws (c ∷ w)

-- begin-array = ws %x5B ws, end-array = ws %x5D ws, value-separator = ws %x2C ws
pub data Structural (c : ℕ) : List ℕ → Type 0 where
  around : {v w : List ℕ} → Ws v → Ws w → Structural c (v ++ c ∷ w)

-- ---- section 7

-- unescaped = %x20-21 / %x23-5B / %x5D-10FFFF
abbrev pub Unescaped : ℕ → Type 0
Unescaped c = ((0x20 ≤ c) × (c ≤ 0x21)) ⊎ (((0x23 ≤ c) × (c ≤ 0x5B)) ⊎ ((0x5D ≤ c) × (c ≤ 0x10FFFF)))

-- what stands behind escape, %x5C, and the character that it names
pub data Short : ℕ → ℕ → Type 0 where
  quotation_mark : Short 0x22 0x22
  reverse_solidus : Short 0x5C 0x5C
  solidus : Short 0x2F 0x2F
  backspace : Short 0x62 0x08
  form_feed : Short 0x66 0x0C
  line_feed : Short 0x6E 0x0A
  carriage_return : Short 0x72 0x0D
  tab : Short 0x74 0x09

-- HEXDIG, in upper or lower case, and its value
pub data HexDig : ℕ → ℕ → Type 0 where
  digit : {d : ℕ} → d < 10 → HexDig (0x30 + d) d
  upper : {d : ℕ} → 10 ≤ d → d < 16 → HexDig (0x37 + d) d
  lower : {d : ℕ} → 10 ≤ d → d < 16 → HexDig (0x57 + d) d

-- 4HEXDIG
pub data Four : List ℕ → ℕ → Type 0 where
  four : {a b c d w x y z : ℕ} → HexDig a w → HexDig b x → HexDig c y → HexDig d z → Four (a ∷ b ∷ c ∷ d ∷ []) (((w * 16 + x) * 16 + y) * 16 + z)

-- char, and the character that it names: itself, the one of a short escape, that of \uXXXX, or that of two such, a surrogate pair. A lone surrogate names
-- none (section 8.2): a text that has one is not read here
pub data Char : List ℕ → ℕ → Type 0 where
  unescaped : {c : ℕ} → Unescaped c → Char (c ∷ []) c
  short : {c v : ℕ} → Short c v → Char (0x5C ∷ c ∷ []) v
  code : {p : List ℕ} {u : ℕ} → Four p u → (Surrogate u → ⊥) → Char (0x5C ∷ 0x75 ∷ p) u
  pair : {p q : List ℕ} {h l : ℕ} → Four p h → High h → Four q l → Low l → Char (0x5C ∷ 0x75 ∷ p ++ (0x5C ∷ 0x75 ∷ q)) (pair_of h l)

-- *char
pub data Chars : List ℕ → List ℕ → Type 0 where
  no_char : Chars [] []
  char : {p q : List ℕ} {c : ℕ} {cs : List ℕ} → Char p c → Chars q cs → Chars (p ++ q) (c ∷ cs)

-- string = quotation-mark *char quotation-mark
pub data String : List ℕ → List ℕ → Type 0 where
  string : {p cs : List ℕ} → Chars p cs → String (0x22 ∷ p ++ (0x22 ∷ [])) cs

-- ---- section 5, whose values are strings

-- *( value-separator value )
pub data Others : List ℕ → List (List ℕ) → Type 0 where
  no_other : Others [] []
  other : {p q r cs : List ℕ} {css : List (List ℕ)} → Structural 0x2C p → String q cs → Others r css → Others (p ++ (q ++ r)) (cs ∷ css)

-- array = begin-array [ value *( value-separator value ) ] end-array
pub data Array : List ℕ → List (List ℕ) → Type 0 where
  empty : {p z : List ℕ} → Structural 0x5B p → Structural 0x5D z → Array (p ++ z) []
  values : {p q r z cs : List ℕ} {css : List (List ℕ)} → Structural 0x5B p → String q cs → Others r css → Structural 0x5D z
      → Array (p ++ (q ++ (r ++ z))) (cs ∷ css)

-- section 2 again: JSON-text = ws value ws
pub data JsonText : List ℕ → List (List ℕ) → Type 0 where
  json_text : {v p w : List ℕ} {css : List (List ℕ)} → Ws v → Array p css → Ws w → JsonText (v ++ (p ++ w)) css

-- ---- section 8.1: in UTF-8

-- the UTF-8 of each list of scalar values
unfoldable pub encodings : List (List ℕ) → List (List ℕ)
encodings [] = []
encodings (cs ∷ css) = encode_all cs ∷ encodings css

-- bytes are the UTF-8 of such a JSON text, and texts the UTF-8 of its strings' values
pub record Reads (bytes : List ℕ) (texts : List (List ℕ)) : Type 0 where
  pub characters : List ℕ
  pub scalar : Scalars characters
  pub encoded : bytes ≡ encode_all characters
  pub strings : List (List ℕ)
  pub is : JsonText characters strings
  pub names : texts ≡ encodings strings
