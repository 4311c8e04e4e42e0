-- docs/FORMAT.md, section 4.8: UTF-16 little-endian: units, surrogate pairs, and the text of any bytes, in which each lone surrogate is one U+FFFD.
use Rattle.std.specs.Prelude.{ℕ, suc, ◌+◌, ◌*◌, ◌-◌, ◌/◌, ◌%◌, ◌≤◌, ◌⊎◌, List, [], ◌∷◌, ◌++◌, Bool, cond, ◌&&◌, length, leb, ltb, eqb}
use Rattle.hbc_text_forms.specs.Scalars.{encode_all}

-- the units of bytes, the lower byte first
unfoldable pub units : List ℕ → List ℕ
units [] = []
units (b ∷ []) = []
units (b ∷ h ∷ s) = (b + 256 * h) ∷ units s

-- a unit is a high surrogate, a low one, either
abbrev pub is_high : ℕ → Bool
is_high u = leb 0xD800 u && leb u 0xDBFF

abbrev pub is_low : ℕ → Bool
is_low u = leb 0xDC00 u && leb u 0xDFFF

abbrev pub is_surrogate : ℕ → Bool
is_surrogate u = leb 0xD800 u && leb u 0xDFFF

-- the scalar value of a pair
unfoldable pub pair_of : ℕ → ℕ → ℕ
pair_of h l = 0x10000 + (h - 0xD800) * 1024 + (l - 0xDC00)

-- of a unit that is in no pair
unfoldable pub alone : ℕ → ℕ
alone u = cond (is_surrogate u) 0xFFFD u

-- the scalar values of units
unfoldable pub scalars : List ℕ → List ℕ
scalars [] = []
scalars (u ∷ []) = alone u ∷ []
scalars (u ∷ v ∷ us) = cond (is_high u && is_low v) (pair_of u v ∷ scalars us) (alone u ∷ scalars (v ∷ us))

-- the text of bytes, empty if their number is odd
unfoldable pub utf16_text : List ℕ → List ℕ
utf16_text s = cond (eqb (length s % 2) 0) (encode_all (scalars (units s))) []

-- ---- the same as a relation, which says what a lone surrogate is and counts them

-- a high-surrogate code unit (D72) and a low-surrogate one (D74)
abbrev pub High : ℕ → Type 0
High u = (0xD800 ≤ u) × (u ≤ 0xDBFF)

abbrev pub Low : ℕ → Type 0
Low u = (0xDC00 ≤ u) × (u ≤ 0xDFFF)

-- either
abbrev pub Surrogate : ℕ → Type 0
Surrogate u = High u ⊎ Low u

-- units with a surrogate pair in front (D75): a high one, and behind it a low one
pub data Pair : List ℕ → Type 0 where
  high_low : {h l : ℕ} {us : List ℕ} → High h → Low l → Pair (h ∷ l ∷ us)

-- in front of these units u is lone: a surrogate that is not the first of a pair
pub record Lone (u : ℕ) (us : List ℕ) : Type 0 where
  pub surrogate : Surrogate u
  pub unpaired : Pair (u ∷ us) → ⊥

-- units taken from the front, and their values: of a pair its scalar value, of each lone surrogate, n in all, U+FFFD, of any other unit itself
pub data Paired : List ℕ → ℕ → List ℕ → Type 0 where
  nothing : Paired [] 0 []
  pair : {h l n : ℕ} {us cs : List ℕ} → High h → Low l → Paired us n cs → Paired (h ∷ l ∷ us) n (pair_of h l ∷ cs)
  lone : {u n : ℕ} {us cs : List ℕ} → Lone u us → Paired us n cs → Paired (u ∷ us) (suc n) (0xFFFD ∷ cs)
  unit : {u n : ℕ} {us cs : List ℕ} → (Surrogate u → ⊥) → Paired us n cs → Paired (u ∷ us) n (u ∷ cs)

-- ---- UTF-16 of scalar values, to say what well-formed UTF-16 is

-- the units of a scalar value: itself, or a pair
unfoldable pub units_of : ℕ → List ℕ
units_of c = cond (ltb c 0x10000) (c ∷ []) ((0xD800 + (c - 0x10000) / 1024) ∷ (0xDC00 + (c - 0x10000) % 1024) ∷ [])

-- of scalar values one after another
unfoldable pub units_all : List ℕ → List ℕ
units_all [] = []
units_all (c ∷ cs) = units_of c ++ units_all cs

-- the bytes of units, the lower first
unfoldable pub bytes_of : List ℕ → List ℕ
bytes_of [] = []
bytes_of (u ∷ us) = (u % 256) ∷ (u / 256) ∷ bytes_of us

-- the bytes of scalar values in UTF-16 little-endian
abbrev pub utf16_of : List ℕ → List ℕ
utf16_of cs = bytes_of (units_all cs)
