-- docs/FORMAT.md, section 4.8: UTF-8 as the Unicode Standard has it, and the text of any bytes: the well formed stays, each maximal ill-formed part is U+FFFD.
use Rattle.std.specs.Prelude.{ℕ, zero, suc, ◌≤◌, List, [], ◌∷◌, ◌++◌, Bool, false, cond, ◌&&◌, length, take, leb, eqb}

-- the bytes from the first to the last
infix 90 ◌‥◌
pub data Range : Type 0 where
  ◌‥◌ : ℕ → ℕ → Range

-- Table 3-7, well-formed UTF-8 byte sequences: first, second, third, fourth byte
abbrev pub table : List (List Range)
table =
    (0x00 ‥ 0x7F ∷ []) ∷
    (0xC2 ‥ 0xDF ∷ 0x80 ‥ 0xBF ∷ []) ∷
    (0xE0 ‥ 0xE0 ∷ 0xA0 ‥ 0xBF ∷ 0x80 ‥ 0xBF ∷ []) ∷
    (0xE1 ‥ 0xEC ∷ 0x80 ‥ 0xBF ∷ 0x80 ‥ 0xBF ∷ []) ∷
    (0xED ‥ 0xED ∷ 0x80 ‥ 0x9F ∷ 0x80 ‥ 0xBF ∷ []) ∷
    (0xEE ‥ 0xEF ∷ 0x80 ‥ 0xBF ∷ 0x80 ‥ 0xBF ∷ []) ∷
    (0xF0 ‥ 0xF0 ∷ 0x90 ‥ 0xBF ∷ 0x80 ‥ 0xBF ∷ 0x80 ‥ 0xBF ∷ []) ∷
    (0xF1 ‥ 0xF3 ∷ 0x80 ‥ 0xBF ∷ 0x80 ‥ 0xBF ∷ 0x80 ‥ 0xBF ∷ []) ∷
    (0xF4 ‥ 0xF4 ∷ 0x80 ‥ 0x8F ∷ 0x80 ‥ 0xBF ∷ 0x80 ‥ 0xBF ∷ []) ∷ []

-- ---- what is well formed

-- bytes that lie in a row's ranges, one in each
pub data Fits : List Range → List ℕ → Type 0 where
  none : Fits [] []
  more : {a z b : ℕ} {rs : List Range} {c : List ℕ} → a ≤ b → b ≤ z → Fits rs c → Fits (a ‥ z ∷ rs) (b ∷ c)

-- a row is in a table
pub data Among : List Range → List (List Range) → Type 0 where
  here : {row : List Range} {rows : List (List Range)} → Among row (row ∷ rows)
  there : {row other : List Range} {rows : List (List Range)} → Among row rows → Among row (other ∷ rows)

-- one character: bytes that fit a row of the table
pub record Character (c : List ℕ) : Type 0 where
  pub row : List Range
  pub listed : Among row table
  pub fit : Fits row c

-- well-formed UTF-8: characters one after another
pub data WellFormed : List ℕ → Type 0 where
  end : WellFormed []
  then : {c s : List ℕ} → Character c → WellFormed s → WellFormed (c ++ s)

-- ---- the text of any bytes

-- a byte is in a range
abbrev pub within : Range → ℕ → Bool
within (a ‥ z) b = leb a b && leb b z

-- a byte is in a row's first range
abbrev pub leads : List Range → ℕ → Bool
leads [] b = false
leads (r ∷ rs) b = within r b

-- the first row of which that is so, or no ranges
abbrev pub pick : List (List Range) → ℕ → List Range
pick [] b = []
pick (row ∷ rows) b = cond (leads row b) row (pick rows b)

-- the row that a first byte is in, or no ranges
unfoldable pub row_of : ℕ → List Range
row_of b = pick table b

-- the ranges behind the first
abbrev pub tail : List Range → List Range
tail [] = []
tail (r ∷ rs) = rs

-- how many bytes in front lie in the ranges, one after another
abbrev pub agree : List Range → List ℕ → ℕ
agree [] s = 0
agree (r ∷ rs) [] = 0
agree (r ∷ rs) (b ∷ s) = cond (within r b) (suc (agree rs s)) 0

-- the part that a byte begins: how many bytes of those after it are in it
unfoldable pub passed : ℕ → List ℕ → ℕ
passed b s = agree (tail (row_of b)) s

-- it is one if it fills the row
unfoldable pub whole : ℕ → List ℕ → Bool
whole b s = eqb (suc (passed b s)) (length (row_of b))

-- U+FFFD
abbrev pub replacement : List ℕ
replacement = 0xEF ∷ 0xBF ∷ 0xBD ∷ []

-- how the part is written: a character as it is, else U+FFFD
unfoldable pub written : ℕ → List ℕ → List ℕ
written b s = cond (whole b s) (b ∷ take (passed b s) s) replacement

-- the text of the bytes after the first k, part by part
unfoldable pub text_after : ℕ → List ℕ → List ℕ
text_after k [] = []
text_after zero (b ∷ s) = written b s ++ text_after (passed b s) s
text_after (suc k) (b ∷ s) = text_after k s

-- of all bytes
unfoldable pub utf8_text : List ℕ → List ℕ
utf8_text s = text_after 0 s
