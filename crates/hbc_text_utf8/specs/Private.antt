-- What the private contracts of this crate cite: no promise does. One part at a place of a slice, and bytes that are their own text.
use Rattle.std.specs.Prelude.{ℕ, suc, ◌+◌, ◌-◌, ◌≤◌, ◌<◌, ◌≡◌, List, [], ◌∷◌, ◌++◌, Bool, false, cond, length, take, drop, get_or, ltb, eqb}
use Rattle.hbc_text_forms.specs.Utf8.{Range, ◌‥◌, within, row_of, agree, passed, whole, utf8_text}

-- the second range of a row
abbrev pub low_in : List Range → ℕ
low_in [] = 0x80
low_in (r ∷ []) = 0x80
low_in (r ∷ a ‥ z ∷ rs) = a

abbrev pub high_in : List Range → ℕ
high_in [] = 0xBF
high_in (r ∷ []) = 0xBF
high_in (r ∷ a ‥ z ∷ rs) = z

unfoldable pub low_of : ℕ → ℕ
low_of b = low_in (row_of b)

unfoldable pub high_of : ℕ → ℕ
high_of b = high_in (row_of b)

-- a byte is in front, from lo to hi
abbrev pub is_in : ℕ → ℕ → List ℕ → Bool
is_in lo hi [] = false
is_in lo hi (b ∷ s) = within (lo ‥ hi) b

-- the ranges after the first of a row of n bytes
unfoldable pub ranges : ℕ → ℕ → ℕ → List Range
ranges n lo hi =
    cond (ltb n 2) [] (lo ‥ hi ∷ cond (eqb n 2) [] (0x80 ‥ 0xBF ∷ cond (eqb n 3) [] (0x80 ‥ 0xBF ∷ [])))

unfoldable pub agree_at : ℕ → ℕ → ℕ → List ℕ → ℕ
agree_at n lo hi s = agree (ranges n lo hi) s

-- how many bytes the part has that begins at a place
unfoldable pub part_at : List ℕ → ℕ → ℕ
part_at s at = suc (passed (get_or s at 0) (drop (suc at) s))

-- and that it is no character
abbrev pub Ill : List ℕ → ℕ → Type 0
Ill s at = whole (get_or s at 0) (drop (suc at) s) ≡ false

-- k bytes from a place on are below 0x80
abbrev pub AllPlain : List ℕ → ℕ → ℕ → Type 0
AllPlain s at k = (j : ℕ) → j < k → get_or s (at + j) 0 < 0x80

-- the bytes from a place to another are their own text
pub record Kept (s : List ℕ) (at e : ℕ) : Type 0 where
  pub from : at ≤ e
  pub inside : e ≤ length s
  pub same : utf8_text (drop at s) ≡ take (e - at) (drop at s) ++ utf8_text (drop e s)

-- the character at a place has r bytes, or there is none, and r is 0
pub record Found (s : List ℕ) (at r : ℕ) : Type 0 where
  pub kept : Kept s at (at + r)
  pub none : r ≡ 0 → Ill s at

-- the characters from a place on end at e: the bytes' end, or no character begins there
pub record Run (s : List ℕ) (at e : ℕ) : Type 0 where
  pub kept : Kept s at e
  pub ends : e < length s → Ill s e
