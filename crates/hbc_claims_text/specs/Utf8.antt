-- docs/FORMAT.md, section 4.8: characters and scalar values, and the text of bytes in UTF-8.
use Rattle.std.specs.Prelude.{ℕ, ◌+◌, ◌*◌, ◌≤◌, ◌≡◌, List, length}
use Rattle.hbc_text_forms.specs.Utf8.{Character, WellFormed, utf8_text}
use Rattle.hbc_text_forms.specs.Parts.{Cut}
use Rattle.hbc_text_forms.specs.Scalars.{Scalar, encode}

-- bytes that are the encoding of a scalar value
pub record Coded (c : List ℕ) : Type 0 where
  pub scalar : ℕ
  pub is_scalar : Scalar scalar
  pub is : encode scalar ≡ c

-- the rows of table 3-7 and the scalar values
pub record Codes : Type 0 where
  -- the encoding of every scalar value fits a row
  pub all : (c : ℕ) → Scalar c → Character (encode c)
  -- and what fits a row is the encoding of one: of no surrogate, no overlong form, nothing past U+10FFFF
  pub only : (c : List ℕ) → Character c → Coded c
  -- no two have the same
  pub apart : (c d : ℕ) → encode c ≡ encode d → c ≡ d

-- bytes s can be cut into characters and maximal ill-formed parts; however that is done, the numbers are these, and t is what it gives
pub record OneCut (s t : List ℕ) : Type 0 where
  -- how many of the characters are U+FFFD themselves, and how many parts are ill formed
  pub kept : ℕ
  pub ill : ℕ
  pub is : Cut s kept ill t
  pub one_kept : (k n : ℕ) (u : List ℕ) → Cut s k n u → k ≡ kept
  pub one_ill : (k n : ℕ) (u : List ℕ) → Cut s k n u → n ≡ ill
  pub one_text : (k n : ℕ) (u : List ℕ) → Cut s k n u → u ≡ t
  -- t itself is cut into characters alone; those that are U+FFFD are the ones that s had, and one for each ill-formed part of s
  pub text : Cut t (kept + ill) 0 t

-- the text of bytes s
pub record OfUtf8 (s : List ℕ) : Type 0 where
  pub formed : WellFormed (utf8_text s)
  -- well-formed bytes are their own text, and so is a text
  pub unchanged : WellFormed s → utf8_text s ≡ s
  pub again : utf8_text (utf8_text s) ≡ utf8_text s
  pub cut : OneCut s (utf8_text s)
  -- without an ill-formed part they are well formed
  pub none_ill : cut.ill ≡ 0 → WellFormed s
  -- at most three bytes for each byte
  pub most : length (utf8_text s) ≤ 3 * length s
