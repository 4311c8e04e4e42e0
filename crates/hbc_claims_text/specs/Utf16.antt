-- docs/FORMAT.md, section 4.8: the text of bytes in UTF-16 little-endian.
use Rattle.std.specs.Prelude.{ℕ, ◌+◌, ◌*◌, ◌/◌, ◌%◌, ◌≤◌, ◌≡◌, List, [], ◌∷◌, cond, length, eqb}
use Rattle.hbc_text_forms.specs.Utf8.{WellFormed}
use Rattle.hbc_text_forms.specs.Parts.{Cut}
use Rattle.hbc_text_forms.specs.Scalars.{Scalars, encode_all}
use Rattle.hbc_text_forms.specs.Utf16.{units, scalars, utf16_text, Paired, units_all, utf16_of}

-- how many of numbers are U+FFFD
unfoldable pub replacements : List ℕ → ℕ
replacements [] = 0
replacements (c ∷ cs) = cond (eqb c 0xFFFD) 1 0 + replacements cs

-- units can be taken as pairs, lone surrogates and others, and however they are, so many are lone, and cs are their values
pub record OnePairing (us cs : List ℕ) : Type 0 where
  -- how many lone surrogates there are
  pub lone : ℕ
  pub is : Paired us lone cs
  pub one_lone : (n : ℕ) (ds : List ℕ) → Paired us n ds → n ≡ lone
  pub one_values : (n : ℕ) (ds : List ℕ) → Paired us n ds → ds ≡ cs

-- the text of s, each number of which is a byte
pub record OfUtf16 (s : List ℕ) : Type 0 where
  pub formed : WellFormed (utf16_text s)
  -- of an even number of bytes: the encodings of the values of its units, which are scalar values; of an odd number: empty
  pub even : length s % 2 ≡ 0 → utf16_text s ≡ encode_all (scalars (units s))
  pub values : Scalars (scalars (units s))
  pub pairing : OnePairing (units s) (scalars (units s))
  -- the text is cut into characters alone; those that are U+FFFD are the units that were, and one for each lone surrogate
  pub counted : length s % 2 ≡ 0 → Cut (utf16_text s) (replacements (units s) + pairing.lone) 0 (utf16_text s)
  -- without lone surrogates they are the UTF-16 of those values
  pub none_lone : length s % 2 ≡ 0 → pairing.lone ≡ 0 → utf16_of (scalars (units s)) ≡ s
  pub odd : length s % 2 ≡ 1 → utf16_text s ≡ []
  -- at most three bytes for each two
  pub most : length (utf16_text s) ≤ 3 * (length s / 2)

-- the UTF-16 of scalar values
pub record OfScalars (cs : List ℕ) : Type 0 where
  -- it has no lone surrogate, and its text is the encodings of the same
  pub paired : Paired (units_all cs) 0 cs
  pub text : utf16_text (utf16_of cs) ≡ encode_all cs
