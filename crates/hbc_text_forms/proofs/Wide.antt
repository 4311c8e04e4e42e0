-- What is true of the UTF-16 text: it is well formed, and the UTF-16 of scalar values has their encodings for its text.
use Prim.Native.Nat.{ℕ, zero, suc, ◌+◌, ◌*◌, ◌/◌, ◌%◌, ◌<◌}
use mathlib.Core.Path.{◌≡◌, refl}
use mathlib.Core.List.{List, [], ◌∷◌}
use mathlib.Core.Bool.{Bool, true, false, cond}
use native.Mathlib.Omega.{arith}
use lib.ListN.{length, get_or}
use lib.Dec.{eqb, lit<}
use borrow.Author.Tests.{eq-eqb, ne_eqb}
use Rattle.hbc_text_forms.specs.Utf8.{WellFormed, end}
use Rattle.hbc_text_forms.specs.Scalars.{encode_all, Scalars}
use Rattle.hbc_text_forms.specs.Utf16.{units, scalars, utf16_text, units_all, bytes_of, utf16_of}
use Rattle.hbc_text_forms.proofs.Codes.{formed_all}
use Rattle.hbc_text_forms.proofs.Pairs.{lones, only, paired, units_paired, paired_units, values_scalars}

-- ---- UTF-16 of scalar values

units_bytes : (us : List ℕ) → units (bytes_of us) ≡ us
unfolding units bytes_of
units_bytes [] = refl
units_bytes (u ∷ us) = joined (omega arith) (units_bytes us)
  where
    joined : {a b : ℕ} {s t : List ℕ} → a ≡ b → s ≡ t → a ∷ s ≡ b ∷ t
    joined p q = rw (p, q)

even_bytes : (us : List ℕ) → length (bytes_of us) % 2 ≡ 0
unfolding bytes_of
even_bytes [] = refl
even_bytes (u ∷ us) = omega (arith, even_bytes us)

-- the text of the UTF-16 of scalar values is their UTF-8
pub same_scalars : {cs : List ℕ} → Scalars cs → utf16_text (utf16_of cs) ≡ encode_all cs
unfolding utf16_text
same_scalars {cs} h = rw (even_bytes (units_all cs), units_bytes (units_all cs), ← (only (units_paired h)).values)

-- ---- any bytes

pub units_below : (s : List ℕ) → ((i : ℕ) → get_or s i 0 < 256) → (i : ℕ) → get_or (units s) i 0 < 65536
unfolding units
units_below [] h i = lit< tt
units_below (b ∷ []) h i = lit< tt
units_below (b ∷ k ∷ s) h zero = omega (arith, h 0, h 1)
units_below (b ∷ k ∷ s) h (suc i) = units_below s (λ j. h (suc (suc j))) i

pub scalars_of : (us : List ℕ) → ((i : ℕ) → get_or us i 0 < 65536) → Scalars (scalars us)
scalars_of us h = values_scalars (paired us) h

formed_at : (s : List ℕ) (w : Bool) → ((i : ℕ) → get_or s i 0 < 256) → WellFormed (cond w (encode_all (scalars (units s))) [])
formed_at s true h = formed_all (scalars_of (units s) (units_below s h))
formed_at s false h = end

-- the text of any bytes is well formed
pub formed : (s : List ℕ) → ((i : ℕ) → get_or s i 0 < 256) → WellFormed (utf16_text s)
unfolding utf16_text
formed s h = formed_at s (eqb (length s % 2) 0) h

bytes_units : (s : List ℕ) → length s % 2 ≡ 0 → ((i : ℕ) → get_or s i 0 < 256) → bytes_of (units s) ≡ s
unfolding bytes_of units
bytes_units [] e h = refl
bytes_units (b ∷ []) e h = absurd (omega arith)
bytes_units (b ∷ k ∷ s) e h =
    let x : (b + 256 * k) % 256 ≡ b = omega (arith, h 0) in
    let y : (b + 256 * k) / 256 ≡ k = omega (arith, h 0) in
    rw (x, y, bytes_units s (omega arith) (λ i. h (suc (suc i))))

-- bytes whose units pair without a lone surrogate are the UTF-16 of the values
pub none_lone : (s : List ℕ) → length s % 2 ≡ 0 → ((i : ℕ) → get_or s i 0 < 256) → lones (units s) ≡ 0 → utf16_of (scalars (units s)) ≡ s
none_lone s e h z = rw (paired_units (paired (units s)) z (units_below s h)) (bytes_units s e h)

-- ---- an even number of bytes, and an odd one

pub even : (s : List ℕ) → length s % 2 ≡ 0 → utf16_text s ≡ encode_all (scalars (units s))
unfolding utf16_text
even s e = rw (eq-eqb (length s % 2) 0 e)

pub odd : (s : List ℕ) → length s % 2 ≡ 1 → utf16_text s ≡ []
unfolding utf16_text
odd s e = rw (ne_eqb (length s % 2) 0 (λ z. omega arith))
