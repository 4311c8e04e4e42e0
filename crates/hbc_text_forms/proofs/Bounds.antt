-- How long a text may be: three bytes for each byte of UTF-8, three for each unit of UTF-16.
use Prim.Native.Nat.{ℕ, zero, suc, ◌+◌, ◌*◌, ◌-◌, ◌/◌, ◌%◌, ◌≤◌, ◌<◌}
use mathlib.Core.Path.{◌≡◌, refl}
use mathlib.Core.Logic.{◌⊎◌, inl, inr}
use mathlib.Core.List.{List, [], ◌∷◌}
use mathlib.Core.Bool.{Bool, true, false, cond, ◌&&◌}
use native.Mathlib.Omega.{arith}
use lib.ListN.{length, get_or, take, length-append, length-take}
use lib.Dec.{eqb, lit<, lit≤}
use Rattle.hbc_text_forms.specs.Utf8.{passed, whole, replacement, written, text_after, utf8_text}
use Rattle.hbc_text_forms.specs.Scalars.{encode, encode_all}
use Rattle.hbc_text_forms.specs.Utf16.{units, is_high, is_low, is_surrogate, pair_of, alone, scalars, utf16_text}
use Rattle.hbc_text_forms.proofs.Rows.{passed_inside}
use Rattle.hbc_text_forms.proofs.Codes.{split, encode_1, encode_2, encode_3, encode_4}
use Rattle.hbc_text_forms.proofs.Wide.{units_below}

-- ---- UTF-8

part_room : (b : ℕ) (s : List ℕ) (w : Bool) → length (cond w (b ∷ take (passed b s) s) replacement) ≤ 3 + passed b s
part_room b s true = omega (arith, length-take (passed b s) s)
part_room b s false = omega arith

part_at : (b : ℕ) (s : List ℕ) → length (written b s) ≤ 3 + passed b s
unfolding written
part_at b s = part_room b s (whole b s)

text_at : (k : ℕ) (s : List ℕ) → length (text_after k s) ≤ 3 * (length s - k)
unfolding text_after
text_at zero [] = lit≤ tt
text_at (suc k) [] = omega arith
text_at zero (b ∷ s) =
    omega (arith, length-append (written b s) (text_after (passed b s) s), part_at b s, passed_inside b s, text_at (passed b s) s)
text_at (suc k) (b ∷ s) = omega (arith, text_at k s)

pub text_length : (s : List ℕ) → length (utf8_text s) ≤ 3 * length s
unfolding utf8_text
text_length s = omega (arith, text_at 0 s)

-- ---- UTF-16

unit_room : (c : ℕ) → c < 0x10000 → (c < 0x80) ⊎ (0x80 ≤ c) → (c < 0x800) ⊎ (0x800 ≤ c) → length (encode c) ≤ 3
unit_room c h (inl a) _ = rw (encode_1 c a) (lit≤ tt)
unit_room c h (inr k) (inl a) = rw (encode_2 c k a) (lit≤ tt)
unit_room c h (inr _) (inr k) = rw (encode_3 c k h) (lit≤ tt)

-- a scalar value that is one unit has at most three bytes, any other four
pub unit_length : (c : ℕ) → c < 0x10000 → length (encode c) ≤ 3
unit_length c h = unit_room c h (split c 0x80) (split c 0x800)

encode_room : (c : ℕ) → (c < 0x10000) ⊎ (0x10000 ≤ c) → length (encode c) ≤ 4
encode_room c (inl h) = omega (arith, unit_length c h)
encode_room c (inr h) = rw (encode_4 c h) (lit≤ tt)

pub encode_length : (c : ℕ) → length (encode c) ≤ 4
encode_length c = encode_room c (split c 0x10000)

alone_room : (u : ℕ) (w : Bool) → u < 0x10000 → cond w 0xFFFD u < 0x10000
alone_room u true h = lit< tt
alone_room u false h = h

alone_length : (u : ℕ) → u < 0x10000 → length (encode (alone u)) ≤ 3
unfolding alone
alone_length u h = unit_length (alone u) (alone_room u (is_surrogate u) h)

all_cons : (c : ℕ) (cs : List ℕ) → length (encode_all (c ∷ cs)) ≡ length (encode c) + length (encode_all cs)
unfolding encode_all
all_cons c cs = length-append (encode c) (encode_all cs)

scalars_room : (u v : ℕ) (us : List ℕ) (w : Bool) → length (encode (alone u)) ≤ 3
    → length (encode_all (scalars us)) ≤ 3 * length us → length (encode_all (scalars (v ∷ us))) ≤ 3 * suc (length us)
    → length (encode_all (cond w (pair_of u v ∷ scalars us) (alone u ∷ scalars (v ∷ us)))) ≤ 3 * suc (suc (length us))
scalars_room u v us true a f g = omega (arith, all_cons (pair_of u v) (scalars us), encode_length (pair_of u v))
scalars_room u v us false a f g = omega (arith, all_cons (alone u) (scalars (v ∷ us)))

pub scalars_length : (us : List ℕ) → ((i : ℕ) → get_or us i 0 < 65536) → length (encode_all (scalars us)) ≤ 3 * length us
unfolding scalars encode_all
scalars_length [] h = lit≤ tt
scalars_length (u ∷ []) h = omega (arith, all_cons (alone u) [], alone_length u (h 0), scalars_length [] (λ i. lit< tt))
scalars_length (u ∷ v ∷ us) h =
    scalars_room u v us (is_high u && is_low v) (alone_length u (h 0)) (scalars_length us (λ i. h (suc (suc i)))) (scalars_length (v ∷ us) (λ i. h (suc i)))

pub units_length : (s : List ℕ) → length (units s) ≡ length s / 2
unfolding units
units_length [] = refl
units_length (b ∷ []) = refl
units_length (b ∷ h ∷ s) = omega (arith, units_length s)

wide_room : (s : List ℕ) (w : Bool) → ((i : ℕ) → get_or s i 0 < 256) → length (cond w (encode_all (scalars (units s))) []) ≤ 3 * (length s / 2)
wide_room s true h = omega (arith, scalars_length (units s) (units_below s h), units_length s)
wide_room s false h = omega arith

pub wide_length : (s : List ℕ) → ((i : ℕ) → get_or s i 0 < 256) → length (utf16_text s) ≤ 3 * (length s / 2)
unfolding utf16_text
wide_length s h = wide_room s (eqb (length s % 2) 0) h
