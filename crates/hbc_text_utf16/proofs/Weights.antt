-- The text's length counted unit by unit: a pair is four bytes, three and one.
use Prim.Native.Nat.{ℕ, ◌+◌, ◌*◌, ◌-◌, ◌/◌, ◌%◌, ◌≤◌, ◌<◌}
use mathlib.Core.Path.{◌≡◌, refl, sym, ap, ◌∙◌}
use mathlib.Core.List.{List, [], ◌∷◌}
use mathlib.Core.Bool.{Bool, true, false, cond, ◌&&◌}
use native.Mathlib.Nat.{zero-add}
use native.Mathlib.Omega.{arith}
use lib.ListN.{length, get_or, drop, length-append, drop_of_length-le}
use borrow.Author.Tests.{lt-leb, le-leb}
use Rattle.hbc_text_forms.specs.Scalars.{encode, encode_all}
use Rattle.hbc_text_forms.specs.Utf16.{units, is_high, is_low, is_surrogate, pair_of, alone, scalars}
use Rattle.hbc_text_forms.proofs.Laws.{both}
use Rattle.hbc_text_forms.proofs.Bounds.{units_length, scalars_length}
use Rattle.hbc_text_forms.proofs.Wide.{units_below}
use Rattle.hbc_text_utf16.specs.Private.{unit_at, text_of, weight_of, weights}
use Rattle.hbc_text_utf16.proofs.Sizes.{size_1, size_2, size_3, size_4}
use Rattle.hbc_text_utf16.proofs.Units.{in_from, out_above, units_at}
use Rattle.hbc_text_utf16.proofs.Steps.{Between, between_first, two_left}

-- ---- a unit by itself

alone_plain : (u : ℕ) → u < 0xD800 → alone u ≡ u
unfolding alone
alone_plain u h = rw (lt-leb 0xD800 u h)

three_at : (u : ℕ) (w : Bool) → 0x800 ≤ u → u < 65536 → length (encode (cond w 0xFFFD u)) ≡ 3
three_at u true l h = size_3 0xFFFD (omega arith) (omega arith)
three_at u false l h = size_3 u l h

module _ (before u : ℕ) (n : (is_high before && is_low u) ≡ false) where
  pub weight_1 : u < 0x80 → 1 ≡ weight_of before u
  unfolding weight_of
  weight_1 h = sym (rw (n, alone_plain u (omega arith)) (size_1 u h))

  pub weight_2 : 0x80 ≤ u → u < 0x800 → 2 ≡ weight_of before u
  unfolding weight_of
  weight_2 l h = sym (rw (n, alone_plain u (omega arith)) (size_2 u l h))

  pub weight_3 : 0x800 ≤ u → u < 65536 → 3 ≡ weight_of before u
  unfolding weight_of alone
  weight_3 l h = sym (rw n (three_at u (is_surrogate u) l h))

pub weight_second : (before u : ℕ) → (is_high before && is_low u) ≡ true → 1 ≡ weight_of before u
unfolding weight_of
weight_second before u e = sym (rw e)

-- ---- all of them

-- no pair goes over the front
abbrev Clear : ℕ → List ℕ → Type 0
Clear b [] = Unit {0}
Clear b (u ∷ us) = (is_high b && is_low u) ≡ false

high_alone : (u : ℕ) → is_high u ≡ true → alone u ≡ 0xFFFD
unfolding alone
high_alone u e =
    let x = in_from 0xD800 0xDBFF u e in
    let h : u ≤ 0xDFFF = omega (arith, x.1) in
    rw (le-leb 0xD800 u x.0, le-leb u 0xDFFF h)

after_low : (v : ℕ) (us : List ℕ) → is_low v ≡ true → Clear v us
after_low v [] e = tt
after_low v (u ∷ us) e =
    let x = in_from 0xDC00 0xDFFF v e in
    let n : is_high v ≡ false = sym (out_above 0xD800 0xDBFF v (omega (arith, x.0))) in
    rw n

pair_size : (u v : ℕ) → length (encode (pair_of u v)) ≡ 4
unfolding pair_of
pair_size u v = size_4 (0x10000 + (u - 0xD800) * 1024 + (v - 0xDC00)) (omega arith)

weights_at : (b u v : ℕ) (us : List ℕ) (w : Bool) → (is_high u && is_low v) ≡ w → (is_high b && is_low u) ≡ false
    → (is_low v ≡ true → weights v us ≡ length (encode_all (scalars us))) → ((is_high u && is_low v) ≡ false → weights u (v ∷ us) ≡ length (encode_all (scalars (v ∷ us))))
    → weights b (u ∷ v ∷ us) ≡ length (encode_all (cond w (pair_of u v ∷ scalars us) (alone u ∷ scalars (v ∷ us))))
unfolding weights weight_of encode_all
weights_at b u v us true e n f g =
    let x = both (is_high u) (is_low v) e in
    let k : length (encode (alone u)) ≡ 3 = rw (high_alone u x.0) (size_3 0xFFFD (omega arith) (omega arith)) in
    rw (n, e, k, f x.1, length-append (encode (pair_of u v)) (encode_all (scalars us)), pair_size u v) (omega arith)
weights_at b u v us false e n f g =
    rw n (ap (λ (z : ℕ). length (encode (alone u)) + z) (g e) ∙ sym (length-append (encode (alone u)) (encode_all (scalars (v ∷ us)))))

weights_are : (us : List ℕ) (b : ℕ) → Clear b us → weights b us ≡ length (encode_all (scalars us))
unfolding weights weight_of scalars encode_all
weights_are [] b c = refl
weights_are (u ∷ []) b c = rw (c, length-append (encode (alone u)) [])
weights_are (u ∷ v ∷ us) b c = weights_at b u v us (is_high u && is_low v) refl c (λ l. weights_are us v (after_low v us l)) (λ n. weights_are (v ∷ us) u n)

clear_first : (us : List ℕ) → Clear 0 us
clear_first [] = tt
clear_first (u ∷ us) = refl

-- ---- what the loop knows

pub record Weighing (s : List ℕ) (at before n : ℕ) : Type 0 where
  pub between : Between s at
  pub sum : n + weights before (units (drop at s)) ≡ length (text_of s)

pub weigh_first : (s : List ℕ) → length s % 2 ≡ 0 → Weighing s 0 0 0
unfolding text_of
weigh_first s e = record { between = between_first s e; sum = zero-add (weights 0 (units s)) ∙ weights_are (units s) 0 (clear_first (units s)) }

-- the most that may be counted
pub weigh_most : (s : List ℕ) → ((i : ℕ) → get_or s i 0 < 256) → length (text_of s) ≤ 3 * (length s / 2)
unfolding text_of
weigh_most s h = rw (← units_length s) (scalars_length (units s) (units_below s h))

module _ (s : List ℕ) (at before n : ℕ) (m : Weighing s at before n) where
  pub weigh_end : length s ≤ at → n ≡ length (text_of s)
  unfolding units weights
  weigh_end h =
      let z : weights before (units (drop at s)) ≡ 0 = rw (drop_of_length-le s h) in
      omega (arith, m.sum)

  module _ (h : at < length s) (u k : ℕ) (e : u ≡ unit_at s at) (q : k ≡ weight_of before u) where
    more_sum : n + k + weights u (units (drop (at + 2) s)) ≡ length (text_of s)
    unfolding weights
    more_sum =
        let z : weights before (units (drop at s)) ≡ k + weights u (units (drop (at + 2) s)) = rw (units_at s at (two_left s at m.between h), ← e, q) in
        omega (arith, m.sum)

    pub weigh_more : (j : ℕ) → j ≡ at + 2 → Weighing s j u (n + k)
    weigh_more j f =
        let t = two_left s at m.between h in
        rw f (record { between = record { inside = t; even = omega (arith, m.between.even) }; sum = more_sum })

    pub weigh_room : n + k ≤ length (text_of s)
    weigh_room = omega (arith, more_sum)
