-- The laws of fields, of the or and of little-endian numbers, each once, over every bit, width and word size.
use Prim.Native.Nat.{ℕ, zero, suc, ◌+◌, ◌*◌, ◌-◌, ◌/◌, ◌%◌, ◌^◌, ◌≤◌, ◌<◌}
use mathlib.Core.Path.{◌≡◌, refl, sym, subst, ap, ◌∙◌}
use mathlib.Core.List.{List, [], ◌∷◌, ◌++◌}
use native.Mathlib.Nat.{add-mul-div_left, add-mul-mod_self_left, mul_assoc, add_assoc, mul-add, zero-add, div-eq_of_lt, div-div-eq-div-mul, add-sub_of_le, pow-succ', one-mul, add-zero, mod-eq_of_lt, mod-lt, zero-mod, div-le_self, lt_of_le_of_lt, lt_of_lt_of_le, mul-mod_left, mul-suc}
use native.Mathlib.Omega.{arith}
use lib.Pow.{pow_pos, pow-add, pow_mono, pow-lt, mod-pow-add, shl-shr, high, low}
use lib.Bits.{bit_or, or_shr, or_mod, or_shifted_r}
use lib.ListN.{length, get_or, take, drop, length-drop}
use lib.Seq.{take-add, drop-drop, drop-cons, length-take-le, get_or-drop}
use Rattle.hbc_bits.specs.Bits.{little_endian, le_at, field}

-- ---- fields

-- a field of at most k bits is below 2 ^ k
pub field_lt : (k first width n : ℕ) → width ≤ k → field first width n < 2 ^ k
unfolding field
field_lt k first width n h = lt_of_lt_of_le (mod-lt (n / 2 ^ first) (pow_pos width)) (pow_mono h)

-- a field past a word of k bits is 0
pub field_past : (k first width n : ℕ) → n < 2 ^ k → k ≤ first → 0 ≡ field first width n
unfolding field
field_past k first width n h l = sym (rw (div-eq_of_lt (lt_of_lt_of_le h (pow_mono l)), zero-mod))

-- a field as wide as the word is all of it from the first bit up
pub field_wide : (k first width n : ℕ) → n < 2 ^ k → k ≤ width → n / 2 ^ first ≡ field first width n
unfolding field
field_wide k first width n h l =
    sym (mod-eq_of_lt (lt_of_le_of_lt (div-le_self n (2 ^ first)) (lt_of_lt_of_le h (pow_mono l))))

low_at : (first width rest lo hi : ℕ) → field first width (lo + 2 ^ (first + (width + rest)) * hi) ≡ field first width lo
unfolding field
low_at f w r lo hi =
    rw (pow-add 2 f (w + r), mul_assoc, add-mul-div_left lo (2 ^ (w + r) * hi) (pow_pos f), pow-add 2 w r, mul_assoc, add-mul-mod_self_left)

-- a longer number as two words, the lower of k bits: a field within the lower word is that word's
pub field_low : (k first width lo hi : ℕ) → first + width ≤ k → field first width (lo + 2 ^ k * hi) ≡ field first width lo
field_low k first width lo hi h =
    let e : k ≡ first + (width + (k - (first + width))) = omega arith in
    subst (λ (n : ℕ). field first width (lo + 2 ^ n * hi) ≡ field first width lo) (sym e) (low_at first width (k - (first + width)) lo hi)

high_at : (k past width lo hi : ℕ) → lo < 2 ^ k → field (k + past) width (lo + 2 ^ k * hi) ≡ field past width hi
unfolding field
high_at k past width lo hi l =
    rw (pow-add 2 k past, ← div-div-eq-div-mul, add-mul-div_left lo hi (pow_pos k), div-eq_of_lt l, zero-add)

-- and a field above it is the upper word's, k bits further down
pub field_high : (k first width lo hi : ℕ) → lo < 2 ^ k → k ≤ first → field first width (lo + 2 ^ k * hi) ≡ field (first - k) width hi
field_high k first width lo hi l h =
    subst (λ (n : ℕ). field n width (lo + 2 ^ k * hi) ≡ field (first - k) width hi) (add-sub_of_le h) (high_at k (first - k) width lo hi l)

-- ---- the or

-- a field of the or is the or of the fields: bit by bit, with width 1
pub field_or : (first width a b : ℕ) → field first width (bit_or a b) ≡ bit_or (field first width a) (field first width b)
unfolding field
field_or first width a b = rw (or_shr a b first, or_mod (a / 2 ^ first) (b / 2 ^ first) width)

or_above : (i j g v : ℕ) → v < 2 ^ j → bit_or v ((g * 2 ^ j) % 2 ^ (i + j)) ≡ (g * 2 ^ j + v) % 2 ^ (i + j)
or_above i j g v h =
    rw (mod-pow-add (g * 2 ^ j) i j, shl-shr g j, mul-mod_left g (2 ^ j), add-zero, or_shifted_r (g % 2 ^ i) j v h, mod-pow-add (g * 2 ^ j + v) i j, high g j h, low g j h)

-- a part shifted above another in a word of k bits: the or is the sum, less what the word does not hold
pub or_parts : (k j g v : ℕ) → j ≤ k → v < 2 ^ j → bit_or v ((g * 2 ^ j) % 2 ^ k) ≡ (g * 2 ^ j + v) % 2 ^ k
or_parts k j g v l h =
    let e : (k - j) + j ≡ k = omega arith in
    rw e at (or_above (k - j) j g v h)

-- a word of n bits with the one bit k set
pub one_shl : (n k : ℕ) → k < n → (1 * 2 ^ k) % 2 ^ n ≡ 2 ^ k
one_shl n k h = rw one-mul (mod-eq_of_lt (pow-lt h))

-- ---- little-endian numbers

-- every element is a byte
abbrev pub Bytes : List ℕ → Type 0
Bytes s = (i : ℕ) → get_or s i 0 < 256

lt_at : (s : List ℕ) (n : ℕ) → Bytes s → little_endian (take n s) < 2 ^ (8 * n)
lt_at s zero b = pow_pos (8 * 0)
lt_at [] (suc n) b = pow_pos (8 * suc n)
lt_at (x ∷ s) (suc n) b = rw (mul-suc, pow-add) (omega (arith, lt_at s n (λ i. b (suc i)), b 0))

-- n bytes are a number below 2 ^ (8 n)
pub le_lt : (s : List ℕ) (at n : ℕ) → Bytes s → le_at s at n < 2 ^ (8 * n)
unfolding le_at
le_lt s at n b = lt_at (drop at s) n (λ i. rw get_or-drop (b (at + i)))

num_append : (a b : List ℕ) → little_endian (a ++ b) ≡ little_endian a + 256 ^ length a * little_endian b
num_append [] b = sym (rw (one-mul, zero-add))
num_append (x ∷ a) b = rw (num_append a b, pow-succ', mul-add, mul_assoc, add_assoc)

-- the number of m + n bytes is that of the first m, and above it that of the n after them
pub le_add : (s : List ℕ) (at m n : ℕ) → at + m ≤ length s → le_at s at (m + n) ≡ le_at s at m + 256 ^ m * le_at s (at + m) n
unfolding le_at
le_add s at m n h =
    let e : length (take m (drop at s)) ≡ m = length-take-le m (drop at s) (simp length-drop (omega arith)) in
    rw (take-add m n (drop at s), num_append, e, drop-drop)

-- one byte more in front
pub le_step : (s : List ℕ) (at n : ℕ) → at < length s → le_at s at (suc n) ≡ get_or s at 0 + 256 * le_at s (suc at) n
unfolding le_at
le_step s at n h = rw (drop-cons s at 0 h)

-- four bytes, as a sum of them that a compiler makes one load of
module _ (s : List ℕ) (at : ℕ) where
  none : le_at s at 0 ≡ 0
  unfolding le_at
  none = refl

  step : (n m : ℕ) → at < length s → suc at ≡ m → le_at s at (suc n) ≡ get_or s at 0 + 256 * le_at s m n
  step n m h e = le_step s at n h ∙ ap (λ (k : ℕ). get_or s at 0 + 256 * le_at s k n) e

pub le_four : (s : List ℕ) (at : ℕ) {a b c d : ℕ} → at + 4 ≤ length s → a ≡ get_or s at 0 → b ≡ get_or s (at + 1) 0 → c ≡ get_or s (at + 2) 0 → d ≡ get_or s (at + 3) 0
    → a + b * 256 + c * 65536 + d * 16777216 ≡ le_at s at 4
le_four s at h p q r w =
    let x = step s at 3 (at + 1) (omega arith) (omega arith) in
    let y = step s (at + 1) 2 (at + 2) (omega arith) (omega arith) in
    let z = step s (at + 2) 1 (at + 3) (omega arith) (omega arith) in
    let u = step s (at + 3) 0 (at + 4) (omega arith) (omega arith) in
    omega (arith, p, q, r, w, x, y, z, u, none s (at + 4))
