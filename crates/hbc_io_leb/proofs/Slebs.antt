-- The sign of a LEB128 number: two's complement of its groups' bits, and what 64 bits keep of it.
use mathlib.Core.Path.{◌≡◌, refl, ap, ◌∙◌}
use mathlib.Core.Bool.{Bool, true, false}
use Prim.Native.Nat.{ℕ, zero, suc, ◌+◌, ◌-◌, ◌*◌, ◌/◌, ◌%◌, ◌^◌, ◌≤◌, ◌<◌}
use native.Mathlib.Omega.{arith}
use native.Mathlib.Nat.{mod-eq_of_lt, two-pow-succ, div-eq_of_lt, add-mul-div_left, zero-mul, zero-mod}
use borrow.Author.Tests.{lt-ltb, le-ltb, le-leb, lt-leb, leb-true, leb-false}
use lib.Dec.{leb}
use lib.IntN.{negsuc}
use lib.Pow.{pow_mono, pow_pos}
use lib.Arith.{digits_mod}
use lib.Bits.{bit_or, or_zero_r}
use Rattle.hbc_io.specs.Outcome.{twos}
use Rattle.hbc_io_leb.specs.Leb.{low64}
use Rattle.hbc_io_leb.specs.Private.{signed_bits}
use Rattle.hbc_bits.proofs.Laws.{or_parts}

pub by_le : {P : Type 0} (a b : ℕ) → (a ≤ b → P) → (b < a → P) → P
by_le {P} a b f g = go (leb a b) refl
  where
    go : (t : Bool) → leb a b ≡ t → P
    go true e = f (leb-true a b e)
    go false e = g (leb-false a b e)

-- the highest of 7 n bits is half of what they hold
half : (n : ℕ) → 1 ≤ n → 2 ^ (7 * n) ≡ 2 ^ (7 * n - 1) + 2 ^ (7 * n - 1)
half n h =
    let e : 7 * n ≡ suc (7 * n - 1) = omega arith in
    ap (λ (k : ℕ). 2 ^ k) e ∙ two-pow-succ (7 * n - 1)

few : (n : ℕ) → n < 10 → 2 ^ (7 * n) ≤ 2 ^ 63
few n h = pow_mono {i = 7 * n} {j = 63} (omega arith)

-- fewer than ten groups: 64 bits lose nothing
pub kept : (n v : ℕ) → 1 ≤ n → n < 10 → v < 2 ^ (7 * n) → low64 (twos (7 * n) v) ≡ twos (7 * n) v
kept n v a b h =
    by_le (2 ^ (7 * n - 1)) v
    (λ l.
    let p : 2 ^ (7 * n) ≤ 2 ^ 63 = few n b in
    let m : (2 ^ (7 * n) - suc v) % 2 ^ 64 ≡ 2 ^ (7 * n) - suc v = mod-eq_of_lt (omega arith) in
    simp (le-ltb _ _ l, m, le-ltb (2 ^ 64 - suc (2 ^ (7 * n) - suc v)) (2 ^ 63) (omega (arith, half n a, pow_pos (7 * n - 1)))) (ap negsuc (omega arith)))
    (λ l.
    let p : 2 ^ (7 * n) ≤ 2 ^ 63 = few n b in
    let m : v % 2 ^ 64 ≡ v = mod-eq_of_lt (omega arith) in
    simp (lt-ltb _ _ l, m, lt-ltb v (2 ^ 63) (omega arith)))

-- ten groups: the low 64 of 70 bits, whatever the sign
ten : (v : ℕ) → v < 2 ^ 70 → low64 (twos 70 v) ≡ twos 64 (v % 2 ^ 64)
ten v h =
    by_le (2 ^ 69) v
    (λ l.
    let m : 2 ^ 64 - suc ((2 ^ 70 - suc v) % 2 ^ 64) ≡ v % 2 ^ 64 = omega arith in
    simp (le-ltb v (2 ^ 69) l) (ap (twos 64) m))
    (λ l. simp (lt-ltb v (2 ^ 69) l))

pub signed_law : (n v : ℕ) → 1 ≤ n → n ≤ 10 → v < 2 ^ (7 * n) → low64 (twos (7 * n) v) ≡ signed_bits (v % 2 ^ 64) n
signed_law n v a b h =
    by_le 10 n
    (λ l.
    let e : n ≡ 10 = omega arith in
    rw (le-leb _ _ l, e) (ten v (rw e at h)))
    (λ l.
    let p : 2 ^ (7 * n) ≤ 2 ^ 63 = few n l in
    let m : v % 2 ^ 64 ≡ v = mod-eq_of_lt (omega arith) in
    rw (lt-leb _ _ l, m) (kept n v a l h))

borrowed : (q x v : ℕ) → (q + 1) + x ≡ 2 ^ 64 → 18446744073709551615 * (q + 1) + v ≡ q * 2 ^ 64 + (x + v)
borrowed q x v h = omega arith

-- all 64 bits set, shifted up, over a number that lies below
ones_above : (p v : ℕ) → 1 ≤ p → p ≤ 2 ^ 63 → v < p → (18446744073709551615 * p + v) % 2 ^ 64 ≡ (2 ^ 64 - p) + v
ones_above p v a b h =
    let e = borrowed (p - 1) (2 ^ 64 - p) v (omega arith) in
    let s : (p - 1) + 1 ≡ p = omega arith in
    ap (λ (x : ℕ). x % 2 ^ 64) (rw s at e) ∙ digits_mod (p - 1) {m = 2 ^ 64} (omega arith)

-- the highest of 7 n bits, as a number
clear : (p v : ℕ) → v < p → v / p ≡ 0
clear p v h = div-eq_of_lt h

set : (p v : ℕ) → zero < p → p ≤ v → v < p + p → v / p ≡ 1
set p v z l h =
    let e : v ≡ (v - p) + p * 1 = omega arith in
    let d : (v - p) / p ≡ 0 = div-eq_of_lt (omega arith) in
    ap (λ (x : ℕ). x / p) e ∙ add-mul-div_left (v - p) 1 z ∙ ap (λ (x : ℕ). x + 1) d

-- the bits above are the sign's, for fewer than ten groups
pub sign_law : (n v : ℕ) → 1 ≤ n → n < 10 → v < 2 ^ (7 * n)
    → twos 64 (bit_or v ((v / 2 ^ (7 * n - 1) * 18446744073709551615 * 2 ^ (7 * n)) % 2 ^ 64)) ≡ signed_bits v n
sign_law n v a b h =
    let p : 2 ^ (7 * n) ≤ 2 ^ 63 = few n b in
    by_le (2 ^ (7 * n - 1)) v
    (λ l.
    let o : v / 2 ^ (7 * n - 1) ≡ 1 = set (2 ^ (7 * n - 1)) v (pow_pos (7 * n - 1)) l (omega (arith, half n a)) in
    let u : 2 ^ 63 ≤ (2 ^ 64 - 2 ^ (7 * n)) + v = omega arith in
    let z : 2 ^ 64 - suc ((2 ^ 64 - 2 ^ (7 * n)) + v) ≡ 2 ^ (7 * n) - suc v = omega arith in
    let w : 7 * n ≤ 64 = omega arith in
    let q : (18446744073709551615 * 2 ^ (7 * n) + v) % 2 ^ 64 ≡ (2 ^ 64 - 2 ^ (7 * n)) + v = ones_above (2 ^ (7 * n)) v (pow_pos (7 * n)) p h in
    rw o
    (simp (lt-leb _ _ b, or_parts 64 (7 * n) 18446744073709551615 v w h, q, le-ltb _ _ u, le-ltb _ _ l) (ap negsuc z)))
    (λ l.
    rw (clear (2 ^ (7 * n - 1)) v l)
    (simp (zero-mul, zero-mod, or_zero_r, lt-leb _ _ b, lt-ltb v (2 ^ 63) (omega arith), lt-ltb _ _ l)))
