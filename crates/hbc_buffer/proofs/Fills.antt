-- Tables that are filled run by run.
use Prim.Native.Nat.{ℕ, zero, suc, ◌+◌, ◌-◌, ◌*◌, ◌^◌, ◌≤◌, ◌<◌}
use mathlib.Core.Path.{◌≡◌, refl, ap, ◌∙◌}
use mathlib.Core.Bool.{true, false, cond}
use mathlib.Core.List.{List}
use native.Mathlib.Omega.{arith}
use native.Mathlib.Nat.{add-suc, suc-mul, mul-le-mul, mul-suc, pow-succ', div-one, mod-eq_of_lt}
use native.Mathlib.Numerals.{add-one}
use lib.Pow.{pow-add}
use lib.ListN.{length, set, length-set}
use Rattle.hbc_bits.specs.Bits.{le_at, field}
use Rattle.hbc_bits.proofs.Laws.{Bytes, le_lt, le_add, field_low}
use Rattle.hbc_rows.specs.Rows.{filled}
use Rattle.hbc_rows.proofs.Laws.{filled_length}
use Rattle.hbc_buffer.specs.Private.{filled_from, payloads_from}

pub from_more : (k n : ℕ) (g : ℕ → ℕ) (t : List ℕ) → filled_from k (n + 1) g t ≡ set (filled_from k n g t) (k + n) (g n)
unfolding filled_from
from_more k n g t = rw add-one

pub from_length : (k n : ℕ) (g : ℕ → ℕ) (t : List ℕ) → length (filled_from k n g t) ≡ length t
unfolding filled_from
from_length k zero g t = refl
from_length k (suc n) g t = rw (length-set, from_length k n g t)

-- entries that are there, are there in the table filled so far
pub filled_room : (f : ℕ → ℕ) (n : ℕ) (t₀ : List ℕ) {t : List ℕ} {m count : ℕ} → t ≡ filled f n t₀ → count ≤ length t₀ → m ≤ count → m ≤ length t
filled_room f n t₀ e h l = omega (arith, ap length e ∙ filled_length f t₀ n, h, l)

-- n entries more
pub from_filled : (k n : ℕ) (g f : ℕ → ℕ) (t : List ℕ) → ((i : ℕ) → i < n → g i ≡ f (k + i)) → filled_from k n g (filled f k t) ≡ filled f (k + n) t
unfolding filled_from filled
from_filled k zero g f t h = let e : k + 0 ≡ k = omega arith in rw e
from_filled k (suc n) g f t h = rw (add-suc, from_filled k n g f t (λ i l. h i (omega arith)), h n (omega arith))

-- value i of n of one width has its bytes where all of them have
pub run_room : (at w n i : ℕ) {p l : ℕ} → i < n → p ≡ at + i * w → at + n * w ≤ l → p + w ≤ l
run_room at w n i h e r = omega (arith, e, r, suc-mul i w, mul-le-mul {n₁ = suc i} {m₁ = w} {n₂ = n} {m₂ = w} h (omega arith))

pub run_room_8 : (at w n i : ℕ) {p l : ℕ} → i < n → p ≡ at + i * w → at + n * w + 8 ≤ l → p + 8 ≤ l
run_room_8 at w n i h e r = omega (arith, e, r, mul-le-mul {n₁ = i} {m₁ = w} {n₂ = n} {m₂ = w} (omega arith) (omega arith))

pub run_step : (at w i : ℕ) {p v : ℕ} → p ≡ at + i * w → v ≡ w → p + v ≡ at + (i + 1) * w
run_step at w i e f = rw (f, add-one) (omega (arith, e, suc-mul i w))

-- ---- a payload cut from eight bytes

byte_pow : (w : ℕ) → 256 ^ w ≡ 2 ^ (8 * w)
byte_pow zero = refl
byte_pow (suc w) = rw (mul-suc, pow-add, pow-succ') (omega (arith, byte_pow w))

low_all : (k n : ℕ) → n < 2 ^ k → field 0 k n ≡ n
unfolding field
low_all k n h = rw (div-one, mod-eq_of_lt h)

-- the number of the first w of eight bytes is their number's low bits
pub cut_word : (s : List ℕ) (at w : ℕ) → Bytes s → w ≤ 8 → at + 8 ≤ length s → field 0 (8 * w) (le_at s at 8) ≡ le_at s at w
cut_word s at w b h r =
    let e : w + (8 - w) ≡ 8 = omega arith in
    let p = le_add s at w (8 - w) (omega arith) in
    let q : le_at s at 8 ≡ le_at s at w + 2 ^ (8 * w) * le_at s (at + w) (8 - w) = rw (← byte_pow w) (rw e at p) in
    rw (q, field_low (8 * w) 0 (8 * w) (le_at s at w) (le_at s (at + w) (8 - w)) (omega arith)) (low_all (8 * w) (le_at s at w) (le_lt s at w b))

-- one payload more
pub payload_more : (first i at w : ℕ) (s t₀ : List ℕ) {t : List ℕ} {p x v : ℕ} → t ≡ payloads_from s at w first i t₀ → p ≡ at + i * w → x ≡ le_at s p 8
    → v ≡ field 0 (8 * w) x → Bytes s → w ≤ 8 → p + 8 ≤ length s → set t (first + i) v ≡ payloads_from s at w first (i + 1) t₀
payload_more first i at w s t₀ {t} {p} e q f g b h r =
    rw (from_more, ← e) (ap (set t (first + i)) (g ∙ ap (field 0 (8 * w)) f ∙ cut_word s p w b h r ∙ ap (λ (z : ℕ). le_at s z w) q))

-- ---- tests

pub falsely : {A : Type 0} → false ≡ true → A
falsely e = let z : ◌≡◌ {A = ℕ} 0 1 = ap (λ b. cond b 1 0) e in absurd (omega (arith, z))

-- the product of a run's length and a width is no great number
pub small_product : (n w : ℕ) → n < 4294967296 → w ≤ 8 → n * w < 34359738369
small_product n w h l = omega (arith, mul-le-mul {n₁ = n} {m₁ = w} {n₂ = 4294967295} {m₂ = 8} (omega arith) l)
