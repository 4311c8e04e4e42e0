-- Bits that are clear in every word of a row's record: what does not fit, and what should be 0, all at once.
use Prim.Native.Nat.{ℕ, zero, suc, ◌+◌, ◌*◌, ◌-◌, ◌/◌, ◌%◌, ◌^◌, ◌≤◌, ◌<◌}
use mathlib.Core.Path.{◌≡◌, refl, sym, ap, ◌∙◌}
use mathlib.Core.List.{List, [], ◌∷◌}
use mathlib.Core.Bool.{Bool, true, false, cond}
use native.Mathlib.Omega.{arith}
use native.Mathlib.Numerals.{add-one}
use native.Mathlib.Nat.{mod-eq_of_lt, mod-lt, suc-mul, zero-mod, zero-mul}
use lib.Bits.{bit_and, bit_or, or_add_and, and_le_l, and_le_r, and_high, and_mask, and_block, and_zero_r, or_zero_l}
use lib.Pow.{pow_pos, shr_lt}
use lib.Dec.{ltb, eqb, lit<}
use lib.ListN.{get_or, drop}
use lib.Seq.{get_or-take, get_or-drop}
use borrow.Author.Tests.{ltb-true, ltb-false, eqb-true, eq-eqb}
use Rattle.hbc_bits.proofs.Fields.{both}
use Rattle.hbc_rows.specs.Rows.{row_at}
use Rattle.hbc_function_record.specs.declared.Layout.{Layout}
use Rattle.hbc_function_record.specs.declared.Layout.TheVariants as lay
use Rattle.hbc_function_record.specs.Row.{width, record_width, number_in}
use Rattle.hbc_function_bytes.specs.Bytes.{goes_inline, right_row}
use Rattle.hbc_function_bytes.proofs.Sums.{same_test, in_the_way, none_in_the_way, legacy_way, modern_way, amiss, none_amiss, wrong_layout, wrong_id, legacy_amiss, modern_amiss}
use Rattle.hbc_function_write.specs.Private.{paired, halves, clear, Plain}

-- word k of row i
pub row_word : (rows : List ℕ) (i k : ℕ) → k < width → get_or (row_at width rows i) k 0 ≡ get_or rows (i * width + k) 0
unfolding row_at
row_word rows i k h = rw (get_or-take width (drop (i * width) rows) k 0 h, get_or-drop)

-- ---- the loop

or_none : (a b : ℕ) → bit_or a b ≡ 0 → (a ≡ 0) × (b ≡ 0)
or_none a b h =
    let e = or_add_and a b in
    let l = and_le_l a b in
    let r = and_le_r a b in
    (omega arith, omega arith)

or_test : (a b : ℕ) → eqb (bit_or a b) 0 ≡ cond (eqb a 0) (eqb b 0) false
or_test a b =
    same_test (eqb (bit_or a b) 0) (cond (eqb a 0) (eqb b 0) false)
    (λ h. let z = or_none a b (eqb-true (bit_or a b) 0 h) in rw (eq-eqb a 0 z.0, eq-eqb b 0 z.1))
    (λ h.
    let t = both (eqb a 0) h in
    let x : a ≡ 0 = eqb-true a 0 t.0 in
    let y : b ≡ 0 = eqb-true b 0 t.1 in
    eq-eqb (bit_or a b) 0 (rw (x, y) (or_zero_l 0)))

-- ---- pairs

-- a pair has none of its bits set exactly when neither half has
pair_test : (a b m : ℕ) → a < 2 ^ 32
    → eqb (bit_and (a + b * 2 ^ 32) m) 0 ≡ cond (eqb (bit_and a (m % 2 ^ 32)) 0) (eqb (bit_and b (m / 2 ^ 32)) 0) false
pair_test a b m h =
    let q : m / 2 ^ 32 * 2 ^ 32 + m % 2 ^ 32 ≡ m = omega arith in
    let p : b * 2 ^ 32 + a ≡ a + b * 2 ^ 32 = omega arith in
    let c : bit_and (b * 2 ^ 32 + a) (m / 2 ^ 32 * 2 ^ 32 + m % 2 ^ 32) ≡ bit_and b (m / 2 ^ 32) * 2 ^ 32 + bit_and a (m % 2 ^ 32) =
    and_block 32 b (m / 2 ^ 32) a (m % 2 ^ 32) h (mod-lt m (lit< tt)) in
    let e : bit_and (a + b * 2 ^ 32) m ≡ bit_and b (m / 2 ^ 32) * 2 ^ 32 + bit_and a (m % 2 ^ 32) = rw (p, q) at c in
    same_test (eqb (bit_and (a + b * 2 ^ 32) m) 0) (cond (eqb (bit_and a (m % 2 ^ 32)) 0) (eqb (bit_and b (m / 2 ^ 32)) 0) false)
    (λ t.
    let z : bit_and b (m / 2 ^ 32) * 2 ^ 32 + bit_and a (m % 2 ^ 32) ≡ 0 = sym e ∙ eqb-true (bit_and (a + b * 2 ^ 32) m) 0 t in
    rw (eq-eqb (bit_and a (m % 2 ^ 32)) 0 (omega arith), eq-eqb (bit_and b (m / 2 ^ 32)) 0 (omega arith)))
    (λ t.
    let u = both (eqb (bit_and a (m % 2 ^ 32)) 0) t in
    let x : bit_and a (m % 2 ^ 32) ≡ 0 = eqb-true (bit_and a (m % 2 ^ 32)) 0 u.0 in
    let y : bit_and b (m / 2 ^ 32) ≡ 0 = eqb-true (bit_and b (m / 2 ^ 32)) 0 u.1 in
    eq-eqb (bit_and (a + b * 2 ^ 32) m) 0 (e ∙ omega arith))

twice : (k : ℕ) → suc k * 2 ≡ suc (suc (k * 2))
twice k = omega arith

low_half : (ms : List ℕ) (k : ℕ) → get_or (halves ms) (k * 2) 0 ≡ get_or ms k 0 % 2 ^ 32
low_half [] k = refl
low_half (m ∷ ms) zero = refl
low_half (m ∷ ms) (suc k) = rw (twice k) (low_half ms k)

high_half : (ms : List ℕ) (k : ℕ) → get_or (halves ms) (suc (k * 2)) 0 ≡ get_or ms k 0 / 2 ^ 32
high_half [] k = refl
high_half (m ∷ ms) zero = refl
high_half (m ∷ ms) (suc k) = rw (twice k) (high_half ms k)

cond_cond : (a b c : Bool) → cond a (cond b c false) false ≡ cond (cond a b false) c false
cond_cond true b c = refl
cond_cond false b c = refl

-- what is or-ed of pairs 0 to k - 1 is 0 exactly when their words are clear
pub record Clearing (w masks : List ℕ) (k set : ℕ) : Type 0 where
  pub within : k * 2 ≤ record_width
  pub tests : eqb set 0 ≡ clear (halves masks) w (k * 2)

pub clearing_first : (w masks : List ℕ) → Clearing w masks 0 0
unfolding clear
clearing_first w masks = record { within = omega arith; tests = refl }

clear_two : (w masks : List ℕ) (k : ℕ)
    → clear (halves masks) w (suc k * 2)
    ≡ cond (cond (clear (halves masks) w (k * 2)) (eqb (bit_and (get_or w (k * 2) 0) (get_or masks k 0 % 2 ^ 32)) 0) false)
    (eqb (bit_and (get_or w (suc (k * 2)) 0) (get_or masks k 0 / 2 ^ 32)) 0) false
unfolding clear
clear_two w masks k = rw (twice k, low_half masks k, high_half masks k)

pub clearing_more : (w : List ℕ) {masks : List ℕ} {k set p : ℕ} → ((j : ℕ) → get_or w j 0 < 2 ^ 32) → Clearing w masks k set → k * 2 < record_width
    → p ≡ paired w (k * 2) → Clearing w masks (k + 1) (bit_or set (bit_and p (get_or masks k 0)))
unfolding paired
clearing_more w {masks} {k} {set} {p} u v h e =
    let b : get_or w (suc (k * 2)) 0 ≡ get_or w (k * 2 + 1) 0 = rw add-one in
    let t : eqb (bit_and p (get_or masks k 0)) 0
    ≡ cond (eqb (bit_and (get_or w (k * 2) 0) (get_or masks k 0 % 2 ^ 32)) 0)
    (eqb (bit_and (get_or w (suc (k * 2)) 0) (get_or masks k 0 / 2 ^ 32)) 0) false =
    rw (e, b) (pair_test (get_or w (k * 2) 0) (get_or w (k * 2 + 1) 0) (get_or masks k 0) (u (k * 2))) in
    record {
      within = omega arith;
      tests =
          or_test set (bit_and p (get_or masks k 0))
          ∙ rw (v.tests, t)
          (cond_cond (clear (halves masks) w (k * 2)) (eqb (bit_and (get_or w (k * 2) 0) (get_or masks k 0 % 2 ^ 32)) 0)
          (eqb (bit_and (get_or w (suc (k * 2)) 0) (get_or masks k 0 / 2 ^ 32)) 0)
          ∙ sym (rw (add-one k) (clear_two w masks k)));
    }

-- ---- word by word

more : (P : ℕ → Type 0) (n : ℕ) → ((k : ℕ) → k < n → P k) → P n → (k : ℕ) → k < suc n → P k
more P n f p k h = by (ltb k n) refl
  where
    by : (b : Bool) → ltb k n ≡ b → P k
    by true e = f k (ltb-true k n e)
    by false e = let g = ltb-false k n e in let q : n ≡ k = omega arith in mathlib.Core.Path.subst P q p

clear_all : (masks w : List ℕ) (n : ℕ) → clear masks w n ≡ true → (k : ℕ) → k < n → bit_and (get_or w k 0) (get_or masks k 0) ≡ 0
unfolding clear
clear_all masks w zero e k h = absurd (omega arith)
clear_all masks w (suc n) e k h =
    let t = both (clear masks w n) e in
    more (λ k. bit_and (get_or w k 0) (get_or masks k 0) ≡ 0) n (clear_all masks w n t.0) (eqb-true (bit_and (get_or w n 0) (get_or masks n 0)) 0 t.1) k h

all_clear : (masks w : List ℕ) (n : ℕ) → ((k : ℕ) → k < n → bit_and (get_or w k 0) (get_or masks k 0) ≡ 0) → clear masks w n ≡ true
unfolding clear
all_clear masks w zero f = refl
all_clear masks w (suc n) f =
    rw (all_clear masks w n (λ k h. f k (omega arith)), eq-eqb (bit_and (get_or w n 0) (get_or masks n 0)) 0 (f n (omega arith)))

module _ (P : ℕ → Type 0) (p0 : P 0) (p1 : P 1) (p2 : P 2) (p3 : P 3) (p4 : P 4) (p5 : P 5) (p6 : P 6) (p7 : P 7) (p8 : P 8) (p9 : P 9) (p10 : P 10)
    (p11 : P 11) (p12 : P 12) (p13 : P 13) (p14 : P 14) (p15 : P 15) where
  each_word : (k : ℕ) → k < record_width → P k
  each_word =
      more P 15 (more P 14 (more P 13 (more P 12 (more P 11 (more P 10 (more P 9 (more P 8 (more P 7 (more P 6 (more P 5 (more P 4 (more P 3 (more P 2
      (more P 1 (more P 0 (λ k h. absurd (omega arith)) p0) p1) p2) p3) p4) p5) p6) p7) p8) p9) p10) p11) p12) p13) p14) p15

-- ---- what a clear word is

none : (a b : ℕ) → 0 < b → a * b ≡ 0 → a ≡ 0
none zero b h e = refl
none (suc a) b h e = absurd (omega (arith, suc-mul a b))

-- nothing above bit w
high_clear : (j w x : ℕ) → x < 2 ^ (j + w) → bit_and x (2 ^ (j + w) - 2 ^ w) ≡ 0 → x / 2 ^ w ≡ 0
high_clear j w x h e =
    let l : x / 2 ^ w < 2 ^ j = shr_lt j w h in
    let p : x / 2 ^ w * 2 ^ w ≡ 0 = rw (mod-eq_of_lt l) at (sym (and_high x j w) ∙ e) in
    none (x / 2 ^ w) (2 ^ w) (pow_pos w) p

clear_high : (j w x : ℕ) → x / 2 ^ w ≡ 0 → bit_and x (2 ^ (j + w) - 2 ^ w) ≡ 0
clear_high j w x e = and_high x j w ∙ rw (e, zero-mod (2 ^ j)) (zero-mul (2 ^ w))

-- flags: a byte, whose bit 5 is clear
flags_parts : (x : ℕ) → bit_and x 4294967072 ≡ x / 256 % 16777216 * 256 + x % 256 / 32 % 2 * 32
flags_parts x =
    let q : x / 256 * 2 ^ 8 + x % 256 ≡ x = omega arith in
    let b : bit_and (x / 256 * 2 ^ 8 + x % 256) (16777215 * 2 ^ 8 + 32) ≡ bit_and (x / 256) 16777215 * 2 ^ 8 + bit_and (x % 256) 32 =
    and_block 8 (x / 256) 16777215 (x % 256) 32 (mod-lt x (lit< tt)) (lit< tt) in
    let m : bit_and (x / 256) 16777215 ≡ x / 256 % 16777216 = and_mask (x / 256) 24 in
    let n : bit_and (x % 256) 32 ≡ x % 256 / 32 % 2 * 32 = and_high (x % 256) 1 5 in
    rw q at b ∙ rw (m, n)

flags_clear : (x : ℕ) → x < 2 ^ 32 → bit_and x 4294967072 ≡ 0 → (x / 256 ≡ 0) × (x / 32 % 2 ≡ 0)
flags_clear x h e =
    let s : x / 256 % 16777216 * 256 + x % 256 / 32 % 2 * 32 ≡ 0 = sym (flags_parts x) ∙ e in
    let m : x / 256 % 16777216 ≡ 0 = omega arith in
    let l : x / 256 < 16777216 = omega arith in
    let a : x / 256 ≡ 0 = sym (mod-eq_of_lt l) ∙ m in
    let z : x % 256 / 32 % 2 ≡ 0 = omega arith in
    let y : x % 256 ≡ x = omega arith in
    (a, rw y at z)

clear_flags : (x : ℕ) → x / 256 ≡ 0 → x / 32 % 2 ≡ 0 → bit_and x 4294967072 ≡ 0
clear_flags x a b =
    let y : x % 256 ≡ x = omega arith in
    let z : x % 256 / 32 % 2 ≡ 0 = rw y b in
    flags_parts x ∙ omega arith

whole_clear : (x : ℕ) → x < 2 ^ 32 → bit_and x 4294967295 ≡ 0 → x ≡ 0
whole_clear x h e = sym (mod-eq_of_lt h) ∙ sym (and_mask x 32) ∙ e

clear_whole : (x : ℕ) → x ≡ 0 → bit_and x 4294967295 ≡ 0
clear_whole x e = and_mask x 32 ∙ rw e

-- ---- the bits that the code names

abbrev pub legacy_masks : List ℕ
legacy_masks = 0 ∷ 0 ∷ 0xFE000000 ∷ 0xFFFFFF80 ∷ 0xFFFF8000 ∷ 0xFFFE0000 ∷ 0xFE000000 ∷ 0xFFFFFF80 ∷ 0xFFFFFF20 ∷ 0xFFFFFF00 ∷ 0xFFFFFF00 ∷ 0xFFFFFF00 ∷ 0 ∷ 0 ∷ 0 ∷ 0 ∷ []

-- with the four zeros besides
abbrev pub plain_masks : List ℕ
plain_masks = 0 ∷ 0 ∷ 0xFE000000 ∷ 0xFFFFFF80 ∷ 0xFFFF8000 ∷ 0xFFFE0000 ∷ 0xFE000000 ∷ 0xFFFFFF80 ∷ 0xFFFFFF20 ∷ 0xFFFFFF00 ∷ 0xFFFFFF00 ∷ 0xFFFFFF00 ∷ 0xFFFFFFFF ∷ 0xFFFFFFFF ∷ 0xFFFFFFFF ∷ 0xFFFFFFFF ∷ []

abbrev pub modern_masks : List ℕ
modern_masks = 0 ∷ 0 ∷ 0xFE000000 ∷ 0xFFFFFFE0 ∷ 0xFFFFC000 ∷ 0xFFFFFF00 ∷ 0xFFFFFFFF ∷ 0xFFFFFF00 ∷ 0xFFFFFF20 ∷ 0xFFFFFFFC ∷ 0xFFFFFFE0 ∷ 0xFFFFFFE0 ∷ 0xFFFFFF00 ∷ 0xFFFFFFC0 ∷ 0xFFFFFFFE ∷ 0xFFFFFFFE ∷ []

module _ (w : List ℕ) (u : (k : ℕ) → get_or w k 0 < 2 ^ 32) where
  -- clear exactly when it goes inline
  pub legacy_inline : clear legacy_masks w record_width ≡ goes_inline lay.Legacy16 w
  legacy_inline =
      same_test (clear legacy_masks w record_width) (goes_inline lay.Legacy16 w)
      (λ h.
      let c = clear_all legacy_masks w record_width h in
      let c2 : get_or w 2 0 / 33554432 ≡ 0 = high_clear 7 25 (get_or w 2 0) (u 2) (c 2 (lit< tt)) in
      let c3 : get_or w 3 0 / 128 ≡ 0 = high_clear 25 7 (get_or w 3 0) (u 3) (c 3 (lit< tt)) in
      let c4 : get_or w 4 0 / 32768 ≡ 0 = high_clear 17 15 (get_or w 4 0) (u 4) (c 4 (lit< tt)) in
      let c5 : get_or w 5 0 / 131072 ≡ 0 = high_clear 15 17 (get_or w 5 0) (u 5) (c 5 (lit< tt)) in
      let c6 : get_or w 6 0 / 33554432 ≡ 0 = high_clear 7 25 (get_or w 6 0) (u 6) (c 6 (lit< tt)) in
      let c7 : get_or w 7 0 / 128 ≡ 0 = high_clear 25 7 (get_or w 7 0) (u 7) (c 7 (lit< tt)) in
      let c8 = flags_clear (get_or w 8 0) (u 8) (c 8 (lit< tt)) in
      let c9 : get_or w 9 0 / 256 ≡ 0 = high_clear 24 8 (get_or w 9 0) (u 9) (c 9 (lit< tt)) in
      let c10 : get_or w 10 0 / 256 ≡ 0 = high_clear 24 8 (get_or w 10 0) (u 10) (c 10 (lit< tt)) in
      let c11 : get_or w 11 0 / 256 ≡ 0 = high_clear 24 8 (get_or w 11 0) (u 11) (c 11 (lit< tt)) in
      sym (none_in_the_way lay.Legacy16 w {k = 0} (omega (arith, legacy_way w, c8))))
      (λ h.
      let z : in_the_way lay.Legacy16 w ≡ 0 = eqb-true (in_the_way lay.Legacy16 w) 0 (none_in_the_way lay.Legacy16 w refl ∙ h) in
      let y = sym (legacy_way w) ∙ z in
      all_clear legacy_masks w record_width
      (each_word (λ k. bit_and (get_or w k 0) (get_or legacy_masks k 0) ≡ 0)
      (and_zero_r (get_or w 0 0))
      (and_zero_r (get_or w 1 0))
      (clear_high 7 25 (get_or w 2 0) (omega arith))
      (clear_high 25 7 (get_or w 3 0) (omega arith))
      (clear_high 17 15 (get_or w 4 0) (omega arith))
      (clear_high 15 17 (get_or w 5 0) (omega arith))
      (clear_high 7 25 (get_or w 6 0) (omega arith))
      (clear_high 25 7 (get_or w 7 0) (omega arith))
      (clear_flags (get_or w 8 0) (omega arith) (omega arith))
      (clear_high 24 8 (get_or w 9 0) (omega arith))
      (clear_high 24 8 (get_or w 10 0) (omega arith))
      (clear_high 24 8 (get_or w 11 0) (omega arith))
      (and_zero_r (get_or w 12 0))
      (and_zero_r (get_or w 13 0))
      (and_zero_r (get_or w 14 0))
      (and_zero_r (get_or w 15 0))))

  -- clear exactly when it goes inline
  pub modern_inline : clear modern_masks w record_width ≡ goes_inline lay.Modern12 w
  modern_inline =
      same_test (clear modern_masks w record_width) (goes_inline lay.Modern12 w)
      (λ h.
      let c = clear_all modern_masks w record_width h in
      let c2 : get_or w 2 0 / 33554432 ≡ 0 = high_clear 7 25 (get_or w 2 0) (u 2) (c 2 (lit< tt)) in
      let c3 : get_or w 3 0 / 32 ≡ 0 = high_clear 27 5 (get_or w 3 0) (u 3) (c 3 (lit< tt)) in
      let c4 : get_or w 4 0 / 16384 ≡ 0 = high_clear 18 14 (get_or w 4 0) (u 4) (c 4 (lit< tt)) in
      let c5 : get_or w 5 0 / 256 ≡ 0 = high_clear 24 8 (get_or w 5 0) (u 5) (c 5 (lit< tt)) in
      let c6 = whole_clear (get_or w 6 0) (u 6) (c 6 (lit< tt)) in
      let c7 : get_or w 7 0 / 256 ≡ 0 = high_clear 24 8 (get_or w 7 0) (u 7) (c 7 (lit< tt)) in
      let c8 = flags_clear (get_or w 8 0) (u 8) (c 8 (lit< tt)) in
      let c9 : get_or w 9 0 / 4 ≡ 0 = high_clear 30 2 (get_or w 9 0) (u 9) (c 9 (lit< tt)) in
      let c10 : get_or w 10 0 / 32 ≡ 0 = high_clear 27 5 (get_or w 10 0) (u 10) (c 10 (lit< tt)) in
      let c11 : get_or w 11 0 / 32 ≡ 0 = high_clear 27 5 (get_or w 11 0) (u 11) (c 11 (lit< tt)) in
      let c12 : get_or w 12 0 / 256 ≡ 0 = high_clear 24 8 (get_or w 12 0) (u 12) (c 12 (lit< tt)) in
      let c13 : get_or w 13 0 / 64 ≡ 0 = high_clear 26 6 (get_or w 13 0) (u 13) (c 13 (lit< tt)) in
      let c14 : get_or w 14 0 / 2 ≡ 0 = high_clear 31 1 (get_or w 14 0) (u 14) (c 14 (lit< tt)) in
      let c15 : get_or w 15 0 / 2 ≡ 0 = high_clear 31 1 (get_or w 15 0) (u 15) (c 15 (lit< tt)) in
      sym (none_in_the_way lay.Modern12 w {k = 0} (omega (arith, modern_way w, c8))))
      (λ h.
      let z : in_the_way lay.Modern12 w ≡ 0 = eqb-true (in_the_way lay.Modern12 w) 0 (none_in_the_way lay.Modern12 w refl ∙ h) in
      let y = sym (modern_way w) ∙ z in
      all_clear modern_masks w record_width
      (each_word (λ k. bit_and (get_or w k 0) (get_or modern_masks k 0) ≡ 0)
      (and_zero_r (get_or w 0 0))
      (and_zero_r (get_or w 1 0))
      (clear_high 7 25 (get_or w 2 0) (omega arith))
      (clear_high 27 5 (get_or w 3 0) (omega arith))
      (clear_high 18 14 (get_or w 4 0) (omega arith))
      (clear_high 24 8 (get_or w 5 0) (omega arith))
      (clear_whole (get_or w 6 0) (omega arith))
      (clear_high 24 8 (get_or w 7 0) (omega arith))
      (clear_flags (get_or w 8 0) (omega arith) (omega arith))
      (clear_high 30 2 (get_or w 9 0) (omega arith))
      (clear_high 27 5 (get_or w 10 0) (omega arith))
      (clear_high 27 5 (get_or w 11 0) (omega arith))
      (clear_high 24 8 (get_or w 12 0) (omega arith))
      (clear_high 26 6 (get_or w 13 0) (omega arith))
      (clear_high 31 1 (get_or w 14 0) (omega arith))
      (clear_high 31 1 (get_or w 15 0) (omega arith))))

  -- clear of all that is plain: it goes inline, and the four words are 0
  plain_inline : clear plain_masks w record_width ≡ true → (clear legacy_masks w record_width ≡ true) × (get_or w 12 0 ≡ 0) × (get_or w 13 0 ≡ 0) × (get_or w 14 0 ≡ 0) × (get_or w 15 0 ≡ 0)
  plain_inline h =
      let c = clear_all plain_masks w record_width h in (
        all_clear legacy_masks w record_width
            (each_word (λ k. bit_and (get_or w k 0) (get_or legacy_masks k 0) ≡ 0)
            (c 0 (lit< tt))
            (c 1 (lit< tt))
            (c 2 (lit< tt))
            (c 3 (lit< tt))
            (c 4 (lit< tt))
            (c 5 (lit< tt))
            (c 6 (lit< tt))
            (c 7 (lit< tt))
            (c 8 (lit< tt))
            (c 9 (lit< tt))
            (c 10 (lit< tt))
            (c 11 (lit< tt))
            (and_zero_r (get_or w 12 0))
            (and_zero_r (get_or w 13 0))
            (and_zero_r (get_or w 14 0))
            (and_zero_r (get_or w 15 0))),
        whole_clear (get_or w 12 0) (u 12) (c 12 (lit< tt)),
        whole_clear (get_or w 13 0) (u 13) (c 13 (lit< tt)),
        whole_clear (get_or w 14 0) (u 14) (c 14 (lit< tt)),
        whole_clear (get_or w 15 0) (u 15) (c 15 (lit< tt)),
      )

  -- and a right row that goes inline is
  inline-plain : (i : ℕ) → amiss lay.Legacy16 i w ≡ 0 → clear legacy_masks w record_width ≡ true → clear plain_masks w record_width ≡ true
  inline-plain i z h =
      let c = clear_all legacy_masks w record_width h in
      all_clear plain_masks w record_width
      (each_word (λ k. bit_and (get_or w k 0) (get_or plain_masks k 0) ≡ 0)
      (c 0 (lit< tt))
      (c 1 (lit< tt))
      (c 2 (lit< tt))
      (c 3 (lit< tt))
      (c 4 (lit< tt))
      (c 5 (lit< tt))
      (c 6 (lit< tt))
      (c 7 (lit< tt))
      (c 8 (lit< tt))
      (c 9 (lit< tt))
      (c 10 (lit< tt))
      (c 11 (lit< tt))
      (clear_whole (get_or w 12 0) (omega arith))
      (clear_whole (get_or w 13 0) (omega arith))
      (clear_whole (get_or w 14 0) (omega arith))
      (clear_whole (get_or w 15 0) (omega arith)))

-- ---- the answer of the short way

either : {A : Type 0} {b : Bool} → b ≡ true → b ≡ false → A
either p q = let z : ◌≡◌ {A = ℕ} 0 1 = cc in absurd (omega arith)

not_inline : (b : Bool) → (b ≡ true → ⊥) → b ≡ false
not_inline true f = absurd (f refl)
not_inline false f = refl

-- a row that is not right
not_right : (layout : Layout) (i : ℕ) (w : List ℕ) → false ≡ right_row layout i w → Plain layout i w false
not_right layout i w e = record { right = λ h. either h refl; inline = λ h. either h refl; large = λ h g. either g (sym e) }

module _ (row : List ℕ) (i : ℕ) (small : (k : ℕ) → get_or row k 0 < 2 ^ 32) where
  pub legacy_goes : clear legacy_masks row record_width ≡ goes_inline lay.Legacy16 row
  legacy_goes = legacy_inline row small

  pub modern_goes : clear modern_masks row record_width ≡ goes_inline lay.Modern12 row
  modern_goes = modern_inline row small

  -- its first two words as a pair: layout and number
  abbrev own : Layout → ℕ
  own lay.Legacy16 = i * 4294967296
  own lay.Modern12 = i * 4294967296 + 1

  own_is : (layout : Layout) → own layout ≡ i * 4294967296 + number_in layout
  own_is lay.Legacy16 = omega arith
  own_is lay.Modern12 = refl

  number_small : (layout : Layout) → number_in layout < 2
  number_small lay.Legacy16 = lit< tt
  number_small lay.Modern12 = lit< tt

  wrong_by : (layout : Layout) (b : Bool) → eqb (get_or row 0 0) (number_in layout) ≡ b → (get_or row 0 0 ≡ number_in layout → get_or row 1 0 ≡ i → ⊥) → false ≡ right_row layout i row
  wrong_by layout true e n = let o = eqb-true (get_or row 0 0) (number_in layout) e in wrong_id layout i row o (n o)
  wrong_by layout false e n = wrong_layout layout i row (λ o. either (eq-eqb (get_or row 0 0) (number_in layout) o) e)

  module _ (layout : Layout) {p : ℕ} (e : p ≡ paired row 0) where
    pub other : (p ≡ own layout → ⊥) → Plain layout i row false
    unfolding paired
    other n =
        not_right layout i row
        (wrong_by layout (eqb (get_or row 0 0) (number_in layout)) refl
        (λ o d. n (e ∙ rw (o, d) (omega arith) ∙ sym (own_is layout))))

    module _ (o : p ≡ own layout) where
      is_own : get_or row 0 0 ≡ number_in layout
      unfolding paired
      is_own =
          let k = number_small layout in
          let s = small 0 in
          let q : get_or row 0 0 + get_or row 1 0 * 4294967296 ≡ i * 4294967296 + number_in layout = sym e ∙ o ∙ own_is layout in
          omega arith

      is_number : get_or row 1 0 ≡ i
      unfolding paired
      is_number =
          let k = number_small layout in
          let s = small 0 in
          let q : get_or row 0 0 + get_or row 1 0 * 4294967296 ≡ i * 4294967296 + number_in layout = sym e ∙ o ∙ own_is layout in
          omega arith

      rights : {k : ℕ} → k ≡ amiss layout i row → eqb k 0 ≡ right_row layout i row
      rights d = none_amiss layout i row is_own is_number d

  pub legacy_plain : {p : ℕ} {r : Bool} → p ≡ paired row 0 → p ≡ own lay.Legacy16 → r ≡ clear plain_masks row record_width → Plain lay.Legacy16 i row r
  legacy_plain f o e =
      record {
        right =
            λ h.
            let t = plain_inline row small (sym e ∙ h) in
            let z : in_the_way lay.Legacy16 row ≡ 0 = eqb-true (in_the_way lay.Legacy16 row) 0 (none_in_the_way lay.Legacy16 row refl ∙ sym legacy_goes ∙ t.0) in
            let y = sym (legacy_way row) ∙ z in
            sym (rights lay.Legacy16 f o {k = 0} (legacy_amiss i row (omega (arith, t))));
        inline = λ h. sym legacy_goes ∙ (plain_inline row small (sym e ∙ h)).0;
        large =
            λ h g.
            let z : amiss lay.Legacy16 i row ≡ 0 = eqb-true (amiss lay.Legacy16 i row) 0 (rights lay.Legacy16 f o refl ∙ g) in
            not_inline (goes_inline lay.Legacy16 row) (λ q. either (inline-plain row small i z (legacy_goes ∙ q)) (sym e ∙ h));
      }

  pub modern_plain : {p : ℕ} {r : Bool} → p ≡ paired row 0 → p ≡ own lay.Modern12 → r ≡ clear modern_masks row record_width → Plain lay.Modern12 i row r
  modern_plain f o e =
      record {
        right =
            λ h.
            let z : in_the_way lay.Modern12 row ≡ 0 = eqb-true (in_the_way lay.Modern12 row) 0 (none_in_the_way lay.Modern12 row refl ∙ sym modern_goes ∙ sym e ∙ h) in
            let y = sym (modern_way row) ∙ z in
            sym (rights lay.Modern12 f o {k = 0} (modern_amiss i row (omega arith)));
        inline = λ h. sym modern_goes ∙ sym e ∙ h;
        large = λ h g. sym modern_goes ∙ sym e ∙ h;
      }
