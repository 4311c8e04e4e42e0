-- One sum that is 0 exactly when a row goes inline, and one that is 0 exactly when its bytes and zeros are right.
use Prim.Native.Nat.{ℕ, zero, suc, ◌+◌, ◌*◌, ◌/◌, ◌%◌, ◌^◌, ◌<◌}
use mathlib.Core.Path.{◌≡◌, refl, sym, ◌∙◌}
use mathlib.Core.List.{List, [], ◌∷◌}
use mathlib.Core.Bool.{Bool, true, false, not}
use native.Mathlib.Nat.{div-eq_of_lt, div-lt_iff_lt-mul, one-mul, mod-lt}
use native.Mathlib.Omega.{arith}
use lib.Pow.{pow_pos}
use lib.ListN.{get_or}
use lib.Dec.{ltb, eqb, lit<}
use borrow.Author.Tests.{ltb-true, lt-ltb, eqb-true, eqb-false, eq-eqb, ne_eqb}
use Rattle.hbc_bits.specs.Bits.{field}
use Rattle.hbc_bits.specs.Fields.{fit}
use Rattle.hbc_bits.proofs.Fields.{both}
use Rattle.hbc_function_record.specs.declared.Layout.{Layout}
use Rattle.hbc_function_record.specs.declared.Layout.TheVariants as lay
use Rattle.hbc_function_record.specs.Record.{overflowed}
use Rattle.hbc_function_record.specs.Row.{ROW_LAYOUT, ROW_ID, ROW_INFO_OFFSET, ROW_FLAGS, number_in}
use Rattle.hbc_function_record.specs.BitLayout.{fields_in}
use Rattle.hbc_function_bytes.specs.Bytes.{words_at, values_in, all, info_free, goes_inline, byte_wide, zeros_in, each, right_row}

-- two tests that imply each other
pub same_test : (a b : Bool) → (a ≡ true → b ≡ true) → (b ≡ true → a ≡ true) → a ≡ b
same_test true b f g = sym (f refl)
same_test false true f g = g refl
same_test false false f g = refl

-- ---- what does not fit

-- the sum of what is above each width
unfoldable pub over : List (ℕ × ℕ) → List ℕ → ℕ
over [] vs = 0
over (f ∷ fs) [] = 1
over (f ∷ fs) (v ∷ vs) = v / 2 ^ f.1 + over fs vs

-- as many values as fields
abbrev paired : List (ℕ × ℕ) → List ℕ → Bool
paired [] [] = true
paired [] (v ∷ vs) = false
paired (f ∷ fs) [] = false
paired (f ∷ fs) (v ∷ vs) = paired fs vs

over_none : (fs : List (ℕ × ℕ)) (vs : List ℕ) → fit fs vs ≡ true → over fs vs ≡ 0
unfolding fit over
over_none [] vs h = refl
over_none (f ∷ fs) [] h = let z : ◌≡◌ {A = ℕ} 0 1 = cc in absurd (omega arith)
over_none (f ∷ fs) (v ∷ vs) h =
    let u = both (ltb v (2 ^ f.1)) h in rw (div-eq_of_lt (ltb-true v (2 ^ f.1) u.0), over_none fs vs u.1)

none_fits : (fs : List (ℕ × ℕ)) (vs : List ℕ) → paired fs vs ≡ true → over fs vs ≡ 0 → fit fs vs ≡ true
unfolding fit over
none_fits [] [] p h = refl
none_fits [] (v ∷ vs) p h = p
none_fits (f ∷ fs) [] p h = p
none_fits (f ∷ fs) (v ∷ vs) p h =
    let l : v < 1 * 2 ^ f.1 = (div-lt_iff_lt-mul (pow_pos f.1)).0 (omega arith) in
    rw (lt-ltb v (2 ^ f.1) (rw one-mul at l)) (none_fits fs vs p (omega arith))

bit_by : (k : ℕ) → k < 2 → (k ≡ 1 → ⊥) → k ≡ 0
bit_by zero h f = refl
bit_by (suc zero) h f = absurd (f refl)
bit_by (suc (suc k)) h f = absurd (omega arith)

bit_clear : (n : ℕ) → overflowed n ≡ false → n / 32 % 2 ≡ 0
unfolding overflowed field
bit_clear n h = bit_by (n / 32 % 2) (mod-lt (n / 32) (lit< tt)) (eqb-false (n / 32 % 2) 1 h)

clear_bit : (n : ℕ) → n / 32 % 2 ≡ 0 → overflowed n ≡ false
unfolding overflowed field
clear_bit n h = ne_eqb (n / 32 % 2) 1 (λ e. omega arith)

not_set : (b : Bool) → not b ≡ true → b ≡ false
not_set true h = let z : ◌≡◌ {A = ℕ} 0 1 = cc in absurd (omega arith)
not_set false h = refl

-- what else keeps a row from going inline: in modern, info_offset
abbrev pub info_of : Layout → List ℕ → ℕ
info_of lay.Legacy16 w = 0
info_of lay.Modern12 w = get_or w ROW_INFO_OFFSET 0

info-free : (layout : Layout) (w : List ℕ) → info_of layout w ≡ 0 → info_free layout w ≡ true
info-free lay.Legacy16 w h = refl
info-free lay.Modern12 w h = eq-eqb (get_or w ROW_INFO_OFFSET 0) 0 h

free_info : (layout : Layout) (w : List ℕ) → info_free layout w ≡ true → info_of layout w ≡ 0
free_info lay.Legacy16 w h = refl
free_info lay.Modern12 w h = eqb-true (get_or w ROW_INFO_OFFSET 0) 0 h

is_paired : (layout : Layout) (w : List ℕ) → paired (fields_in layout) (values_in layout w) ≡ true
unfolding values_in
is_paired lay.Legacy16 w = refl
is_paired lay.Modern12 w = refl

module _ (layout : Layout) (w : List ℕ) where
  abbrev pub in_the_way : ℕ
  in_the_way = over (fields_in layout) (values_in layout w) + (get_or w ROW_FLAGS 0 / 32 % 2 + info_of layout w)

  -- nothing is in the way exactly when it goes inline
  pub none_in_the_way : {k : ℕ} → k ≡ in_the_way → eqb k 0 ≡ goes_inline layout w
  unfolding goes_inline
  none_in_the_way {k} e =
      same_test (eqb k 0) (goes_inline layout w)
      (λ h.
      let z : in_the_way ≡ 0 = sym e ∙ eqb-true k 0 h in
      rw (
        none_fits (fields_in layout) (values_in layout w) (is_paired layout w) (omega arith),
        clear_bit (get_or w ROW_FLAGS 0) (omega arith),
        info-free layout w (omega arith),
      ))
      (λ h.
      let a = both (fit (fields_in layout) (values_in layout w)) h in
      let b = both (not (overflowed (get_or w ROW_FLAGS 0))) a.1 in
      let d = both (info_free layout w) b.1 in
      eq-eqb k 0
      (e ∙ rw (over_none (fields_in layout) (values_in layout w) a.0, bit_clear (get_or w ROW_FLAGS 0) (not_set (overflowed (get_or w ROW_FLAGS 0)) b.0), free_info layout w d.0)))

-- which is, field by field
pub legacy_way : (w : List ℕ)
    → in_the_way lay.Legacy16 w ≡ get_or w 2 0 / 33554432 + get_or w 3 0 / 128 + get_or w 4 0 / 32768 + get_or w 5 0 / 131072 + get_or w 6 0 / 33554432 + get_or w 7 0 / 128
    + get_or w 9 0 / 256 + get_or w 10 0 / 256 + get_or w 11 0 / 256 + get_or w 8 0 / 256 + get_or w 8 0 / 32 % 2
unfolding over values_in
legacy_way w = omega arith

pub modern_way : (w : List ℕ)
    → in_the_way lay.Modern12 w ≡ get_or w 2 0 / 33554432 + get_or w 3 0 / 32 + get_or w 9 0 / 4 + get_or w 4 0 / 16384 + get_or w 5 0 / 256 + get_or w 10 0 / 32 + get_or w 11 0 / 32
    + get_or w 7 0 / 256 + get_or w 12 0 / 256 + get_or w 13 0 / 64 + get_or w 14 0 / 2 + get_or w 15 0 / 2 + get_or w 8 0 / 256 + get_or w 8 0 / 32 % 2 + get_or w 6 0
unfolding over values_in
modern_way w = omega arith

-- ---- bytes and zeros

abbrev above : List ℕ → ℕ
above [] = 0
above (v ∷ vs) = v / 256 + above vs

abbrev total : List ℕ → ℕ
total [] = 0
total (v ∷ vs) = v + total vs

bytes_above : (vs : List ℕ) → above vs ≡ 0 → each (λ v. ltb v 256) vs ≡ true
bytes_above [] h = refl
bytes_above (v ∷ vs) h = rw (lt-ltb v 256 (omega arith)) (bytes_above vs (omega arith))

above_bytes : (vs : List ℕ) → each (λ v. ltb v 256) vs ≡ true → above vs ≡ 0
above_bytes [] h = refl
above_bytes (v ∷ vs) h = let a = both (ltb v 256) h in let l = ltb-true v 256 a.0 in let r = above_bytes vs a.1 in omega arith

zeros_total : (vs : List ℕ) → total vs ≡ 0 → each (λ v. eqb v 0) vs ≡ true
zeros_total [] h = refl
zeros_total (v ∷ vs) h = rw (eq-eqb v 0 (omega arith)) (zeros_total vs (omega arith))

total_zeros : (vs : List ℕ) → each (λ v. eqb v 0) vs ≡ true → total vs ≡ 0
total_zeros [] h = refl
total_zeros (v ∷ vs) h = let a = both (eqb v 0) h in let l = eqb-true v 0 a.0 in let r = total_zeros vs a.1 in omega arith

module _ (layout : Layout) (i : ℕ) (w : List ℕ) where
  abbrev pub amiss : ℕ
  amiss = above (words_at (byte_wide layout) w) + total (words_at (zeros_in layout) w)

  pub wrong_layout : (get_or w ROW_LAYOUT 0 ≡ number_in layout → ⊥) → false ≡ right_row layout i w
  unfolding right_row
  wrong_layout n = sym (rw (ne_eqb (get_or w ROW_LAYOUT 0) (number_in layout) n))

  module _ (own : get_or w ROW_LAYOUT 0 ≡ number_in layout) where
    pub wrong_id : (get_or w ROW_ID 0 ≡ i → ⊥) → false ≡ right_row layout i w
    unfolding right_row
    wrong_id n = sym (rw (eq-eqb (get_or w ROW_LAYOUT 0) (number_in layout) own, ne_eqb (get_or w ROW_ID 0) i n))

    -- nothing is amiss exactly when it is right
    pub none_amiss : {k : ℕ} → get_or w ROW_ID 0 ≡ i → k ≡ amiss → eqb k 0 ≡ right_row layout i w
    unfolding right_row
    none_amiss {k} q e =
        rw (eq-eqb (get_or w ROW_LAYOUT 0) (number_in layout) own, eq-eqb (get_or w ROW_ID 0) i q)
        (same_test (eqb k 0) (all (each (λ v. ltb v 256) (words_at (byte_wide layout) w) ∷ each (λ v. eqb v 0) (words_at (zeros_in layout) w) ∷ []))
        (λ h.
        let z : amiss ≡ 0 = sym e ∙ eqb-true k 0 h in
        rw (bytes_above (words_at (byte_wide layout) w) (omega arith), zeros_total (words_at (zeros_in layout) w) (omega arith)))
        (λ h.
        let a = both (each (λ v. ltb v 256) (words_at (byte_wide layout) w)) h in
        let b = both (each (λ v. eqb v 0) (words_at (zeros_in layout) w)) a.1 in
        eq-eqb k 0 (e ∙ rw (above_bytes (words_at (byte_wide layout) w) a.0, total_zeros (words_at (zeros_in layout) w) b.0))))

pub legacy_amiss : (i : ℕ) (w : List ℕ) {k : ℕ}
    → k ≡ get_or w 10 0 / 256 + get_or w 11 0 / 256 + get_or w 8 0 / 256 + get_or w 12 0 + get_or w 13 0 + get_or w 14 0 + get_or w 15 0 → k ≡ amiss lay.Legacy16 i w
legacy_amiss i w e = omega (arith, e)

pub modern_amiss : (i : ℕ) (w : List ℕ) {k : ℕ}
    → k ≡ get_or w 12 0 / 256 + get_or w 13 0 / 256 + get_or w 14 0 / 256 + get_or w 15 0 / 256 + get_or w 8 0 / 256 → k ≡ amiss lay.Modern12 i w
modern_amiss i w e = omega (arith, e)
