-- Units, surrogates, and the scalar value at a place.
use Prim.Native.Nat.{ℕ, suc, ◌+◌, ◌*◌, ◌-◌, ◌≤◌, ◌<◌}
use mathlib.Core.Path.{◌≡◌, refl, sym, ◌∙◌}
use mathlib.Core.Logic.{◌⊎◌, inl, inr}
use mathlib.Core.List.{List, [], ◌∷◌}
use mathlib.Core.Bool.{Bool, true, false, ◌&&◌, and-false}
use native.Mathlib.Numerals.{add-one}
use native.Mathlib.Omega.{arith}
use lib.ListN.{length, drop, length-drop}
use lib.Dec.{leb}
use lib.Seq.{drop-cons}
use borrow.Author.Tests.{leb-true, le-leb, lt-leb}
use Rattle.hbc_text_forms.specs.Utf16.{units, is_high, is_low, is_surrogate, pair_of, alone}
use Rattle.hbc_text_forms.proofs.Laws.{both, no}
use Rattle.hbc_text_forms.proofs.Codes.{split}
use Rattle.hbc_text_utf16.specs.declared.Code.{Code}
use Rattle.hbc_text_utf16.specs.Private.{unit_at, code_of, code_at}

-- ---- a number in a range

pub out_below : (a z u : ℕ) → u < a → false ≡ (leb a u && leb u z)
out_below a z u h = sym (rw (lt-leb a u h))

pub out_above : (a z u : ℕ) → z < u → false ≡ (leb a u && leb u z)
out_above a z u h = sym (rw (lt-leb u z h, and-false))

pub in_is : (a z u : ℕ) → a ≤ u → u ≤ z → true ≡ (leb a u && leb u z)
in_is a z u l h = sym (rw (le-leb a u l, le-leb u z h))

pub in_from : (a z u : ℕ) → (leb a u && leb u z) ≡ true → (a ≤ u) × (u ≤ z)
in_from a z u e = let x = both (leb a u) (leb u z) e in (leb-true a u x.0, leb-true u z x.1)

-- ---- surrogates

-- what is_surrogate said of a unit
pub surrogate_from : (u : ℕ) {w : Bool} → w ≡ is_surrogate u → w ≡ true → 0xD800 ≤ u
surrogate_from u e h = (in_from 0xD800 0xDFFF u (sym e ∙ h)).0

not_high : (u : ℕ) → is_surrogate u ≡ false → (u < 0xD800) ⊎ (0xD800 ≤ u) → (u < 0xE000) ⊎ (0xE000 ≤ u) → is_high u ≡ false
not_high u e (inl a) _ = sym (out_below 0xD800 0xDBFF u a)
not_high u e (inr a) (inl b) = no (sym e ∙ sym (in_is 0xD800 0xDFFF u a (omega arith)))
not_high u e (inr a) (inr b) = sym (out_above 0xD800 0xDBFF u (omega arith))

-- ---- units at a place

pub units_at : (s : List ℕ) (at : ℕ) → at + 2 ≤ length s → units (drop at s) ≡ unit_at s at ∷ units (drop (at + 2) s)
unfolding units
units_at s at h =
    let a : at < length s = omega arith in
    let b : suc at < length s = omega arith in
    let e : at + 2 ≡ suc (suc at) = omega arith in
    rw (e, add-one at, drop-cons s at 0 a, drop-cons s (suc at) 0 b)

units_short : (s : List ℕ) → length s < 2 → units s ≡ []
unfolding units
units_short [] h = refl
units_short (b ∷ []) h = refl
units_short (b ∷ k ∷ s) h = absurd (omega arith)

single : (u : ℕ) (us : List ℕ) → is_high u ≡ false → code_of (u ∷ us) ≡ record { taken = 2; scalar = alone u }
single u [] h = refl
single u (v ∷ us) h = rw h

-- ---- the scalar value at a place, by the unit there and by the next one

module _ (s : List ℕ) (at u : ℕ) (h : at + 2 ≤ length s) (e : u ≡ unit_at s at) {w : Bool} (t : w ≡ is_surrogate u) where
  pub code_plain : w ≡ false → ◌≡◌ {A = Code} (record { taken = 2; scalar = u }) (code_at s at)
  unfolding code_at alone
  code_plain f =
      let n : is_surrogate u ≡ false = sym t ∙ f in
      sym (rw (units_at s at h, ← e, single u (units (drop (at + 2) s)) (not_high u n (split u 0xD800) (split u 0xE000)), n))

  module _ (f : w ≡ true) where
    surrogate : is_surrogate u ≡ true
    surrogate = sym t ∙ f

    pub code_low : 0xDBFF < u → ◌≡◌ {A = Code} (record { taken = 2; scalar = 0xFFFD }) (code_at s at)
    unfolding code_at alone
    code_low l = sym (rw (units_at s at h, ← e, single u (units (drop (at + 2) s)) (sym (out_above 0xD800 0xDBFF u l)), surrogate))

    module _ (l : u ≤ 0xDBFF) where
      high : is_high u ≡ true
      high = sym (in_is 0xD800 0xDBFF u (surrogate_from u t f) l)

      pub code_last : length s - at < 4 → ◌≡◌ {A = Code} (record { taken = 2; scalar = 0xFFFD }) (code_at s at)
      unfolding code_at alone
      code_last k =
          let m : length (drop (at + 2) s) < 2 = rw (length-drop (at + 2) s) (omega arith) in
          sym (rw (units_at s at h, ← e, units_short (drop (at + 2) s) m, surrogate))

      module _ (v : ℕ) (k : 4 ≤ length s - at) (g : v ≡ unit_at s (at + 2)) {x : Bool} (q : x ≡ is_low v) where
        two_more : at + 2 + 2 ≤ length s
        two_more = omega arith

        pub code_split : x ≡ false → ◌≡◌ {A = Code} (record { taken = 2; scalar = 0xFFFD }) (code_at s at)
        unfolding code_at alone
        code_split m = let n : is_low v ≡ false = sym q ∙ m in sym (rw (units_at s at h, ← e, units_at s (at + 2) two_more, ← g, high, n, surrogate))

        pub code_pair : x ≡ true → ◌≡◌ {A = Code} (record { taken = 4; scalar = 0x10000 + (u - 0xD800) * 1024 + (v - 0xDC00) }) (code_at s at)
        unfolding code_at pair_of
        code_pair m = let n : is_low v ≡ true = sym q ∙ m in sym (rw (units_at s at h, ← e, units_at s (at + 2) two_more, ← g, high, n))
