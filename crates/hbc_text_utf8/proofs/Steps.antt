-- Laws of one part: the row of a first byte by tests on it, the row followed, the part and what it is written as.
use Prim.Native.Nat.{ℕ, zero, suc, ◌+◌, ◌-◌, ◌≤◌, ◌<◌}
use mathlib.Core.Path.{◌≡◌, refl, sym, ap, ◌∙◌}
use mathlib.Core.Logic.{◌⊎◌, inl, inr}
use mathlib.Core.List.{List, [], ◌∷◌, ◌++◌}
use mathlib.Core.Bool.{Bool, true, false, cond, ◌&&◌, and-false}
use native.Mathlib.Numerals.{add-one}
use native.Mathlib.Omega.{arith}
use lib.ListN.{length, take, drop, get_or, length-drop}
use lib.Dec.{T, ltb, eqb, eqb→eq}
use lib.Seq.{drop-cons, drop-drop}
use borrow.Author.Tests.{ltb-true, ltb-false, lt-ltb, le-ltb, le-leb, lt-leb, eq-eqb, ne_eqb}
use Rattle.hbc_text_forms.specs.Utf8.{Range, ◌‥◌, table, within, leads, pick, row_of, tail, agree, passed, whole, replacement, written, utf8_text}
use Rattle.hbc_text_forms.proofs.Laws.{no, text_cons}
use Rattle.hbc_text_utf8.specs.Private.{low_in, high_in, low_of, high_of, is_in, ranges, agree_at, part_at, Ill}

abbrev All : (List Range → Type 0) → List (List Range) → Type 0
All P [] = Unit {0}
All P (row ∷ rows) = P row × All P rows

-- ---- rows by tests on the first byte: one computed test over every byte

abbrev by_width : ℕ → ℕ
by_width b = cond (ltb b 0x80) 1 (cond (ltb b 0xC2) 0 (cond (ltb b 0xE0) 2 (cond (ltb b 0xF0) 3 (cond (ltb b 0xF5) 4 0))))

abbrev by_low : ℕ → ℕ
by_low b = cond (eqb b 0xE0) 0xA0 (cond (eqb b 0xF0) 0x90 0x80)

abbrev by_high : ℕ → ℕ
by_high b = cond (eqb b 0xED) 0x9F (cond (eqb b 0xF4) 0x8F 0xBF)

abbrev right : ℕ → Bool
right b = eqb (length (pick table b)) (by_width b) && (eqb (low_in (pick table b)) (by_low b) && eqb (high_in (pick table b)) (by_high b))

abbrev below : ℕ → (ℕ → Bool) → Bool
below zero f = true
below (suc n) f = f n && below n f

both : (a b : Bool) → T (a && b) → T a × T b
both true b t = (tt, t)
both false b t = absurd t

at_least : (b n : ℕ) → b < suc n → (b ≡ n) ⊎ (b < n)
at_least b n h = pick_one (ltb b n) refl
  where
    pick_one : (w : Bool) → ltb b n ≡ w → (b ≡ n) ⊎ (b < n)
    pick_one true e = inr (ltb-true b n e)
    pick_one false e = let l : n ≤ b = ltb-false b n e in inl (omega arith)

each_at : (f : ℕ → Bool) (n b : ℕ) → T (f n && below n f) → (b ≡ n) ⊎ (b < n) → (T (below n f) → b < n → T (f b)) → T (f b)
each_at f n b t (inl e) g = rw e (both (f n) (below n f) t).0
each_at f n b t (inr l) g = g (both (f n) (below n f) t).1 l

each : (f : ℕ → Bool) (n : ℕ) → T (below n f) → (b : ℕ) → b < n → T (f b)
each f zero t b h = absurd (omega arith)
each f (suc n) t b h = each_at f n b t (at_least b n h) (λ u l. each f n u b l)

all_right : (b : ℕ) → b < 256 → T (right b)
all_right = each right 256 tt

pub is_width : (b : ℕ) → b < 256 → length (row_of b) ≡ by_width b
unfolding row_of
is_width b h = eqb→eq _ _ (both (eqb (length (pick table b)) (by_width b)) _ (all_right b h)).0

pub is_low_lem : (b : ℕ) → b < 256 → low_of b ≡ by_low b
unfolding row_of low_of
is_low_lem b h = eqb→eq _ _ (both (eqb (low_in (pick table b)) (by_low b)) _ (both (eqb (length (pick table b)) (by_width b)) _ (all_right b h)).1).0

pub is_high_lem : (b : ℕ) → b < 256 → high_of b ≡ by_high b
unfolding row_of high_of
is_high_lem b h = eqb→eq _ _ (both (eqb (low_in (pick table b)) (by_low b)) (eqb (high_in (pick table b)) (by_high b)) (both (eqb (length (pick table b)) (by_width b)) _ (all_right b h)).1).1

-- the bounds of the second byte, by the first: after ED no surrogate, after F4 nothing past the last
module _ (b : ℕ) (small : b < 256) where
  pub low_e0 : b ≡ 0xE0 → 0xA0 ≡ low_of b
  low_e0 e = sym (is_low_lem b small ∙ rw (eq-eqb b 0xE0 e))

  pub low_f0 : (b ≡ 0xE0 → ⊥) → b ≡ 0xF0 → 0x90 ≡ low_of b
  low_f0 n e = sym (is_low_lem b small ∙ rw (ne_eqb b 0xE0 n, eq-eqb b 0xF0 e))

  pub low_any : (b ≡ 0xE0 → ⊥) → (b ≡ 0xF0 → ⊥) → 0x80 ≡ low_of b
  low_any n m = sym (is_low_lem b small ∙ rw (ne_eqb b 0xE0 n, ne_eqb b 0xF0 m))

  pub high_ed : b ≡ 0xED → 0x9F ≡ high_of b
  high_ed e = sym (is_high_lem b small ∙ rw (eq-eqb b 0xED e))

  pub high_f4 : (b ≡ 0xED → ⊥) → b ≡ 0xF4 → 0x8F ≡ high_of b
  high_f4 n e = sym (is_high_lem b small ∙ rw (ne_eqb b 0xED n, eq-eqb b 0xF4 e))

  pub high_any : (b ≡ 0xED → ⊥) → (b ≡ 0xF4 → ⊥) → 0xBF ≡ high_of b
  high_any n m = sym (is_high_lem b small ∙ rw (ne_eqb b 0xED n, ne_eqb b 0xF4 m))

-- ---- a byte in front

pub in_below : (s : List ℕ) (at lo hi : ℕ) → at < length s → get_or s at 0 < lo → false ≡ is_in lo hi (drop at s)
in_below s at lo hi h l = sym (rw (drop-cons s at 0 h, lt-leb lo (get_or s at 0) l))

pub in_above : (s : List ℕ) (at lo hi : ℕ) → at < length s → hi < get_or s at 0 → false ≡ is_in lo hi (drop at s)
in_above s at lo hi h l = sym (rw (drop-cons s at 0 h, lt-leb (get_or s at 0) hi l, and-false))

pub in_is : (s : List ℕ) (at lo hi : ℕ) → at < length s → lo ≤ get_or s at 0 → get_or s at 0 ≤ hi → true ≡ is_in lo hi (drop at s)
in_is s at lo hi h l k = sym (rw (drop-cons s at 0 h, le-leb lo (get_or s at 0) l, le-leb (get_or s at 0) hi k))

-- ---- a row followed

agree_in : (a z : ℕ) (rs : List Range) (s : List ℕ) → is_in a z s ≡ true → agree (a ‥ z ∷ rs) s ≡ suc (agree rs (drop 1 s))
agree_in a z rs [] e = no e
agree_in a z rs (b ∷ s) e = rw e

agree_out : (a z : ℕ) (rs : List Range) (s : List ℕ) → is_in a z s ≡ false → agree (a ‥ z ∷ rs) s ≡ 0
agree_out a z rs [] e = refl
agree_out a z rs (b ∷ s) e = rw e

-- the ranges after the second, after the third
abbrev third : ℕ → List Range
third n = cond (eqb n 2) [] (0x80 ‥ 0xBF ∷ cond (eqb n 3) [] (0x80 ‥ 0xBF ∷ []))

abbrev fourth : ℕ → List Range
fourth n = cond (eqb n 3) [] (0x80 ‥ 0xBF ∷ [])

module _ (s : List ℕ) (at n lo hi : ℕ) where
  pub short : n < 2 → 0 ≡ agree_at n lo hi (drop at s)
  unfolding agree_at ranges
  short h = sym (rw (lt-ltb n 2 h))

  pub none_at : 2 ≤ n → is_in lo hi (drop at s) ≡ false → 0 ≡ agree_at n lo hi (drop at s)
  unfolding agree_at ranges
  none_at h e = sym (rw (le-ltb n 2 h) (agree_out lo hi (third n) (drop at s) e))

  pub two_of : n ≡ 2 → is_in lo hi (drop at s) ≡ true → 1 ≡ agree_at n lo hi (drop at s)
  unfolding agree_at ranges
  two_of h e = sym (rw h (agree_in lo hi [] (drop at s) e))

  module _ (h : 2 ≤ n) (n2 : n ≡ 2 → ⊥) (e : is_in lo hi (drop at s) ≡ true) where
    pub one_at : is_in 0x80 0xBF (drop (at + 1) s) ≡ false → 1 ≡ agree_at n lo hi (drop at s)
    unfolding agree_at ranges
    one_at f = sym (rw (le-ltb n 2 h, ne_eqb n 2 n2, agree_in lo hi _ (drop at s) e, drop-drop 1 at s) (ap suc (agree_out 0x80 0xBF (fourth n) (drop (at + 1) s) f)))

    module _ (f : is_in 0x80 0xBF (drop (at + 1) s) ≡ true) where
      pub three_of : n ≡ 3 → 2 ≡ agree_at n lo hi (drop at s)
      unfolding agree_at ranges
      three_of k = sym (rw (k, agree_in lo hi _ (drop at s) e, drop-drop 1 at s) (ap suc (agree_in 0x80 0xBF [] (drop (at + 1) s) f)))

      module _ (n3 : n ≡ 3 → ⊥) where
        reach : agree_at n lo hi (drop at s) ≡ suc (suc (agree (0x80 ‥ 0xBF ∷ []) (drop (at + 2) s)))
        unfolding agree_at ranges
        reach =
            let k : at + 1 + 1 ≡ at + 2 = omega arith in
            let g : drop 1 (drop (at + 1) s) ≡ drop (at + 2) s = drop-drop 1 (at + 1) s ∙ rw k in
            rw (le-ltb n 2 h, ne_eqb n 2 n2, ne_eqb n 3 n3, agree_in lo hi _ (drop at s) e, drop-drop 1 at s, agree_in 0x80 0xBF (0x80 ‥ 0xBF ∷ []) (drop (at + 1) s) f, g)

        pub two_at : is_in 0x80 0xBF (drop (at + 2) s) ≡ false → 2 ≡ agree_at n lo hi (drop at s)
        two_at g = sym (reach ∙ ap (λ (k : ℕ). suc (suc k)) (agree_out 0x80 0xBF [] (drop (at + 2) s) g))

        pub four_of : is_in 0x80 0xBF (drop (at + 2) s) ≡ true → 3 ≡ agree_at n lo hi (drop at s)
        four_of g = sym (reach ∙ ap (λ (k : ℕ). suc (suc k)) (agree_in 0x80 0xBF [] (drop (at + 2) s) g))

-- ---- the part at a place

shape_at : (rows : List (List Range)) (b : ℕ) (P : List Range → Type 0) → P [] → All P rows → P (pick rows b)
shape_at [] b P z a = z
shape_at (row ∷ rows) b P z a = choose (leads row b) a.0 (shape_at rows b P z a.1)
  where
    choose : (w : Bool) → P row → P (pick rows b) → P (cond w row (pick rows b))
    choose true x y = x
    choose false x y = y

row_tail : (b : ℕ) → tail (row_of b) ≡ ranges (length (row_of b)) (low_of b) (high_of b)
unfolding row_of ranges low_of high_of
row_tail b = shape_at table b (λ row. tail row ≡ ranges (length row) (low_in row) (high_in row)) refl (refl, (refl, (refl, (refl, (refl, (refl, (refl, (refl, (refl, tt)))))))))

pub passed_is : (b : ℕ) (s : List ℕ) → agree_at (length (row_of b)) (low_of b) (high_of b) s ≡ passed b s
unfolding agree_at passed
passed_is b s = sym (rw (row_tail b))

-- what the walk over a row gives is the part
pub part_is : (s : List ℕ) (at b n lo hi k : ℕ) → b ≡ get_or s at 0 → n ≡ length (row_of b) → lo ≡ low_of b → hi ≡ high_of b
    → k ≡ agree_at n lo hi (drop (at + 1) s) → k + 1 ≡ part_at s at
unfolding part_at
part_is s at b n lo hi k eb en el eh ek =
    let p : k ≡ passed (get_or s at 0) (drop (suc at) s) =
    ek ∙ rw (en, el, eh, passed_is b (drop (at + 1) s), eb, add-one at) in
    rw (p, add-one)

-- ---- one part of the text

agree_le : (rs : List Range) (s : List ℕ) → agree rs s ≤ length s
agree_le [] s = omega arith
agree_le (r ∷ rs) [] = omega arith
agree_le (r ∷ rs) (b ∷ s) = chosen (within r b) (agree_le rs s)
  where
    chosen : (w : Bool) → agree rs s ≤ length s → cond w (suc (agree rs s)) 0 ≤ suc (length s)
    chosen true h = omega arith
    chosen false h = omega arith

passed_le : (b : ℕ) (s : List ℕ) → passed b s ≤ length s
unfolding passed
passed_le b s = agree_le (tail (row_of b)) s

-- a part is at least a byte and ends within the slice
pub part_in : (s : List ℕ) (at : ℕ) → at < length s → (0 < part_at s at) × (at + part_at s at ≤ length s)
unfolding part_at
part_in s at h =
    let k : length (drop (suc at) s) ≡ length s - suc at = length-drop (suc at) s in
    (omega arith, omega (arith, passed_le (get_or s at 0) (drop (suc at) s)))

pub part_inside : (s : List ℕ) (at : ℕ) {k : ℕ} → at < length s → k ≡ part_at s at → (0 < k) × (at + k ≤ length s)
part_inside s at h e = rw e (part_in s at h)

-- the text from a place is the part there, as it is written, and the text after it
pub text_part : (s : List ℕ) (at : ℕ) → at < length s
    → utf8_text (drop at s) ≡ written (get_or s at 0) (drop (suc at) s) ++ utf8_text (drop (at + part_at s at) s)
unfolding part_at
text_part s at h =
    let n : ℕ = passed (get_or s at 0) (drop (suc at) s) in
    let k : suc at + n ≡ at + suc n = omega arith in
    rw (drop-cons s at 0 h) (text_cons (get_or s at 0) (drop (suc at) s) ∙ rw (drop-drop n (suc at) s, k))

pub whole_at : (b : ℕ) (s : List ℕ) (w : Bool) → w ≡ true → cond w (b ∷ take (passed b s) s) replacement ≡ take (suc (passed b s)) (b ∷ s)
whole_at b s true e = refl
whole_at b s false e = no e

ill_at : (b : ℕ) (s : List ℕ) (w : Bool) → w ≡ false → cond w (b ∷ take (passed b s) s) replacement ≡ replacement
ill_at b s true e = no (sym e)
ill_at b s false e = refl

-- and where no character is there, U+FFFD
pub text_ill : (s : List ℕ) (at : ℕ) → at < length s → Ill s at → utf8_text (drop at s) ≡ replacement ++ utf8_text (drop (at + part_at s at) s)
unfolding written
text_ill s at h i =
    text_part s at h ∙ ap (λ (l : List ℕ). l ++ utf8_text (drop (at + part_at s at) s)) (ill_at (get_or s at 0) (drop (suc at) s) (whole (get_or s at 0) (drop (suc at) s)) i)

-- ---- no character: no row, too few bytes, or bytes that do not go on

module _ (s : List ℕ) (at b : ℕ) (e : b ≡ get_or s at 0) where
  pub ill_none : length (row_of b) ≡ 0 → Ill s at
  unfolding whole
  ill_none z = rw (← e, z) (ne_eqb (suc (passed b (drop (suc at) s))) 0 (λ q. omega arith))

  pub ill_short : (n : ℕ) → at < length s → length (row_of b) ≡ n → length s - at < n → Ill s at
  unfolding whole
  ill_short n h w l =
      let k : length (drop (suc at) s) ≡ length s - suc at = length-drop (suc at) s in
      let p : passed b (drop (suc at) s) ≤ length (drop (suc at) s) = passed_le b (drop (suc at) s) in
      rw (← e, w) (ne_eqb (suc (passed b (drop (suc at) s))) n (λ q. omega arith))

  pub ill_of : (k n lo hi : ℕ) → length (row_of b) ≡ n → lo ≡ low_of b → hi ≡ high_of b → k ≡ agree_at n lo hi (drop (at + 1) s) → (suc k ≡ n → ⊥) → Ill s at
  unfolding whole
  ill_of k n lo hi w p q a x =
      let y : passed b (drop (suc at) s) ≡ k = sym (a ∙ rw (← w, p, q, passed_is b (drop (at + 1) s), add-one at)) in
      rw (← e, w, y) (ne_eqb (suc k) n x)
