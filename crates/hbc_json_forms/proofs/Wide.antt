-- UTF-16 texts and escapes: a unit below 0x80 stands by itself, and units that need no escape have a text that needs none.
use Prim.Native.Nat.{ℕ, suc, ◌+◌, ◌*◌, ◌%◌, ◌≤◌, ◌<◌}
use mathlib.Core.Path.{◌≡◌, refl, sym, ap, ◌∙◌}
use mathlib.Core.Logic.{◌⊎◌, inl, inr}
use mathlib.Core.List.{List, [], ◌∷◌, ◌++◌, append_assoc}
use mathlib.Core.Bool.{Bool, true, false, cond, ◌&&◌, and-false}
use native.Mathlib.Omega.{arith}
use lib.ListN.{length, length-append}
use lib.Dec.{eqb, lit≤}
use borrow.Author.Tests.{lt-leb}
use Rattle.hbc_text_forms.specs.Scalars.{encode, encode_all}
use Rattle.hbc_text_forms.specs.Utf16.{units, is_high, is_low, is_surrogate, pair_of, alone, scalars, utf16_text}
use Rattle.hbc_text_forms.proofs.Codes.{split, encode_1, encode_2, encode_3, encode_4}
use Rattle.hbc_text_forms.proofs.Wide.{even}
use Rattle.hbc_text_forms.proofs.Bounds.{encode_length, units_length}
use Rattle.hbc_json_forms.specs.Json.{is_escaped, escaped}
use Rattle.hbc_json_forms.proofs.Laws.{append_length, escaped_length, clear_high, Clear, none, more, clear_escaped, clear_append}

-- ---- no pair goes over a unit below 0x80

pub units_append : (a s : List ℕ) → length a % 2 ≡ 0 → units (a ++ s) ≡ units a ++ units s
unfolding units
units_append [] s e = refl
units_append (b ∷ []) s e = absurd (omega arith)
units_append (b ∷ h ∷ a) s e = ap (λ (l : List ℕ). (b + 256 * h) ∷ l) (units_append a s (omega arith))

encode_append : (a s : List ℕ) → encode_all (a ++ s) ≡ encode_all a ++ encode_all s
unfolding encode_all
encode_append [] s = refl
encode_append (c ∷ a) s = ap (λ (l : List ℕ). encode c ++ l) (encode_append a s) ∙ sym (append_assoc (encode c) (encode_all a) (encode_all s))

module _ (u : ℕ) (low : u < 0x80) where
  no_high : is_high u ≡ false
  no_high = let k : u < 0xD800 = omega arith in rw (lt-leb 0xD800 u k)

  no_low : is_low u ≡ false
  no_low = let k : u < 0xDC00 = omega arith in rw (lt-leb 0xDC00 u k)

  itself : alone u ≡ u
  unfolding alone
  itself = let k : u < 0xD800 = omega arith in rw (lt-leb 0xD800 u k)

  stands : (us : List ℕ) → scalars (u ∷ us) ≡ u ∷ scalars us
  unfolding scalars
  stands [] = rw itself
  stands (v ∷ us) = rw (no_high, itself)

  stop_at : (x y : ℕ) (s us : List ℕ) (w : Bool) → scalars (s ++ u ∷ us) ≡ scalars s ++ u ∷ scalars us
      → scalars (y ∷ s ++ u ∷ us) ≡ scalars (y ∷ s) ++ u ∷ scalars us
      → cond w (pair_of x y ∷ scalars (s ++ u ∷ us)) (alone x ∷ scalars (y ∷ s ++ u ∷ us))
      ≡ cond w (pair_of x y ∷ scalars s) (alone x ∷ scalars (y ∷ s)) ++ u ∷ scalars us
  stop_at x y s us true e f = rw e
  stop_at x y s us false e f = rw f

  stop : (s us : List ℕ) → scalars (s ++ u ∷ us) ≡ scalars s ++ u ∷ scalars us
  unfolding scalars
  stop [] us = stands us
  stop (x ∷ []) us = rw (no_low, and-false, stands us)
  stop (x ∷ y ∷ s) us = stop_at x y s us (is_high x && is_low y) (stop s us) (stop (y ∷ s) us)

  encode_stop : (s us : List ℕ) → encode_all (scalars (s ++ u ∷ us)) ≡ encode_all (scalars s) ++ u ∷ encode_all (scalars us)
  unfolding encode_all
  encode_stop s us = rw (stop s us, encode_append (scalars s) (u ∷ scalars us), encode_1 u low)

pub utf16_split : (a c : List ℕ) (u h : ℕ) → length a % 2 ≡ 0 → length c % 2 ≡ 0 → u + 256 * h < 0x80
    → utf16_text (a ++ u ∷ h ∷ c) ≡ utf16_text a ++ u ∷ utf16_text c
unfolding units
utf16_split a c u h e f low =
    let z : u + 256 * h ≡ u = omega arith in
    let k : u < 0x80 = omega arith in
    let n : length (a ++ u ∷ h ∷ c) % 2 ≡ 0 = omega (arith, length-append a (u ∷ h ∷ c)) in
    rw (even (a ++ u ∷ h ∷ c) n, even a e, even c f, units_append a (u ∷ h ∷ c) e, z) (encode_stop u k (units a) (units c))

-- ---- a scalar value's bytes are itself, or from 0x80 up

past : (x b : ℕ) {s : List ℕ} → 0x80 ≤ x → Clear s → Clear ((x + b) ∷ s)
past x b h k = more (clear_high (x + b) (omega arith)) k

high_at : (c : ℕ) → 0x80 ≤ c → (c < 0x800) ⊎ (0x800 ≤ c) → (c < 0x10000) ⊎ (0x10000 ≤ c) → Clear (encode c)
high_at c l (inl h) _ = rw (encode_2 c l h) (past 0xC0 _ (lit≤ tt) (past 0x80 _ (lit≤ tt) none))
high_at c l (inr k) (inl h) = rw (encode_3 c k h) (past 0xE0 _ (lit≤ tt) (past 0x80 _ (lit≤ tt) (past 0x80 _ (lit≤ tt) none)))
high_at c l (inr _) (inr k) =
    rw (encode_4 c k) (past 0xF0 _ (lit≤ tt) (past 0x80 _ (lit≤ tt) (past 0x80 _ (lit≤ tt) (past 0x80 _ (lit≤ tt) none))))

high_clear : (c : ℕ) → 0x80 ≤ c → Clear (encode c)
high_clear c l = high_at c l (split c 0x800) (split c 0x10000)

encode_at : (c : ℕ) → is_escaped c ≡ false → (c < 0x80) ⊎ (0x80 ≤ c) → Clear (encode c)
encode_at c e (inl h) = rw (encode_1 c h) (more e none)
encode_at c e (inr l) = high_clear c l

all_clear : {cs : List ℕ} → Clear cs → Clear (encode_all cs)
unfolding encode_all
all_clear none = none
all_clear (more {b} e h) = clear_append (encode_at b e (split b 0x80)) (all_clear h)

alone_at : (u : ℕ) (w : Bool) → is_escaped u ≡ false → is_escaped (cond w 0xFFFD u) ≡ false
alone_at u true e = refl
alone_at u false e = e

alone_clear : (u : ℕ) → is_escaped u ≡ false → is_escaped (alone u) ≡ false
unfolding alone
alone_clear u e = alone_at u (is_surrogate u) e

pair_clear : (u v : ℕ) → is_escaped (pair_of u v) ≡ false
unfolding pair_of
pair_clear u v = clear_high (pair_of u v) (omega arith)

pair_at : (u v : ℕ) (us : List ℕ) (w : Bool) → is_escaped u ≡ false → Clear (scalars us) → Clear (scalars (v ∷ us))
    → Clear (cond w (pair_of u v ∷ scalars us) (alone u ∷ scalars (v ∷ us)))
pair_at u v us true e f g = more (pair_clear u v) f
pair_at u v us false e f g = more (alone_clear u e) g

scalars_clear : {us : List ℕ} → Clear us → Clear (scalars us)
unfolding scalars
scalars_clear none = none
scalars_clear (more {b} e none) = more (alone_clear b e) none
scalars_clear (more {b = u} e (more {b = v} {s = us} f h)) = pair_at u v us (is_high u && is_low v) e (scalars_clear h) (scalars_clear (more f h))

wide_at : (s : List ℕ) (w : Bool) → Clear s → Clear (cond w s [])
wide_at s true h = h
wide_at s false h = none

pub utf16_clear : (a : List ℕ) → Clear (units a) → escaped (utf16_text a) ≡ utf16_text a
unfolding utf16_text
utf16_clear a h = clear_escaped (wide_at (encode_all (scalars (units a))) (eqb (length a % 2) 0) (all_clear (scalars_clear h)))

-- ---- six bytes for each unit

code_at : (c : ℕ) → (c < 0x80) ⊎ (0x80 ≤ c) → length (escaped (encode c)) ≤ 6
code_at c (inl h) = rw (encode_1 c h) (omega (arith, escaped_length (c ∷ [])))
code_at c (inr l) = rw (clear_escaped (high_clear c l)) (omega (arith, encode_length c))

all_most : (cs : List ℕ) → length (escaped (encode_all cs)) ≤ 6 * length cs
unfolding encode_all escaped
all_most [] = lit≤ tt
all_most (c ∷ cs) = omega (arith, append_length (encode c) (encode_all cs), code_at c (split c 0x80), all_most cs)

count_at : (u v : ℕ) (us : List ℕ) (w : Bool) → length (scalars us) ≤ length us → length (scalars (v ∷ us)) ≤ suc (length us)
    → length (cond w (pair_of u v ∷ scalars us) (alone u ∷ scalars (v ∷ us))) ≤ suc (suc (length us))
count_at u v us true f g = omega arith
count_at u v us false f g = omega arith

-- no more values than units
scalars_count : (us : List ℕ) → length (scalars us) ≤ length us
unfolding scalars
scalars_count [] = lit≤ tt
scalars_count (u ∷ []) = lit≤ tt
scalars_count (u ∷ v ∷ us) = count_at u v us (is_high u && is_low v) (scalars_count us) (scalars_count (v ∷ us))

most_at : (s : List ℕ) (w : Bool) → length (escaped (cond w (encode_all (scalars (units s))) [])) ≤ 6 * length s
unfolding escaped
most_at s true = omega (arith, all_most (scalars (units s)), scalars_count (units s), units_length s)
most_at s false = omega arith

pub utf16_most : (s : List ℕ) → length (escaped (utf16_text s)) ≤ 6 * length s
unfolding utf16_text
utf16_most s = most_at s (eqb (length s % 2) 0)
