-- The table's rows are the encodings of the scalar values, and nothing else.
use Prim.Native.Nat.{ℕ, ◌+◌, ◌*◌, ◌-◌, ◌/◌, ◌%◌, ◌≤◌, ◌<◌}
use mathlib.Core.Path.{◌≡◌, refl, sym, ap, ◌∙◌}
use mathlib.Core.Logic.{◌⊎◌, inl, inr}
use mathlib.Core.List.{List, [], ◌∷◌}
use mathlib.Core.Bool.{Bool, true, false}
use native.Mathlib.Omega.{arith}
use lib.Dec.{ltb}
use borrow.Author.Tests.{ltb-true, ltb-false, lt-ltb, le-ltb}
use Rattle.hbc_text_forms.specs.Utf8.{Range, ◌‥◌, table, Fits, none, more, Among, here, there, Character, WellFormed, end, then}
use Rattle.hbc_text_forms.specs.Scalars.{Scalar, encode, encode_all, Scalars}
use Rattle.hbc_text_forms.specs.Scalars as scalars

-- ---- encode by the number of bytes

pub encode_1 : (c : ℕ) → c < 0x80 → encode c ≡ c ∷ []
unfolding encode
encode_1 c h = rw (lt-ltb c 0x80 h)

pub encode_2 : (c : ℕ) → 0x80 ≤ c → c < 0x800 → encode c ≡ (0xC0 + c / 64) ∷ (0x80 + c % 64) ∷ []
unfolding encode
encode_2 c l h = rw (le-ltb c 0x80 l, lt-ltb c 0x800 h)

pub encode_3 : (c : ℕ) → 0x800 ≤ c → c < 0x10000 → encode c ≡ (0xE0 + c / 4096) ∷ (0x80 + c / 64 % 64) ∷ (0x80 + c % 64) ∷ []
unfolding encode
encode_3 c l h = let k : 0x80 ≤ c = omega arith in rw (le-ltb c 0x80 k, le-ltb c 0x800 l, lt-ltb c 0x10000 h)

pub encode_4 : (c : ℕ) → 0x10000 ≤ c → encode c ≡ (0xF0 + c / 262144) ∷ (0x80 + c / 4096 % 64) ∷ (0x80 + c / 64 % 64) ∷ (0x80 + c % 64) ∷ []
unfolding encode
encode_4 c l =
    let k : 0x80 ≤ c = omega arith in
    let m : 0x800 ≤ c = omega arith in
    rw (le-ltb c 0x80 k, le-ltb c 0x800 m, le-ltb c 0x10000 l)

-- ---- a scalar value's encoding is a character

split_at : (a b : ℕ) (w : Bool) → ltb a b ≡ w → (a < b) ⊎ (b ≤ a)
split_at a b true e = inl (ltb-true a b e)
split_at a b false e = inr (ltb-false a b e)

pub split : (a b : ℕ) → (a < b) ⊎ (b ≤ a)
split a b = split_at a b (ltb a b) refl

-- a following byte, of any six bits
follows : (x : ℕ) {rs : List Range} {c : List ℕ} → Fits rs c → Fits (0x80 ‥ 0xBF ∷ rs) ((0x80 + x % 64) ∷ c)
follows x f = more {a = 0x80} {z = 0xBF} {b = 0x80 + x % 64} (omega arith) (omega arith) f

one : (c : ℕ) → c < 0x80 → Character (encode c)
one c h =
    rw (encode_1 c h)
    (record { row = 0x00 ‥ 0x7F ∷ []; listed = here; fit = more {a = 0} {z = 0x7F} {b = c} (omega arith) (omega arith) none })

two : (c a z : ℕ) → 0x80 ≤ c → c < 0x800 → Among (a ‥ z ∷ 0x80 ‥ 0xBF ∷ []) table → a ≤ 0xC0 + c / 64 → 0xC0 + c / 64 ≤ z → Character (encode c)
two c a z l h m p q = rw (encode_2 c l h) (record { row = a ‥ z ∷ 0x80 ‥ 0xBF ∷ []; listed = m; fit = more p q (follows c none) })

three : (c a z y x : ℕ) → 0x800 ≤ c → c < 0x10000 → Among (a ‥ z ∷ y ‥ x ∷ 0x80 ‥ 0xBF ∷ []) table → a ≤ 0xE0 + c / 4096 → 0xE0 + c / 4096 ≤ z → y ≤ 0x80 + c / 64 % 64 → 0x80 + c / 64 % 64 ≤ x → Character (encode c)
three c a z y x l h m p q r u =
    rw (encode_3 c l h)
    (record { row = a ‥ z ∷ y ‥ x ∷ 0x80 ‥ 0xBF ∷ []; listed = m; fit = more p q (more r u (follows c none)) })

four : (c a z y x : ℕ) → 0x10000 ≤ c → Among (a ‥ z ∷ y ‥ x ∷ 0x80 ‥ 0xBF ∷ 0x80 ‥ 0xBF ∷ []) table → a ≤ 0xF0 + c / 262144 → 0xF0 + c / 262144 ≤ z → y ≤ 0x80 + c / 4096 % 64 → 0x80 + c / 4096 % 64 ≤ x → Character (encode c)
four c a z y x l m p q r u =
    rw (encode_4 c l)
    (record { row = a ‥ z ∷ y ‥ x ∷ 0x80 ‥ 0xBF ∷ 0x80 ‥ 0xBF ∷ []; listed = m; fit = more p q (more r u (follows (c / 64) (follows c none))) })

low_plane : (c : ℕ) → c < 0xD800 → (c < 0x80) ⊎ (0x80 ≤ c) → (c < 0x800) ⊎ (0x800 ≤ c) → (c < 0x1000) ⊎ (0x1000 ≤ c) → (c < 0xD000) ⊎ (0xD000 ≤ c) → Character (encode c)
low_plane c h (inl a) _ _ _ = one c a
low_plane c h (inr k) (inl a) _ _ = two c _ _ k a (there here) (omega arith) (omega arith)
low_plane c h (inr _) (inr k) (inl a) _ =
    three c _ _ _ _ k (omega arith) (there (there here)) (omega arith) (omega arith) (omega arith) (omega arith)
low_plane c h (inr _) (inr l) (inr k) (inl a) =
    three c _ _ _ _ l (omega arith) (there (there (there here))) (omega arith) (omega arith) (omega arith) (omega arith)
low_plane c h (inr _) (inr l) (inr _) (inr k) =
    three c _ _ _ _ l (omega arith) (there (there (there (there here)))) (omega arith) (omega arith) (omega arith) (omega arith)

high_plane : (c : ℕ) → 0xE000 ≤ c → c < 0x110000 → (c < 0x10000) ⊎ (0x10000 ≤ c) → (c < 0x40000) ⊎ (0x40000 ≤ c) → (c < 0x100000) ⊎ (0x100000 ≤ c) → Character (encode c)
high_plane c l h (inl a) _ _ =
    three c _ _ _ _ (omega arith) a (there (there (there (there (there here))))) (omega arith) (omega arith) (omega arith) (omega arith)
high_plane c l h (inr k) (inl a) _ =
    four c _ _ _ _ k (there (there (there (there (there (there here)))))) (omega arith) (omega arith) (omega arith) (omega arith)
high_plane c l h (inr m) (inr k) (inl a) =
    four c _ _ _ _ m (there (there (there (there (there (there (there here))))))) (omega arith) (omega arith) (omega arith) (omega arith)
high_plane c l h (inr m) (inr _) (inr k) =
    four c _ _ _ _ m (there (there (there (there (there (there (there (there here)))))))) (omega arith) (omega arith) (omega arith) (omega arith)

pub encoded : {c : ℕ} → Scalar c → Character (encode c)
encoded {c} (inl h) = low_plane c h (split c 0x80) (split c 0x800) (split c 0x1000) (split c 0xD000)
encoded {c} (inr p) = high_plane c p.0 p.1 (split c 0x10000) (split c 0x40000) (split c 0x100000)

-- the encodings of scalar values are well formed
pub formed_all : {cs : List ℕ} → Scalars cs → WellFormed (encode_all cs)
unfolding encode_all
formed_all scalars.none = end
formed_all (scalars.more h hs) = then (encoded h) (formed_all hs)

-- ---- a character is the encoding of a scalar value

pub record Decoded (s : List ℕ) : Type 0 where
  pub scalar : ℕ
  pub is_scalar : Scalar scalar
  pub is : encode scalar ≡ s

code_1 : (a : ℕ) → a ≤ 0x7F → Decoded (a ∷ [])
code_1 a q = record { scalar = a; is_scalar = inl (omega arith); is = encode_1 a (omega arith) }

code_2 : (a b : ℕ) → 0xC2 ≤ a → a ≤ 0xDF → 0x80 ≤ b → b ≤ 0xBF → Decoded (a ∷ b ∷ [])
code_2 a b p q r u =
    let c : ℕ = 64 * (a - 0xC0) + (b - 0x80) in
    let x : 0xC0 + c / 64 ≡ a = omega arith in
    let y : 0x80 + c % 64 ≡ b = omega arith in
    record { scalar = c; is_scalar = inl (omega arith); is = encode_2 c (omega arith) (omega arith) ∙ rw (x, y) }

-- the code point of three bytes and of four
abbrev of_3 : ℕ → ℕ → ℕ → ℕ
of_3 a b d = 4096 * (a - 0xE0) + 64 * (b - 0x80) + (d - 0x80)

abbrev of_4 : ℕ → ℕ → ℕ → ℕ → ℕ
of_4 a b d e = 262144 * (a - 0xF0) + 4096 * (b - 0x80) + 64 * (d - 0x80) + (e - 0x80)

code_3 : (a b d : ℕ) → 0xE0 ≤ a → a ≤ 0xEF → 0x80 ≤ b → b ≤ 0xBF → 0x80 ≤ d → d ≤ 0xBF → 0x800 ≤ of_3 a b d → Scalar (of_3 a b d) → Decoded (a ∷ b ∷ d ∷ [])
code_3 a b d p q r u v w l s =
    let c : ℕ = of_3 a b d in
    let x : 0xE0 + c / 4096 ≡ a = omega arith in
    let y : 0x80 + c / 64 % 64 ≡ b = omega arith in
    let z : 0x80 + c % 64 ≡ d = omega arith in
    record { scalar = c; is_scalar = s; is = encode_3 c l (omega arith) ∙ rw (x, y, z) }

code_4 : (a b d e : ℕ) → 0xF0 ≤ a → a ≤ 0xF4 → 0x80 ≤ b → b ≤ 0xBF → 0x80 ≤ d → d ≤ 0xBF → 0x80 ≤ e → e ≤ 0xBF → 0x10000 ≤ of_4 a b d e → of_4 a b d e < 0x110000 → Decoded (a ∷ b ∷ d ∷ e ∷ [])
code_4 a b d e p q r u v w f g l h =
    let c : ℕ = of_4 a b d e in
    let x : 0xF0 + c / 262144 ≡ a = omega arith in
    let y : 0x80 + c / 4096 % 64 ≡ b = omega arith in
    let z : 0x80 + c / 64 % 64 ≡ d = omega arith in
    let t : 0x80 + c % 64 ≡ e = omega arith in
    record { scalar = c; is_scalar = inr (omega arith, h); is = encode_4 c l ∙ rw (x, y, z, t) }

decoded_at : {row : List Range} {c : List ℕ} → Among row table → Fits row c → Decoded c
decoded_at here (more {b} h l none) = code_1 b l
decoded_at (there here) (more {b = a} h l (more {b} p q none)) = code_2 a b (omega arith) l p q
decoded_at (there (there here)) (more {b = a} h l (more {b} p q (more {b = d} r u none))) =
    code_3 a b d h (omega arith) (omega arith) q r u (omega arith) (inl (omega arith))
decoded_at (there (there (there here))) (more {b = a} h l (more {b} p q (more {b = d} r u none))) =
    code_3 a b d (omega arith) (omega arith) p q r u (omega arith) (inl (omega arith))
decoded_at (there (there (there (there here)))) (more {b = a} h l (more {b} p q (more {b = d} r u none))) =
    code_3 a b d (omega arith) (omega arith) p (omega arith) r u (omega arith) (inl (omega arith))
decoded_at (there (there (there (there (there here))))) (more {b = a} h l (more {b} p q (more {b = d} r u none))) =
    code_3 a b d (omega arith) l p q r u (omega arith) (inr (omega arith, omega arith))
decoded_at (there (there (there (there (there (there here)))))) (more {b = a} h l (more {b} p q (more {b = d} r u (more {b = e} v w none)))) =
    code_4 a b d e h (omega arith) (omega arith) q r u v w (omega arith) (omega arith)
decoded_at (there (there (there (there (there (there (there here))))))) (more {b = a} h l (more {b} p q (more {b = d} r u (more {b = e} v w none)))) =
    code_4 a b d e (omega arith) (omega arith) p q r u v w (omega arith) (omega arith)
decoded_at (there (there (there (there (there (there (there (there here)))))))) (more {b = a} h l (more {b} p q (more {b = d} r u (more {b = e} v w none)))) =
    code_4 a b d e (omega arith) l p (omega arith) r u v w (omega arith) (omega arith)
decoded_at {row = row} {c = c} (there (there (there (there (there (there (there (there (there k))))))))) _ = elim k [ ]

-- no row takes a surrogate, an overlong form or a number past the last code point
pub decoded : {c : List ℕ} → Character c → Decoded c
decoded ch = decoded_at ch.listed ch.fit

-- ---- and of one

-- the number that bytes encode
abbrev value_of : List ℕ → ℕ
value_of [] = 0
value_of (a ∷ []) = a
value_of (a ∷ b ∷ []) = 64 * (a - 0xC0) + (b - 0x80)
value_of (a ∷ b ∷ d ∷ []) = of_3 a b d
value_of (a ∷ b ∷ d ∷ e ∷ s) = of_4 a b d e

value_at_lem : (c : ℕ) → (c < 0x80) ⊎ (0x80 ≤ c) → (c < 0x800) ⊎ (0x800 ≤ c) → (c < 0x10000) ⊎ (0x10000 ≤ c) → value_of (encode c) ≡ c
value_at_lem c (inl h) _ _ = rw (encode_1 c h)
value_at_lem c (inr k) (inl h) _ = rw (encode_2 c k h) (omega arith)
value_at_lem c (inr _) (inr k) (inl h) = rw (encode_3 c k h) (omega arith)
value_at_lem c (inr _) (inr _) (inr k) =
    let x : c / 64 ≡ 64 * (c / 4096) + c / 64 % 64 = omega arith in
    let y : c / 4096 ≡ 64 * (c / 262144) + c / 4096 % 64 = omega arith in
    rw (encode_4 c k) (omega arith)

value : (c : ℕ) → value_of (encode c) ≡ c
value c = value_at_lem c (split c 0x80) (split c 0x800) (split c 0x10000)

pub one_code : (c d : ℕ) → encode c ≡ encode d → c ≡ d
one_code c d e = sym (value c) ∙ ap value_of e ∙ value d
