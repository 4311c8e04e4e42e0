-- The words of 32 bits of a number that is made of fields, by what its fields hold in each, for any list of fields that begin in four of them.
use Prim.Native.Nat.{ℕ, zero, suc, ◌+◌, ◌*◌, ◌/◌, ◌%◌, ◌^◌, ◌<◌}
use mathlib.Core.Path.{◌≡◌, refl, sym, ap, ◌∙◌}
use mathlib.Core.List.{List, [], ◌∷◌}
use mathlib.Core.Bool.{Bool, true, false, cond}
use native.Mathlib.Nat.{add-mul-div_left, add-mul-mod_self_left, div-eq_of_lt, mod-eq_of_lt, zero-add, mul_assoc, mul_comm}
use native.Mathlib.Omega.{arith}
use lib.Dec.{eqb, ltb, lit<}
use lib.Pow.{pow-add}
use borrow.Author.Tests.{ltb-true}
use Rattle.hbc_bits.specs.Fields.{joined, words_of}
use Rattle.hbc_bits.proofs.Fields.{both}
use Rattle.hbc_function_bytes.specs.Private.{placed}

-- ---- one value in its word

-- the word's number is the quotient of the field's first bit by 32
whole : (first width v : ℕ) → v % 2 ^ width * 2 ^ first ≡ 2 ^ (32 * (first / 32)) * placed first width v
unfolding placed
whole first width v =
    let e : first ≡ 32 * (first / 32) + first % 32 = omega arith in
    ap (λ (k : ℕ). v % 2 ^ width * 2 ^ k) e
    ∙ rw (pow-add 2 (32 * (first / 32)) (first % 32), ← mul_assoc, mul_comm (v % 2 ^ width) (2 ^ (32 * (first / 32))), mul_assoc)

-- ---- the words of a list

-- what the fields of word k hold
abbrev pub in_word : ℕ → List (ℕ × ℕ) → List ℕ → ℕ
in_word k [] vs = 0
in_word k (f ∷ fs) [] = 0
in_word k (f ∷ fs) (v ∷ vs) = cond (eqb (f.0 / 32) k) (placed f.0 f.1 v + in_word k fs vs) (in_word k fs vs)

-- every field begins in one of the four words
abbrev pub in_four : List (ℕ × ℕ) → Bool
in_four [] = true
in_four (f ∷ fs) = cond (ltb (f.0 / 32) 4) (in_four fs) false

four : ℕ → ℕ → ℕ → ℕ → ℕ
four a b c d = a + 2 ^ 32 * (b + 2 ^ 32 * (c + 2 ^ 32 * (d + 2 ^ 32 * 0)))

-- one value more, in word k
one_more : (k x a b c d : ℕ) → k < 4
    → 2 ^ (32 * k) * x + four a b c d ≡ four (cond (eqb k 0) (x + a) a) (cond (eqb k 1) (x + b) b) (cond (eqb k 2) (x + c) c) (cond (eqb k 3) (x + d) d)
unfolding four
one_more zero x a b c d h = omega arith
one_more (suc zero) x a b c d h = omega arith
one_more (suc (suc zero)) x a b c d h = omega arith
one_more (suc (suc (suc zero))) x a b c d h = omega arith
one_more (suc (suc (suc (suc k)))) x a b c d h = absurd (omega arith)

joined_words : (fs : List (ℕ × ℕ)) (vs : List ℕ) → in_four fs ≡ true → joined fs vs ≡ four (in_word 0 fs vs) (in_word 1 fs vs) (in_word 2 fs vs) (in_word 3 fs vs)
unfolding joined four
joined_words [] vs h = refl
joined_words (f ∷ fs) [] h = refl
joined_words (f ∷ fs) (v ∷ vs) h =
    let t = both (ltb (f.0 / 32) 4) h in
    rw (whole f.0 f.1 v, joined_words fs vs t.1)
    (one_more (f.0 / 32) (placed f.0 f.1 v) (in_word 0 fs vs) (in_word 1 fs vs) (in_word 2 fs vs) (in_word 3 fs vs) (ltb-true (f.0 / 32) 4 t.0))

-- the lowest word, and those above it
word_step : (n a q : ℕ) → a < 2 ^ 32 → words_of (suc n) (a + 2 ^ 32 * q) ≡ a ∷ words_of n q
word_step n a q h =
    rw (add-mul-mod_self_left a (2 ^ 32) q, mod-eq_of_lt h, add-mul-div_left a q {y = 2 ^ 32} (lit< tt), div-eq_of_lt h, zero-add)

-- four words that hold what the fields hold, and are words, are those of the number
pub four_words : (fs : List (ℕ × ℕ)) (vs : List ℕ) {a b c d : ℕ} → in_four fs ≡ true → a < 2 ^ 32 → b < 2 ^ 32 → c < 2 ^ 32 → d < 2 ^ 32
    → a ≡ in_word 0 fs vs → b ≡ in_word 1 fs vs → c ≡ in_word 2 fs vs → d ≡ in_word 3 fs vs → a ∷ b ∷ c ∷ d ∷ [] ≡ words_of 4 (joined fs vs)
unfolding four
four_words fs vs {a} {b} {c} {d} i h k l m p q r s =
    let e : joined fs vs ≡ four a b c d = rw (p, q, r, s) (joined_words fs vs i) in
    sym (ap (words_of 4) e ∙ word_step 3 a (b + 2 ^ 32 * (c + 2 ^ 32 * (d + 2 ^ 32 * 0))) h
    ∙ ap (a ∷◌) (word_step 2 b (c + 2 ^ 32 * (d + 2 ^ 32 * 0)) k ∙ ap (b ∷◌) (word_step 1 c (d + 2 ^ 32 * 0) l ∙ ap (c ∷◌) (word_step 0 d 0 m))))
