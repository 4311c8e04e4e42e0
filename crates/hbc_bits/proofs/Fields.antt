-- Fields put together and cut out again, for any list of fields that lie side by side; and a number's bytes and words.
use Prim.Native.Nat.{ℕ, zero, suc, ◌+◌, ◌*◌, ◌/◌, ◌%◌, ◌^◌, ◌≤◌, ◌<◌}
use mathlib.Core.Path.{◌≡◌, refl, sym, ap, ◌∙◌}
use mathlib.Core.List.{List, [], ◌∷◌, ◌++◌}
use mathlib.Core.Bool.{Bool, true, false, cond}
use native.Mathlib.Nat.{add-mul-div_left, add-mul-mod_self_left, div-eq_of_lt, zero-add, add-zero, mul-zero, mul-add, mul_assoc, mul_comm, mul-le-mul_right, suc-mul, add_assoc, mod-eq_of_lt, mod-lt, mod-mod, pow-suc, pow-succ', mod-add-div, div-lt_iff_lt-mul, one-mul}
use native.Mathlib.Omega.{arith}
use lib.Pow.{pow_pos, pow-add}
use lib.Dec.{eqb, ltb, lit<}
use lib.ListN.{length}
use borrow.Author.Tests.{eqb-true, ltb-true}
use Rattle.hbc_bits.specs.Bits.{little_endian, field}
use Rattle.hbc_bits.specs.Fields.{fields_of, joined, fit, bytes_of, words_of, laid}

-- the fields lie side by side: the first starts at bit k, each other where the one before it ends, and the last ends before bit e
unfoldable pub side_by_side : ℕ → List (ℕ × ℕ) → ℕ → Bool
side_by_side k [] e = eqb k e
side_by_side k (f ∷ fs) e = cond (eqb f.0 k) (side_by_side (k + f.1) fs e) false

-- two tests that hold
pub both : (a : Bool) {b : Bool} → cond a b false ≡ true → (a ≡ true) × (b ≡ true)
both true e = (refl, e)
both false e = let z : ◌≡◌ {A = ℕ} 0 1 = cc in absurd (omega arith)

-- a part above another, lo of k bits and v of w: less than k + w bits
sum_lt : (lo p x q : ℕ) → lo < p → x + p ≤ q → lo + x < q
sum_lt lo p x q h l = omega arith

above_lt : (k w lo v : ℕ) → lo < 2 ^ k → v < 2 ^ w → lo + v * 2 ^ k < 2 ^ (k + w)
above_lt k w lo v h l =
    sum_lt lo (2 ^ k) (v * 2 ^ k) (2 ^ (k + w)) h
    (rw (pow-add 2 k w, mul_comm (2 ^ k) (2 ^ w), ← suc-mul) (mul-le-mul_right (2 ^ k) l))

-- ---- put together, then cut out

-- the same number from bit k up, divided by 2 ^ k
unfoldable stacked : List (ℕ × ℕ) → List ℕ → ℕ
stacked [] vs = 0
stacked (f ∷ fs) [] = 0
stacked (f ∷ fs) (v ∷ vs) = v % 2 ^ f.1 + 2 ^ f.1 * stacked fs vs

is_stacked : (k e : ℕ) (fs : List (ℕ × ℕ)) (vs : List ℕ) → side_by_side k fs e ≡ true → joined fs vs ≡ 2 ^ k * stacked fs vs
unfolding side_by_side joined stacked
is_stacked k e [] vs s = sym (mul-zero (2 ^ k))
is_stacked k e (f ∷ fs) [] s = sym (mul-zero (2 ^ k))
is_stacked k e (f ∷ fs) (v ∷ vs) s =
    let t = both (eqb f.0 k) s in
    rw (eqb-true f.0 k t.0, is_stacked (k + f.1) e fs vs t.1, pow-add 2 k f.1, mul-add, mul_assoc, mul_comm (v % 2 ^ f.1) (2 ^ k))

-- the law of one field, over its first bit and width: v put above lo, and below q, is cut out again, as many bits of it as the field is wide
pub field_here : (k w lo v q : ℕ) → lo < 2 ^ k → field k w (lo + 2 ^ k * (v % 2 ^ w + 2 ^ w * q)) ≡ v % 2 ^ w
unfolding field
field_here k w lo v q l =
    rw (add-mul-div_left lo (v % 2 ^ w + 2 ^ w * q) (pow_pos k), div-eq_of_lt l, zero-add, add-mul-mod_self_left, mod-mod v (2 ^ w))

cut_from : (k e lo : ℕ) (fs : List (ℕ × ℕ)) (vs : List ℕ) → lo < 2 ^ k → side_by_side k fs e ≡ true → fit fs vs ≡ true → fields_of fs (lo + joined fs vs) ≡ vs
unfolding side_by_side fit fields_of joined stacked
cut_from k e lo [] [] l s h = refl
cut_from k e lo [] (v ∷ vs) l s h = let z : ◌≡◌ {A = ℕ} 0 1 = cc in absurd (omega arith)
cut_from k e lo (f ∷ fs) [] l s h = let z : ◌≡◌ {A = ℕ} 0 1 = cc in absurd (omega arith)
cut_from k e lo (f ∷ fs) (v ∷ vs) l s h =
    let t = both (eqb f.0 k) s in
    let u = both (ltb v (2 ^ f.1)) h in
    let q : f.0 ≡ k = eqb-true f.0 k t.0 in
    let m : v % 2 ^ f.1 ≡ v = mod-eq_of_lt (ltb-true v (2 ^ f.1) u.0) in
    let here : field f.0 f.1 (lo + joined (f ∷ fs) (v ∷ vs)) ≡ v % 2 ^ f.1 =
    rw (is_stacked k e (f ∷ fs) (v ∷ vs) s, q) (field_here k f.1 lo v (stacked fs vs) l) in
    let rest : fields_of fs (lo + (v % 2 ^ f.1 * 2 ^ f.0 + joined fs vs)) ≡ vs =
    rw (q, ← add_assoc)
    (cut_from (k + f.1) e (lo + v % 2 ^ f.1 * 2 ^ k) fs vs (above_lt k f.1 lo (v % 2 ^ f.1) l (mod-lt v (pow_pos f.1))) t.1 u.1) in
    λ i. (here ∙ m) i ∷ rest i

-- values that fit, put together and cut out again, are the values
pub cut_joined : (e : ℕ) (fs : List (ℕ × ℕ)) (vs : List ℕ) → side_by_side 0 fs e ≡ true → fit fs vs ≡ true → fields_of fs (joined fs vs) ≡ vs
cut_joined e fs vs s h = rw zero-add at (cut_from 0 e 0 fs vs (pow_pos 0) s h)

lt_from : (k e lo : ℕ) (fs : List (ℕ × ℕ)) (vs : List ℕ) → lo < 2 ^ k → side_by_side k fs e ≡ true → fit fs vs ≡ true → lo + joined fs vs < 2 ^ e
unfolding side_by_side fit joined
lt_from k e lo [] [] l s h = rw (add-zero, ← eqb-true k e s) l
lt_from k e lo [] (v ∷ vs) l s h = let z : ◌≡◌ {A = ℕ} 0 1 = cc in absurd (omega arith)
lt_from k e lo (f ∷ fs) [] l s h = let z : ◌≡◌ {A = ℕ} 0 1 = cc in absurd (omega arith)
lt_from k e lo (f ∷ fs) (v ∷ vs) l s h =
    let t = both (eqb f.0 k) s in
    let u = both (ltb v (2 ^ f.1)) h in
    rw (eqb-true f.0 k t.0, ← add_assoc)
    (lt_from (k + f.1) e (lo + v % 2 ^ f.1 * 2 ^ k) fs vs (above_lt k f.1 lo (v % 2 ^ f.1) l (mod-lt v (pow_pos f.1))) t.1 u.1)

-- the number has as many bits as the fields
pub joined_lt : (e : ℕ) (fs : List (ℕ × ℕ)) (vs : List ℕ) → side_by_side 0 fs e ≡ true → fit fs vs ≡ true → joined fs vs < 2 ^ e
joined_lt e fs vs s h = rw zero-add at (lt_from 0 e 0 fs vs (pow_pos 0) s h)

-- ---- bytes and words of a number

pub bytes_length : (n x : ℕ) → length (bytes_of n x) ≡ n
bytes_length zero x = refl
bytes_length (suc n) x = ap suc (bytes_length n (x / 256))

-- the number of its bytes is the number
pub bytes_number : (n x : ℕ) → x < 256 ^ n → little_endian (bytes_of n x) ≡ x
bytes_number zero x h = omega arith
bytes_number (suc n) x h =
    let l : x / 256 < 256 ^ n = (div-lt_iff_lt-mul (lit< tt)).1 (rw pow-suc at h) in
    rw (bytes_number n (x / 256) l) (mod-add-div x 256)

-- the bytes of a low part, then those of a high one
pub bytes_two : (m n lo hi : ℕ) → lo < 256 ^ m → bytes_of (m + n) (lo + 256 ^ m * hi) ≡ bytes_of m lo ++ bytes_of n hi
bytes_two zero n lo hi h = let e : lo ≡ 0 = omega arith in rw (zero-add n, e, one-mul, zero-add)
bytes_two (suc m) n lo hi h =
    let l : lo / 256 < 256 ^ m = (div-lt_iff_lt-mul (lit< tt)).1 (rw pow-suc at h) in
    let e : suc m + n ≡ suc (m + n) = omega arith in
    rw (e, pow-succ', mul_assoc, add-mul-mod_self_left lo 256 (256 ^ m * hi), add-mul-div_left lo (256 ^ m * hi) {y = 256} (lit< tt), bytes_two m n (lo / 256) hi l)

-- the bytes of its words, four each
abbrev pub fours : ℕ → List ℕ
fours zero = []
fours (suc n) = 4 ∷ fours n

pub words_bytes : (n x : ℕ) → laid (fours n) (words_of n x) ≡ bytes_of (4 * n) x
unfolding laid
words_bytes zero x = refl
words_bytes (suc n) x =
    let e : 4 * suc n ≡ 4 + 4 * n = omega arith in
    let f : x % 2 ^ 32 + 256 ^ 4 * (x / 2 ^ 32) ≡ x = mod-add-div x (2 ^ 32) in
    let g : bytes_of (4 + 4 * n) (x % 2 ^ 32 + 256 ^ 4 * (x / 2 ^ 32)) ≡ bytes_of 4 (x % 2 ^ 32) ++ bytes_of (4 * n) (x / 2 ^ 32) =
    bytes_two 4 (4 * n) (x % 2 ^ 32) (x / 2 ^ 32) (mod-lt x (lit< tt)) in
    ap (bytes_of 4 (x % 2 ^ 32) ++◌) (words_bytes n (x / 2 ^ 32)) ∙ sym g ∙ ap (bytes_of (4 + 4 * n)) f ∙ ap (λ (k : ℕ). bytes_of k x) (sym e)
