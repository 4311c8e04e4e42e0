-- What the lowest number is known by, and how a loop comes to it.
use Prim.Native.Nat.{ℕ, zero, suc, ◌+◌, ◌≤◌, ◌<◌}
use mathlib.Core.Path.{◌≡◌, refl}
use mathlib.Core.Bool.{Bool, true, false, cond}
use native.Mathlib.Omega.{arith}
use native.Mathlib.Numerals.{add-one}
use native.Mathlib.Decide.{dec_lt}
use borrow.Author.Tests.{ltb-true, ltb-false}
use lib.Dec.{ltb}
use Rattle.hbc_lowest.specs.Lowest.{some, lowest_of}

-- r is the lowest of n numbers that is so
pub record Is (b : ℕ → Bool) (n r : ℕ) : Type 0 where
  pub most : r ≤ n
  pub so : r < n → b r ≡ true
  pub not : (i : ℕ) → i < r → b i ≡ false

-- none of the first i numbers is so
pub record None (b : ℕ → Bool) (i : ℕ) : Type 0 where
  pub not : (k : ℕ) → k < i → b k ≡ false

pub none_first : {b : ℕ → Bool} → None b 0
none_first = record { not = λ k l. absurd (omega arith) }

pub truth_clash : {x : Bool} → x ≡ true → x ≡ false → ⊥
truth_clash e f = let z : ◌≡◌ {A = ℕ} 0 1 = cc in omega arith

module _ (b : ℕ → Bool) where
  next_by : (n : ℕ) → Is b n (lowest_of b n) → (x y : Bool) → ltb (lowest_of b n) n ≡ x → b n ≡ y → Is b (suc n) (cond x (lowest_of b n) (cond y n (suc n)))
  next_by n p true y e f =
      let l = ltb-true (lowest_of b n) n e in
      record { most = omega (arith, p.most); so = λ _. p.so l; not = p.not }
  next_by n p false true e f =
      let l = ltb-false (lowest_of b n) n e in
      let q : lowest_of b n ≡ n = omega (arith, p.most, l) in
      record { most = omega arith; so = λ _. f; not = λ i h. p.not i (omega (arith, q, h)) }
  next_by n p false false e f =
      let l = ltb-false (lowest_of b n) n e in
      let q : lowest_of b n ≡ n = omega (arith, p.most, l) in
      record {
        most = omega arith;
        so = λ h. absurd (omega (arith, h));
        not = λ i h. last i (omega (arith, h)) (dec_lt i n);
      }
    where
      last : (i : ℕ) → i ≤ n → Dec (i < n) → b i ≡ false
      last i h (yes l) = p.not i (omega (arith, l, p.most, ltb-false (lowest_of b n) n e))
      last i h (no l) = let z : i ≡ n = omega (arith, h, l) in rw z f

  -- what the definition says
  pub is_lowest : (n : ℕ) → Is b n (lowest_of b n)
  unfolding lowest_of
  is_lowest zero = record { most = omega arith; so = λ h. absurd (omega (arith, h)); not = λ i h. absurd (omega (arith, h)) }
  is_lowest (suc n) = next_by n (is_lowest n) (ltb (lowest_of b n) n) (b n) refl refl

  one_by : {n r q : ℕ} → Is b n r → Is b n q → Dec (r < q) → Dec (q < r) → r ≡ q
  one_by p o (yes l) d = absurd (truth_clash (p.so (omega (arith, l, o.most))) (o.not _ l))
  one_by p o (no l) (yes h) = absurd (truth_clash (o.so (omega (arith, h, p.most))) (p.not _ h))
  one_by p o (no l) (no h) = omega (arith, l, h)

  -- and only it is so
  pub lowest_is : {n r : ℕ} → Is b n r → r ≡ lowest_of b n
  lowest_is {n} {r} p = one_by p (is_lowest n) (dec_lt r (lowest_of b n)) (dec_lt (lowest_of b n) r)

  -- ---- a loop that looks at one number after another

  pub none_next : {i : ℕ} → None b i → b i ≡ false → None b (i + 1)
  none_next {i} p e = record { not = λ k l. by k l (dec_lt k i) }
    where
      by : (k : ℕ) → k < i + 1 → Dec (k < i) → b k ≡ false
      by k l (yes h) = p.not k h
      by k l (no h) = let z : k ≡ i = omega (arith, l, h) in rw z e

  pub lowest_here : {n i : ℕ} → None b i → i < n → b i ≡ true → i ≡ lowest_of b n
  lowest_here p l e = lowest_is (record { most = omega (arith, l); so = λ _. e; not = p.not })

  pub lowest_none : {n : ℕ} → None b n → n ≡ lowest_of b n
  lowest_none p = lowest_is (record { most = omega arith; so = λ h. absurd (omega (arith, h)); not = p.not })

  -- ---- whether one is so

  some_by : (n : ℕ) (x : Bool) → some b n ≡ x → b n ≡ true → cond x true (b n) ≡ true
  some_by n true e f = refl
  some_by n false e f = f

  some_on : (n : ℕ) → some b n ≡ true → some b (suc n) ≡ true
  unfolding some
  some_on n e = rw e

  some_last : (n : ℕ) → b n ≡ true → some b (suc n) ≡ true
  unfolding some
  some_last n e = some_by n (some b n) refl e

  is_by : (n i : ℕ) → i ≤ n → b i ≡ true → (i < n → some b n ≡ true) → Dec (i < n) → some b (suc n) ≡ true
  is_by n i l e p (yes h) = some_on n (p h)
  is_by n i l e p (no h) = let z : i ≡ n = omega (arith, l, h) in some_last n (rw (← z) e)

  pub some_is : (n i : ℕ) → i < n → b i ≡ true → some b n ≡ true
  some_is zero i l e = absurd (omega arith)
  some_is (suc n) i l e = is_by n i (omega arith) e (λ h. some_is n i h e) (dec_lt i n)

  pub some_none : (n : ℕ) → None b n → some b n ≡ false
  unfolding some
  some_none zero p = refl
  some_none (suc n) p = rw (some_none n (record { not = λ k l. p.not k (omega arith) }), p.not n (omega arith))

  -- one that is
  pub record At (n : ℕ) : Type 0 where
    pub index : ℕ
    pub low : index < n
    pub so : b index ≡ true

  at_by : (n : ℕ) (x : Bool) → some b n ≡ x → (some b n ≡ true → At n) → cond x true (b n) ≡ true → At (suc n)
  at_by n true e p f = let q = p e in record { index = q.index; low = omega (arith, q.low); so = q.so }
  at_by n false e p f = record { index = n; low = omega arith; so = f }

  pub some_at : (n : ℕ) → some b n ≡ true → At n
  unfolding some
  some_at zero e = absurd (truth_clash e refl)
  some_at (suc n) e = at_by n (some b n) refl (some_at n) e

-- one number more
pub lower_is : (b : ℕ → Bool) {i best r : ℕ} {so : Bool} → best ≡ lowest_of b i → so ≡ b i → r ≡ cond (ltb best i) best (cond so i (i + 1)) → r ≡ lowest_of b (suc i)
unfolding lowest_of
lower_is b {i} e f g = rw (g, e, f, add-one i)

-- it goes by what is said of the first n alone
pub some_same : (b c : ℕ → Bool) (n : ℕ) → ((i : ℕ) → i < n → b i ≡ c i) → some b n ≡ some c n
unfolding some
some_same b c zero e = refl
some_same b c (suc n) e = rw (some_same b c n (λ i l. e i (omega arith)), e n (omega arith))
