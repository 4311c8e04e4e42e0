-- Laws that loops over lent tables cite: one more, done, and lengths.
use Prim.Native.Nat.{ℕ, zero, suc, ◌+◌, ◌/◌, ◌^◌, ◌≤◌, ◌<◌}
use mathlib.Core.Path.{◌≡◌, refl, sym, ◌∙◌}
use mathlib.Core.List.{List}
use mathlib.Core.Bool.{true, false}
use native.Mathlib.Nat.{div-le_self, mod-le, le_trans, lt_of_le_of_lt}
use native.Mathlib.Numerals.{add-one}
use lib.Dec.{eqb}
use lib.ListN.{length, set, length-set, get_or-eq_default}
use borrow.Author.Tests.{eq-eqb, ne_eqb}
use Rattle.hbc_bits.specs.Bits.{field}
use Rattle.hbc_rows.specs.Rows.{entry_at, filled}

-- ---- words in front

module _ (f : ℕ → ℕ) (t : List ℕ) where
  pub filled_more : (n : ℕ) → set (filled f n t) n (f n) ≡ filled f (n + 1) t
  unfolding filled
  filled_more n = rw add-one

  pub filled_length : (n : ℕ) → length (filled f n t) ≡ length t
  unfolding filled
  filled_length zero = refl
  filled_length (suc n) = simp length-set (filled_length n)

-- ---- one word

pub entry_none : (t : List ℕ) (i : ℕ) → length t ≤ i → 0 ≡ entry_at t i
unfolding entry_at
entry_none t i h = sym (get_or-eq_default t 0 h)

-- a field of a word is no longer than the word
pub field_fits : (first width n m : ℕ) → n < m → field first width n < m
unfolding field
field_fits first width n m h =
    lt_of_le_of_lt (le_trans (mod-le (n / 2 ^ first) (2 ^ width)) (div-le_self n (2 ^ first))) h

-- ---- a test of a call's result, as a test of what the call promises

pub test_eq : {f x k : ℕ} → f ≡ x → f ≡ k → eqb x k ≡ true
test_eq {f} {x} {k} p q = eq-eqb x k (sym p ∙ q)

pub test_ne : {f x k : ℕ} → f ≡ x → (f ≡ k → ⊥) → eqb x k ≡ false
test_ne {f} {x} {k} p q = ne_eqb x k (λ e. q (p ∙ e))
