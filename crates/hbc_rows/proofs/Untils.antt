-- One thing more, and the end of them.
use mathlib.Core.Path.{◌≡◌, refl}
use mathlib.Core.List.{[], ◌∷◌}
use Prim.Native.Nat.{ℕ, zero, suc, ◌≤◌}
use native.Mathlib.Omega.{arith}
use lib.ListN.{length}
use Rattle.hbc_io.specs.Outcome.{Outcome, got, refused}
use Rattle.hbc_io.specs.declared.Cursor.{Cursor}
use Rattle.hbc_io.specs.declared.Refusal.{Refusal}
use Rattle.hbc_rows.specs.Until.{until, after, and_more}

module _ {A : Type 0} (f : Cursor → Outcome A) where
  pub until_none : (c : Cursor) → until f zero c ≡ []
  unfolding until
  until_none c = refl

  pub until_more : (k : ℕ) (c : Cursor) (v : A) (n : Cursor) → f c ≡ got v n → until f (suc k) c ≡ v ∷ until f k n
  unfolding until
  until_more k c v n e = rw e

  pub until_stop : (k : ℕ) (c : Cursor) (r : Refusal) (n : Cursor) → f c ≡ refused r n → until f k c ≡ []
  unfolding until
  until_stop zero c r n e = refl
  until_stop (suc k) c r n e = rw e

  pub after_none : (c : Cursor) → after f zero c ≡ c
  unfolding after
  after_none c = refl

  pub after_more : (k : ℕ) (c : Cursor) (v : A) (n : Cursor) → f c ≡ got v n → after f (suc k) c ≡ after f k n
  unfolding after
  after_more k c v n e = rw e

  pub after_stop : (k : ℕ) (c : Cursor) (r : Refusal) (n : Cursor) → f c ≡ refused r n → after f (suc k) c ≡ n
  unfolding after
  after_stop k c r n e = rw e

  pub until_most : (k : ℕ) (c : Cursor) → length (until f k c) ≤ k
  unfolding until
  until_most zero c = omega arith
  until_most (suc k) c = more (f c) (λ n. until_most k n)
    where
      more : (o : Outcome A) → ((n : Cursor) → length (until f k n) ≤ k) → length (and_more o (until f k)) ≤ suc k
      more (got v n) h = omega (arith, h n)
      more (refused r n) h = omega arith
