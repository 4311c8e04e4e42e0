-- The laws of the promise: the ways out of a call, and what follows for whoever reads it.
use Prim.Native.Nat.{ℕ, ◌≤◌, ◌<◌}
use mathlib.Core.Path.{◌≡◌, refl, ap, sym, ◌∙◌}
use mathlib.Core.Bool.{Bool, true, false, cond}
use lib.Dec.{ltb}
use native.Mathlib.Omega.{arith}
use borrow.Author.Tests.{lt-ltb, le-ltb, ltb-false}
use Rattle.hbc_io.specs.declared.Refusal.{Refusal}
use Rattle.hbc_io.specs.Answer.{Answer, gives, refuses}
use Rattle.hbc_io.specs.Lends.{below, choose, written, Tells}

-- ---- ways out of a chain of tests

module _ {O : Type 0} {v : O} where
  module _ (a b : ℕ) (x o : O) where
    pub is_below : a < b → v ≡ x → v ≡ below a b x o
    unfolding below
    is_below h e = rw (lt-ltb a b h) e

    pub not_below : b ≤ a → v ≡ o → v ≡ below a b x o
    unfolding below
    not_below h e = rw (le-ltb a b h) e

  module _ (b : Bool) (x o : O) where
    pub is_chosen : b ≡ true → v ≡ x → v ≡ choose b x o
    unfolding choose
    is_chosen h e = rw h e

    pub not_chosen : b ≡ false → v ≡ o → v ≡ choose b x o
    unfolding choose
    not_chosen h e = rw h e

-- ---- ways out of a call

module _ {O A R W : Type 0} {told : O → Answer A} {of : R → O} {new before : W} {r : R} where
  -- refused: the words are as they were
  pub refused : {x : Refusal} {o : O} → told (of r) ≡ refuses x → of r ≡ o → Tells told of o new before r before
  refused e p = record { says = p; leaves = rw e }

  -- given: they are the new ones
  pub given : {v : A} {o : O} {after : W} → told (of r) ≡ gives v → of r ≡ o → after ≡ new → Tells told of o new before r after
  given e p q = record { says = p; leaves = rw e q }

  module _ (a b : ℕ) (x o : O) where
    -- a test that refuses; what r says is seen to be a refusal
    pub stop : {y : Refusal} → a < b → told (of r) ≡ refuses y → of r ≡ x → Tells told of (below a b x o) new before r before
    unfolding below
    stop h e p = record { says = rw (lt-ltb a b h) p; leaves = rw e }

    -- a test that is passed, and what follows
    pub past : {after : W} → b ≤ a → Tells told of o new before r after → Tells told of (below a b x o) new before r after
    unfolding below
    past h v = record { says = rw (le-ltb a b h) v.says; leaves = v.leaves }

  module _ (b : Bool) (x o : O) where
    -- a test that is met, whether it refuses or accepts
    pub take : {after : W} → b ≡ true → Tells told of x new before r after → Tells told of (choose b x o) new before r after
    unfolding choose
    take h v = record { says = rw h v.says; leaves = v.leaves }

    pub leave : {after : W} → b ≡ false → Tells told of o new before r after → Tells told of (choose b x o) new before r after
    unfolding choose
    leave h v = record { says = rw h v.says; leaves = v.leaves }

-- ---- what follows from the promise. That a refusal leaves the words is `leaves` itself, where r is a refusal; and so are the words of an accepted call.

module _ {O A R W : Type 0} {told : O → Answer A} {of : R → O} {o : O} {new before : W} where
  -- the words by the answer that is due
  pub words : {r : R} {after : W} → Tells told of o new before r after → after ≡ written (told o) new before
  words v = v.leaves ∙ ap (λ (a : O). written (told a) new before) v.says

  -- one answer, and one value for the words
  pub alone : {r q : R} {after later : W} → ((x y : R) → of x ≡ of y → x ≡ y) → Tells told of o new before r after → Tells told of o new before q later
      → (r ≡ q) × (after ≡ later)
  alone {r} {q} one v w = (one r q (v.says ∙ sym w.says), words v ∙ sym (words w))

-- nothing is both given and refused
pub not_given : {A : Type 0} {x : Refusal} {v : A} → refuses x ≡ gives v → ⊥
not_given e = let z : ◌≡◌ {A = ℕ} 0 1 = cc in omega arith

-- ---- what an answer that came past its tests says of them

pub reached : {O : Type 0} {z : O} (a b : ℕ) (x o : O) → (x ≡ z → ⊥) → below a b x o ≡ z → (b ≤ a) × (o ≡ z)
unfolding below
reached {O} {z} a b x o n e = by (ltb a b) refl e
  where
    by : (t : Bool) → ltb a b ≡ t → cond t x o ≡ z → (b ≤ a) × (o ≡ z)
    by true h e = absurd (n e)
    by false h e = (ltb-false a b h, e)
