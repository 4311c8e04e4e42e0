-- What an answer that is chosen by tests says of them.
use mathlib.Core.Path.{◌≡◌, refl}
use mathlib.Core.Bool.{Bool, true, false, cond}
use Rattle.hbc_claims_law.specs.Tests.{Passed}

pub past : {A : Type 0} {x o z : A} → (x ≡ z → ⊥) → (b : Bool) → Passed b x o z
past n true e = absurd (n e)
past n false e = (refl, e)

-- what holds if it was the test's own answer, and if it was a later one, holds
pub either : {A P : Type 0} {x o z : A} → (b : Bool) → cond b x o ≡ z → (x ≡ z → P) → (o ≡ z → P) → P
either true e f g = f e
either false e f g = g e
