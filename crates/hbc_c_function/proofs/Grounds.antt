-- The three ways a ground is told.
use Prim.Native.Nat.{ℕ}
use mathlib.Core.Path.{◌≡◌, refl, subst}
use Rattle.hbc_io.specs.Answer.{Answer, gives, refuses}
use Rattle.hbc_io.specs.declared.Refusal.{Refusal}
use Rattle.hbc_function_header.specs.declared.Ground.{Ground}
use Rattle.hbc_function_header.specs.declared.Ground.TheVariants as ground
use Rattle.hbc_c_code.specs.Code.{code_of}
use Rattle.hbc_c_function.specs.Function.{Places, places, no_place, GroundTold}

module _ {a : Answer Ground} {before : Places} where
  pub found_inline : {at : ℕ} → gives (ground.Inline at) ≡ a → GroundTold a before 0 (places at no_place)
  found_inline {at} e = subst (λ (o : Answer Ground). GroundTold o before 0 (places at no_place)) e (record { says = refl; holds = refl })

  pub found_large : {at place : ℕ} → gives (ground.Large at place) ≡ a → GroundTold a before 0 (places at place)
  found_large {at} {place} e = subst (λ (o : Answer Ground). GroundTold o before 0 (places at place)) e (record { says = refl; holds = refl })

  pub found_not : {x : Refusal} {r : ℕ} → refuses x ≡ a → r ≡ code_of x → GroundTold a before r before
  found_not {r = r} e k = subst (λ (o : Answer Ground). GroundTold o before r before) e (record { says = k; holds = refl })
