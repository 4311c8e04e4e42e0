-- The array as a writer makes it: each string with what stands before it, a bracket or a comma.
use Prim.Native.Nat.{ℕ, ◌+◌}
use mathlib.Core.Path.{◌≡◌, refl, sym, ap}
use mathlib.Core.List.{List, [], ◌∷◌, ◌++◌, append_assoc}
use native.Mathlib.Omega.{arith}
use lib.ListN.{length, length-append}
use Rattle.hbc_json_forms.specs.Json.{escaped, quoted, commas, listed, array}

unfoldable pub led : ℕ → List (List ℕ) → List ℕ
led sep [] = []
led sep (t ∷ ts) = sep ∷ quoted t ++ led 0x2C ts

pub led_commas : (ts : List (List ℕ)) → led 0x2C ts ≡ commas ts
unfolding led commas
led_commas [] = refl
led_commas (t ∷ ts) = ap (λ (l : List ℕ). 0x2C ∷ quoted t ++ l) (led_commas ts)

pub array_none : array [] ≡ 0x5B ∷ 0x5D ∷ []
unfolding array listed
array_none = refl

pub array_some : (t : List ℕ) (ts : List (List ℕ)) → array (t ∷ ts) ≡ led 0x5B (t ∷ ts) ++ (0x5D ∷ [])
unfolding array listed led
array_some t ts = ap (λ (l : List ℕ). 0x5B ∷ quoted t ++ l ++ (0x5D ∷ [])) (sym (led_commas ts))

pub led_cons : (sep : ℕ) (t : List ℕ) (ts : List (List ℕ)) → led sep (t ∷ ts) ≡ sep ∷ 0x22 ∷ (escaped t ++ (0x22 ∷ led 0x2C ts))
unfolding led quoted
led_cons sep t ts = ap (λ (l : List ℕ). sep ∷ 0x22 ∷ l) (append_assoc (escaped t) (0x22 ∷ []) (led 0x2C ts))

pub led_length : (sep : ℕ) (t : List ℕ) (ts : List (List ℕ)) → length (led sep (t ∷ ts)) ≡ 3 + length (escaped t) + length (led 0x2C ts)
led_length sep t ts = rw (led_cons sep t ts) (omega (arith, length-append (escaped t) (0x22 ∷ led 0x2C ts)))
