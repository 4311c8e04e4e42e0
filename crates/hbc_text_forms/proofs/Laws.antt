-- Laws of rows, parts and text.
use Prim.Native.Nat.{ℕ, zero, suc, ◌≤◌}
use mathlib.Core.Path.{◌≡◌, refl, ap}
use mathlib.Core.List.{List, [], ◌∷◌, ◌++◌}
use mathlib.Core.Bool.{Bool, true, false, ◌&&◌}
use native.Mathlib.Omega.{arith}
use lib.ListN.{drop}
use lib.Dec.{leb}
use borrow.Author.Tests.{leb-true, le-leb}
use Rattle.hbc_text_forms.specs.Utf8.{◌‥◌, within, passed, written, text_after, utf8_text}

-- ---- tests

pub no : {P : Type 0} → false ≡ true → P
no e = let q : ◌≡◌ {A = ℕ} 0 1 = cc in absurd (omega arith)

pub both : (a b : Bool) → (a && b) ≡ true → (a ≡ true) × (b ≡ true)
both true b e = (refl, e)
both false b e = no e

pub inside : (a z b : ℕ) → within (a ‥ z) b ≡ true → (a ≤ b) × (b ≤ z)
inside a z b e = (leb-true a b (both (leb a b) (leb b z) e).0, leb-true b z (both (leb a b) (leb b z) e).1)

pub is_inside : {a z b : ℕ} → a ≤ b → b ≤ z → within (a ‥ z) b ≡ true
is_inside {a} {z} {b} h l = rw (le-leb a b h, le-leb b z l)

-- ---- text, part by part

pub after : (k : ℕ) (s : List ℕ) → text_after k s ≡ utf8_text (drop k s)
unfolding text_after utf8_text
after zero s = refl
after (suc k) [] = refl
after (suc k) (b ∷ s) = after k s

pub text_nil : utf8_text [] ≡ []
unfolding text_after utf8_text
text_nil = refl

pub text_cons : (b : ℕ) (s : List ℕ) → utf8_text (b ∷ s) ≡ written b s ++ utf8_text (drop (passed b s) s)
unfolding text_after utf8_text
text_cons b s = ap (λ (l : List ℕ). written b s ++ l) (after (passed b s) s)
