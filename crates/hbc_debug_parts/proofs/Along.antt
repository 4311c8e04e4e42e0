-- A pass over things that are read until one fails, with whether a test holds of all that was met: k still to be looked for.
use mathlib.Core.Path.{◌≡◌, refl, sym, ap, ◌∙◌}
use mathlib.Core.Bool.{Bool, true, false, ◌&&◌}
use mathlib.Core.List.{List, [], ◌∷◌, ◌++◌}
use Prim.Native.Nat.{ℕ, zero, suc, ◌-◌, ◌≤◌, ◌<◌}
use native.Mathlib.Omega.{arith}
use Rattle.hbc_io.specs.Outcome.{Outcome, got, refused}
use Rattle.hbc_io.specs.declared.Cursor.{Cursor}
use Rattle.hbc_io.specs.declared.Refusal.{Refusal}
use Rattle.hbc_debug_parts.specs.Along.{along, onward, every}

pub and_assoc : (a b c : Bool) → (a && b) && c ≡ a && (b && c)
and_assoc true b c = refl
and_assoc false b c = refl

pub and_true : (a : Bool) → a && true ≡ a
and_true true = refl
and_true false = refl

module _ {B : Type 0} (p : B → Bool) where
  pub every_none : every p [] ≡ true
  unfolding every
  every_none = refl

  pub every_more : (x : B) (xs : List B) → every p (x ∷ xs) ≡ p x && every p xs
  unfolding every
  every_more x xs = refl

  pub every_both : (xs ys : List B) → every p (xs ++ ys) ≡ every p xs && every p ys
  every_both [] ys = sym (ap (λ (b : Bool). b && every p ys) every_none)
  every_both (x ∷ xs) ys =
      every_more x (xs ++ ys) ∙ ap (λ (b : Bool). p x && b) (every_both xs ys) ∙ sym (and_assoc (p x) (every p xs) (every p ys))
      ∙ sym (ap (λ (b : Bool). b && every p ys) (every_more x xs))

module _ {A B : Type 0} (f : Cursor → Outcome A) (g : Cursor → List B) where
  along_none : (k : ℕ) (c : Cursor) → k ≤ 0 → along f g k c ≡ []
  unfolding along
  along_none zero c h = refl
  along_none (suc k) c h = absurd (omega arith)

  along_more : (k : ℕ) (c : Cursor) {v : A} {n : Cursor} → 0 < k → f c ≡ got v n → along f g k c ≡ g c ++ along f g (k - 1) n
  unfolding along
  along_more zero c h e = absurd (omega arith)
  along_more (suc k) c {v} {n} h e =
      let j : k ≡ suc k - 1 = omega arith in
      ap (λ (o : Outcome A). g c ++ onward o (λ v m. along f g k m)) e ∙ ap (λ (j : ℕ). g c ++ along f g j n) j

  along_stop : (k : ℕ) (c : Cursor) {r : Refusal} {n : Cursor} → 0 < k → f c ≡ refused r n → along f g k c ≡ g c ++ []
  unfolding along
  along_stop zero c h e = absurd (omega arith)
  along_stop (suc k) c h e = ap (λ (o : Outcome A). g c ++ onward o (λ v m. along f g k m)) e

-- whether the test holds of all is whether it held so far and holds of what is met from here on
pub record Marked {A B : Type 0} (f : Cursor → Outcome A) (g : Cursor → List B) (p : B → Bool) (all : List B) (k : ℕ) (c : Cursor) (e : Bool) : Type 0 where
  pub is : every p all ≡ e && every p (along f g k c)

module _ {A B : Type 0} {f : Cursor → Outcome A} {g : Cursor → List B} {p : B → Bool} where
  pub marked_first : (k : ℕ) (c : Cursor) → Marked f g p (along f g k c) k c true
  marked_first k c = record { is = refl }

  pub marked_on : {all : List B} {k : ℕ} {c : Cursor} {e x : Bool} {v : A} {n : Cursor} → 0 < k → f c ≡ got v n → x ≡ every p (g c)
      → Marked f g p all k c e → Marked f g p all (k - 1) n (e && x)
  marked_on {k} {c} {e} {x} {v} {n} h u w m = record {
    is =
        m.is ∙ ap (λ (l : List B). e && every p l) (along_more f g k c h u) ∙ ap (λ (b : Bool). e && b) (every_both p (g c) (along f g (k - 1) n))
        ∙ ap (λ (b : Bool). e && (b && every p (along f g (k - 1) n))) (sym w) ∙ sym (and_assoc e x (every p (along f g (k - 1) n)));
  }

  pub marked_stop : {all : List B} {k : ℕ} {c : Cursor} {e x : Bool} {r : Refusal} {n : Cursor} → 0 < k → f c ≡ refused r n → x ≡ every p (g c)
      → Marked f g p all k c e → e && x ≡ every p all
  marked_stop {k} {c} {e} {x} h u w m =
      sym (m.is ∙ ap (λ (l : List B). e && every p l) (along_stop f g k c h u) ∙ ap (λ (b : Bool). e && b) (every_both p (g c) [] ∙ ap (λ (b : Bool). every p (g c) && b) (every_none p) ∙ and_true (every p (g c)))
      ∙ ap (λ (b : Bool). e && b) (sym w))

  pub marked_done : {all : List B} {k : ℕ} {c : Cursor} {e : Bool} → k ≤ 0 → Marked f g p all k c e → e ≡ every p all
  marked_done {k} {c} {e} h m = sym (m.is ∙ ap (λ (l : List B). e && every p l) (along_none f g k c h) ∙ ap (λ (b : Bool). e && b) (every_none p) ∙ and_true e)
