-- From what a call ensures and the case its answer was found in, to what the read found.
use mathlib.Core.Path.{◌≡◌, refl, sym, ap, ◌∙◌}
use mathlib.Core.Bool.{Bool, true, false, cond}
use Prim.Native.Nat.{ℕ}
use native.Mathlib.Omega.{arith}
use Rattle.hbc_io.specs.Outcome.{Outcome, got, refused, cursor_at, refusal_at, valued, and_then}
use Rattle.hbc_io.specs.declared.Cursor.{Cursor}
use Rattle.hbc_io.specs.declared.Refusal.{Refusal}

-- an answer a that stands for o, found to be b
pub found : {A R : Type 0} (of : R → Outcome A) {a b : R} {o : Outcome A} → of a ≡ o → a ≡ b → o ≡ of b
found of e f = sym e ∙ ap of f

-- nothing is both got and refused
pub not_both : {A : Type 0} {o : Outcome A} {v : A} {n m : Cursor} {r : Refusal} → o ≡ got v n → o ≡ refused r m → ⊥
not_both e f = let z : ◌≡◌ {A = ℕ} 0 1 = cc in omega arith

-- one number, one place of the refusal, one cursor: one refused answer
pub refused_so : {A : Type 0} {r q : Refusal} {m c : Cursor} → r.number ≡ q.number → r.place ≡ q.place → m.at ≡ c.at → ◌≡◌ {A = Outcome A} (refused r m) (refused q c)
refused_so {r = r} {q = q} {m = m} e f g =
    ap (λ (k : ℕ). refused (refusal_at k r.place) m) e ∙ ap (λ (k : ℕ). refused (refusal_at q.number k) m) f ∙ ap (λ (k : ℕ). refused q (cursor_at k)) g

-- what was got, and where, is one thing
pub same_got : {A : Type 0} (v u : A) (c d : Cursor) → got v c ≡ got u d → (v ≡ u) × (c ≡ d)
same_got v u c d e = (cc, cc)

-- a test that refuses was not met where something was got
pub past_test : {A : Type 0} (b : Bool) (k : Refusal) (m : Cursor) (o : Outcome A) (v : A) (n : Cursor) → cond b (refused k m) o ≡ got v n → (b ≡ false) × (o ≡ got v n)
past_test true k m o v n e = absurd (not_both e refl)
past_test false k m o v n e = (refl, e)

-- through `valued` and `and_then`
pub valued_got : {A B : Type 0} (f : A → B) (o : Outcome A) (v : B) (n : Cursor) → valued f o ≡ got v n → (a : A) × (o ≡ got a n) × (v ≡ f a)
valued_got f (got a m) v n e = let p : m ≡ n = cc in (a, rw p, cc)
valued_got f (refused r m) v n e = absurd (not_both e refl)

pub valued_refused : {A B : Type 0} (f : A → B) (o : Outcome A) (r : Refusal) (n : Cursor) → valued f o ≡ refused r n → o ≡ refused r n
valued_refused f (got a m) r n e = absurd (not_both refl e)
valued_refused f (refused q m) r n e = let p : q ≡ r = cc in let t : m ≡ n = cc in rw (p, t)

pub valued_on : {A B C : Type 0} (f : A → B) (g : B → C) (o : Outcome A) → valued (λ (a : A). g (f a)) o ≡ valued g (valued f o)
valued_on f g (got a n) = refl
valued_on f g (refused r n) = refl

pub then_got : {A B : Type 0} (o : Outcome A) (f : A → Cursor → Outcome B) (v : B) (n : Cursor) → and_then o f ≡ got v n
    → (a : A) × (m : Cursor) × (o ≡ got a m) × (f a m ≡ got v n)
then_got (got a m) f v n e = (a, m, refl, e)
then_got (refused r m) f v n e = absurd (not_both e refl)
