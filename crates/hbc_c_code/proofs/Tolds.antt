-- The ways out of an exported call, and that it leaves one number and one value for the words.
use Prim.Native.Nat.{ℕ}
use mathlib.Core.Path.{◌≡◌, refl, ap, sym, subst, ◌∙◌}
use Rattle.hbc_io.specs.Outcome.{Outcome, got, refused}
use Rattle.hbc_io.specs.Answer.{Answer, gives, refuses, told}
use Rattle.hbc_io.specs.Lends.{Lends}
use Rattle.hbc_io.specs.declared.Cursor.{Cursor}
use Rattle.hbc_io.specs.declared.Refusal.{Refusal}
use Rattle.hbc_c_code.specs.Code.{code_of, code_in, always, value_in}
use Rattle.hbc_c_code.specs.Told.{Told, ToldValue, cursor_in, Moves, Reads, ToldFrom}

-- the answer a that came back from the call behind, in the case b that it was found in
pub told_by : {A R W : Type 0} {count : A → ℕ} {of : R → Answer A} {P : R → W → Type 0} {a : R} {b : R} {r : ℕ} {after : W}
    → P a after → a ≡ b → r ≡ code_in count (of b) → Told count of P r after
told_by {count = count} {of} {a = a} p e f = record { answer = a; promised = p; says = f ∙ ap (λ x. code_in count (of x)) (sym e) }

-- one number and one value for the words, if the call behind leaves one answer and one value
pub alone : {A R W : Type 0} {count : A → ℕ} {of : R → Answer A} {P : R → W → Type 0} {r q : ℕ} {after later : W}
    → ((a b : R) → P a after → P b later → (a ≡ b) × (after ≡ later)) → Told count of P r after → Told count of P q later
    → (r ≡ q) × (after ≡ later)
alone {count = count} {of} one v w =
    let h = one v.answer w.answer v.promised w.promised in
    (v.says ∙ ap (λ x. code_in count (of x)) h.0 ∙ sym w.says, h.1)

-- a number that no accepted answer has tells a refusal, and the words are as they were
pub left : {A R W : Type 0} {count : A → ℕ} {of : R → Answer A} {o : Answer A} {new before : W} {r : ℕ} {after : W}
    → ((a : A) → o ≡ gives a → r ≡ count a → ⊥) → Told count of (Lends of o new before) r after → after ≡ before
left {A} {R} {W} {count} {of} {o} {new} {before} {r} {after} n v = by (of v.answer) refl
  where
    by : (x : Answer A) → of v.answer ≡ x → after ≡ before
    by (gives a) e = absurd (n a (sym v.promised.says ∙ e) (v.says ∙ ap (code_in count) e))
    by (refuses y) e = rw e at v.promised.leaves

-- of a call with numbers lent for what it gives
pub value_told : {A R W : Type 0} {of : R → Answer A} {P : R → W → Type 0} {a : R} {b : R} {before value : A} {r : ℕ} {after : W}
    → P a after → a ≡ b → r ≡ code_in (always 0) (of b) → value ≡ value_in (of b) before → ToldValue of P before r after value
value_told {of = of} {a = a} {before = before} p e f g = record {
  answer = a;
  promised = p;
  says = f ∙ ap (λ x. code_in (always 0) (of x)) (sym e);
  holds = g ∙ ap (λ x. value_in (of x) before) (sym e);
}

pub value_alone : {A R W : Type 0} {of : R → Answer A} {P : R → W → Type 0} {before v w : A} {r q : ℕ} {after later : W}
    → ((a b : R) → P a after → P b later → (a ≡ b) × (after ≡ later)) → ToldValue of P before r after v → ToldValue of P before q later w
    → (r ≡ q) × (after ≡ later) × (v ≡ w)
value_alone {of = of} {before = before} one v w =
    let h = one v.answer w.answer v.promised w.promised in
    (v.says ∙ ap (λ x. code_in (always 0) (of x)) h.0 ∙ sym w.says, h.1, v.holds ∙ ap (λ x. value_in (of x) before) h.0 ∙ sym w.holds)

-- the two ways an outcome of the cursor layer is told, whatever its value
module _ {A : Type 0} where
  pub moved_to : {o : Outcome A} {v : A} {n : Cursor} → o ≡ got v n → Moves o 0 n.at
  moved_to e = rw e (record { says = refl; moves = refl })

  pub moved_not : {o : Outcome A} {r : Refusal} {n : Cursor} {k : ℕ} → o ≡ refused r n → k ≡ code_of r → Moves o k n.at
  moved_not e f = rw e (record { says = f; moves = refl })

  pub read_got : {o : Outcome A} {v before : A} {n : Cursor} → o ≡ got v n → Reads o before 0 n.at v
  read_got e = record { tells = moved_to e; leaves = rw e }

  pub read_refused : {o : Outcome A} {before : A} {r : Refusal} {n : Cursor} {k : ℕ} → o ≡ refused r n → k ≡ code_of r
      → Reads o before k n.at before
  read_refused e f = record { tells = moved_not e f; leaves = rw e }

  -- and with words: the answer a of the call behind, in the case b that it was found in
  pub from_told : {R W : Type 0} {of : R → Outcome A} {P : R → W → Type 0} {a b : R} {r at : ℕ} {after : W}
      → P a after → a ≡ b → Moves (of b) r at → ToldFrom of P r at after
  from_told {of = of} {a = a} {r = r} {at} p e m = record { answer = a; promised = p; tells = subst (λ x. Moves (of x) r at) (sym e) m }

  -- one number, one cursor and one value for the words, if the call behind leaves one answer and one value
  pub from_alone : {R W : Type 0} {of : R → Outcome A} {P : R → W → Type 0} {r q at at' : ℕ} {after later : W}
      → ((a b : R) → P a after → P b later → (a ≡ b) × (after ≡ later)) → ToldFrom of P r at after → ToldFrom of P q at' later
      → (r ≡ q) × (at ≡ at') × (after ≡ later)
  from_alone {of = of} one v w =
      let h = one v.answer w.answer v.promised w.promised in (
        v.tells.says ∙ ap (λ x. code_in (always 0) (told (of x))) h.0 ∙ sym w.tells.says,
        v.tells.moves ∙ ap (λ x. cursor_in (of x)) h.0 ∙ sym w.tells.moves,
        h.1,
      )
