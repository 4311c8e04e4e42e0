-- The number of tags that are looked at for one with values never ends a series early.
use Prim.Native.Nat.{ℕ, zero, suc, ◌+◌, ◌-◌, ◌≤◌}
use mathlib.Core.Path.{◌≡◌, refl, sym, ap, ◌∙◌}
use mathlib.Core.List.{List}
use mathlib.Core.Bool.{Bool, true, false}
use native.Mathlib.Omega.{arith}
use borrow.Author.Tests.{eqb-true, eqb-false}
use lib.Dec.{eqb}
use lib.ListN.{length}
use Rattle.hbc_io.specs.Outcome.{Outcome, got, refused, refusal, limit}
use Rattle.hbc_io.specs.declared.Cursor.{Cursor}
use Rattle.hbc_buffer.specs.Series.{Run, tag_at, head_at}
use Rattle.hbc_claims_buffer.specs.Tags.{Enough}
use Rattle.hbc_buffer.proofs.Tags.{plain_cut, head_here, head_skip, head_none, head_out, tag_on}

no_tag : (s : List ℕ) (c : Cursor) → length s ≤ limit → c.at ≤ length s → length s - c.at ≤ 0 → tag_at s c ≡ refused (refusal 3) c
unfolding tag_at
no_tag s c l h e = rw (plain_cut 1 s c.at l h (omega arith))

head_end : (g : ℕ) (s : List ℕ) (c : Cursor) → length s ≤ limit → c.at ≤ length s → length s - c.at ≤ 0 → head_at g s c ≡ refused (refusal 3) c
head_end zero s c l h e = head_out zero s c refl
head_end (suc g) s c l h e = head_none (suc g) s c (omega arith) (no_tag s c l h e)

abbrev Agree : ℕ → ℕ → List ℕ → Cursor → Type 0
Agree f g s c = length s ≤ limit → c.at ≤ length s → length s - c.at ≤ f → length s - c.at ≤ g → head_at f s c ≡ head_at g s c

one_more : (f g : ℕ) (s : List ℕ) (c : Cursor) → ((n : Cursor) → Agree f g s n) → Agree (suc f) (suc g) s c
one_more f g s c on l h x y = by_tag (tag_at s c) refl
  where
    by_left : (t : Run) (n : Cursor) (b : Bool) → tag_at s c ≡ got t n → eqb t.left 0 ≡ b → head_at (suc f) s c ≡ head_at (suc g) s c
    by_left t n true e q =
        let o = tag_on s c t n e in let z = eqb-true t.left 0 q in
        let i : suc f - 1 ≡ f = omega arith in let j : suc g - 1 ≡ g = omega arith in
        head_skip (suc f) s c (omega arith) e z ∙ ap (λ (k : ℕ). head_at k s n) i ∙ on n l o.within (omega (arith, o.from)) (omega (arith, o.from))
        ∙ sym (head_skip (suc g) s c (omega arith) e z ∙ ap (λ (k : ℕ). head_at k s n) j)
    by_left t n false e q =
        let z = eqb-false t.left 0 q in
        head_here (suc f) s c (omega arith) e z ∙ sym (head_here (suc g) s c (omega arith) e z)

    by_tag : (o : Outcome Run) → tag_at s c ≡ o → head_at (suc f) s c ≡ head_at (suc g) s c
    by_tag (refused r n) e = head_none (suc f) s c (omega arith) e ∙ sym (head_none (suc g) s c (omega arith) e)
    by_tag (got t n) e = by_left t n (eqb t.left 0) e refl

-- as many tags as there are bytes left are as good as any more
head_more : (f g : ℕ) (s : List ℕ) (c : Cursor) → Agree f g s c
head_more zero g s c l h x y = head_out zero s c refl ∙ sym (head_end g s c l h x)
head_more (suc f) zero s c l h x y = head_end (suc f) s c l h y ∙ sym (head_out zero s c refl)
head_more (suc f) (suc g) s c l h x y = one_more f g s c (head_more f g s) l h x y

pub enough : (k : ℕ) (s : List ℕ) (c : Cursor) → Enough k s c
enough k s c l h = head_more (length s + k) (length s) s c l h (omega arith) (omega arith)
