-- Whether the numbers that were read are exact, from the marks of the reads.
use mathlib.Core.Path.{◌≡◌, sym, ap, ◌∙◌}
use mathlib.Core.Bool.{Bool, true, ◌&&◌}
use mathlib.Core.List.{List}
use Prim.Native.Nat.{ℕ, ◌-◌, ◌<◌}
use Rattle.hbc_io.specs.Outcome.{Outcome, got, refused, valued}
use Rattle.hbc_io.specs.declared.Cursor.{Cursor}
use Rattle.hbc_io.specs.declared.Refusal.{Refusal}
use Rattle.hbc_io.proofs.Reading.{valued_got, valued_refused}
use Rattle.hbc_io_leb.specs.Leb.{leb_bytes}
use Rattle.hbc_io_leb.specs.Signed.{sleb_at, held_of}
use Rattle.hbc_io_leb.specs.Numbers.{Number, signed, exact, and_next, no_more}
use Rattle.hbc_io_leb.specs.declared.Held.{Held}
use Rattle.hbc_debug_parts.specs.Along.{along, onward, every}
use Rattle.hbc_debug_parts.proofs.Along.{and_assoc, and_true, every_none, every_both, Marked, marked_on}
use Rattle.hbc_debug_parts.proofs.Marks.{mark_on, mark_off, mark_last}
use Rattle.hbc_debug_scopes.specs.Scopes.{Front, front_at, scope_at, front_numbers, name_number, numbers_at}
use Rattle.hbc_debug_scopes.specs.Private.{head_of}
use Rattle.hbc_debug_scopes.specs.declared.Head.{Head}
use Rattle.hbc_debug_scopes.proofs.Fronts.{Turn}

module _ (s : List ℕ) (c : Cursor) where
  pub name_mark : (b : Held) (n : Cursor) → valued held_of (sleb_at s c) ≡ got b n → b.exact ≡ every exact (name_number s c)
  unfolding name_number
  name_mark b n e = sym (mark_last s c b n e)

  pub name_failed : (r : Refusal) (n : Cursor) → valued held_of (sleb_at s c) ≡ refused r n → true ≡ every exact (name_number s c)
  unfolding name_number
  name_failed r n e = sym (mark_off s c no_more r n e)

  -- the front's numbers, where the first of the three fails, the second, the third, and none
  pub mark_1 : (r : Refusal) (n : Cursor) → valued held_of (sleb_at s c) ≡ refused r n → true ≡ every exact (front_numbers s c)
  unfolding front_numbers
  mark_1 r n e = sym (mark_off s c _ r n e)

module _ (s : List ℕ) (c : Cursor) (b₁ : Held) (c₁ : Cursor) (e₁ : valued held_of (sleb_at s c) ≡ got b₁ c₁) where
  pub mark_2 : (r : Refusal) (n : Cursor) → valued held_of (sleb_at s c₁) ≡ refused r n → b₁.exact ≡ every exact (front_numbers s c)
  unfolding front_numbers
  mark_2 r n e = sym (mark_on s c _ b₁ c₁ e₁ ∙ ap (λ (t : Bool). b₁.exact && t) (mark_off s c₁ _ r n e) ∙ and_true b₁.exact)

  module _ (b₂ : Held) (c₂ : Cursor) (e₂ : valued held_of (sleb_at s c₁) ≡ got b₂ c₂) where
    two : every exact (front_numbers s c) ≡ (b₁.exact && b₂.exact) && every exact (and_next signed (leb_bytes s c₂) no_more)
    unfolding front_numbers
    two =
        mark_on s c _ b₁ c₁ e₁ ∙ ap (λ (t : Bool). b₁.exact && t) (mark_on s c₁ _ b₂ c₂ e₂)
        ∙ sym (and_assoc b₁.exact b₂.exact (every exact (and_next signed (leb_bytes s c₂) no_more)))

    pub mark_3 : (r : Refusal) (n : Cursor) → valued held_of (sleb_at s c₂) ≡ refused r n → b₁.exact && b₂.exact ≡ every exact (front_numbers s c)
    mark_3 r n e = sym (two ∙ ap (λ (t : Bool). (b₁.exact && b₂.exact) && t) (mark_off s c₂ no_more r n e) ∙ and_true (b₁.exact && b₂.exact))

    pub mark_4 : (b₃ : Held) (c₃ : Cursor) → valued held_of (sleb_at s c₂) ≡ got b₃ c₃ → (b₁.exact && b₂.exact) && b₃.exact ≡ every exact (front_numbers s c)
    mark_4 b₃ c₃ e = sym (two ∙ ap (λ (t : Bool). (b₁.exact && b₂.exact) && t) (mark_last s c₂ b₃ c₃ e))

abbrev names : List ℕ → Front → Cursor → List Number
names s h n = along (sleb_at s) (name_number s) h.count n

-- a scope that is kept: its front's and its names'
scope_mark : (s : List ℕ) (c : Cursor) (v : Head) (c₁ : Cursor) {x y : Bool} → valued head_of (front_at s c) ≡ got v c₁ → x ≡ every exact (front_numbers s c)
    → y ≡ every exact (along (sleb_at s) (name_number s) v.count c₁) → x && y ≡ every exact (numbers_at s c)
unfolding numbers_at
scope_mark s c v c₁ {x} {y} e f g =
    let w = valued_got head_of (front_at s c) v c₁ e in
    let k : v.count ≡ w.0.count = ap (λ (h : Head). h.count) w.2 in
    let l : every exact (onward (front_at s c) (names s)) ≡ y
    = ap (λ (o : Outcome Front). every exact (onward o (names s))) w.1 ∙ ap (λ (j : ℕ). every exact (along (sleb_at s) (name_number s) j c₁)) (sym k) ∙ sym g in
    sym
    (every_both exact (front_numbers s c) (onward (front_at s c) (names s)) ∙ ap (λ (t : Bool). every exact (front_numbers s c) && t) l
    ∙ ap (λ (t : Bool). t && y) (sym f))

-- the mark after one more scope, as the code joins it
pub scope_marked : {s : List ℕ} {all : List Number} {k : ℕ} {c : Cursor} {v : Head} {c₁ : Cursor} {n : ℕ} {m : Cursor} {e x y : Bool} → 0 < k
    → Turn s c v c₁ n m → valued head_of (front_at s c) ≡ got v c₁ → x ≡ every exact (front_numbers s c)
    → y ≡ every exact (along (sleb_at s) (name_number s) v.count c₁)
    → Marked (scope_at s) (numbers_at s) exact all k c e → Marked (scope_at s) (numbers_at s) exact all (k - 1) m ((e && x) && y)
scope_marked {s} {c} {v} {c₁} {e} {x} {y} h t w f g o = rw (and_assoc e x y) (marked_on h t.is (scope_mark s c v c₁ w f g) o)

-- one that is given up: its front's
pub stop_mark : (s : List ℕ) (c : Cursor) (r : Refusal) (n : Cursor) {x : Bool} → valued head_of (front_at s c) ≡ refused r n
    → x ≡ every exact (front_numbers s c) → x ≡ every exact (numbers_at s c)
unfolding numbers_at
stop_mark s c r n {x} e f =
    let w = valued_refused head_of (front_at s c) r n e in
    let l : every exact (onward (front_at s c) (names s)) ≡ true = ap (λ (o : Outcome Front). every exact (onward o (names s))) w ∙ every_none exact in
    f
    ∙ sym
    (every_both exact (front_numbers s c) (onward (front_at s c) (names s)) ∙ ap (λ (t : Bool). every exact (front_numbers s c) && t) l
    ∙ and_true (every exact (front_numbers s c)))
