-- Whether the numbers that were read are exact: of a pair, and of the count.
use mathlib.Core.Path.{◌≡◌, sym, ap, ◌∙◌}
use mathlib.Core.Bool.{Bool, true, ◌&&◌}
use mathlib.Core.List.{List}
use Prim.Native.Nat.{ℕ}
use Rattle.hbc_io.specs.Outcome.{got, refused, valued, cursor_at}
use Rattle.hbc_io.specs.declared.Cursor.{Cursor}
use Rattle.hbc_io.specs.declared.Refusal.{Refusal}
use Rattle.hbc_io_leb.specs.Leb.{leb_bytes}
use Rattle.hbc_io_leb.specs.Numbers.{signed, exact, and_next, no_more}
use Rattle.hbc_io_leb.specs.Signed.{sleb_at, held_of}
use Rattle.hbc_io_leb.specs.declared.Held.{Held}
use Rattle.hbc_debug_parts.specs.Along.{every}
use Rattle.hbc_debug_parts.proofs.Along.{and_true}
use Rattle.hbc_debug_parts.proofs.Marks.{mark_on, mark_off, mark_last}
use Rattle.hbc_debug_pairs.specs.Pairs.{counter_at, counter_read, pair_numbers}
use Rattle.hbc_debug_pairs.specs.declared.Counter.{Counter}
use Rattle.hbc_debug_parts.specs.declared.Marked.{Marked}

-- a pair
module _ (s : List ℕ) (c : Cursor) where
  pub pair_mark_1 : (r : Refusal) (m : Cursor) → valued held_of (sleb_at s c) ≡ refused r m → true ≡ every exact (pair_numbers s c)
  unfolding pair_numbers
  pair_mark_1 r m e = sym (mark_off s c _ r m e)

  module _ (b₁ : Held) (c₁ : Cursor) (e₁ : valued held_of (sleb_at s c) ≡ got b₁ c₁) where
    pub pair_mark_2 : (r : Refusal) (m : Cursor) → valued held_of (sleb_at s c₁) ≡ refused r m → b₁.exact ≡ every exact (pair_numbers s c)
    unfolding pair_numbers
    pair_mark_2 r m e = sym (mark_on s c _ b₁ c₁ e₁ ∙ ap (λ (x : Bool). b₁.exact && x) (mark_off s c₁ no_more r m e) ∙ and_true b₁.exact)

    pub pair_mark_3 : (b₂ : Held) (c₂ : Cursor) → valued held_of (sleb_at s c₁) ≡ got b₂ c₂ → b₁.exact && b₂.exact ≡ every exact (pair_numbers s c)
    unfolding pair_numbers
    pair_mark_3 b₂ c₂ e = sym (mark_on s c _ b₁ c₁ e₁ ∙ ap (λ (x : Bool). b₁.exact && x) (mark_last s c₁ b₂ c₂ e))

-- the count, with the counter that it gives
module _ (s : List ℕ) where
  mark_with : {k : Counter} {x : Bool} → k ≡ counter_at s → every exact (and_next signed (leb_bytes s (cursor_at 0)) no_more) ≡ x
      → record { value = k; exact = x } ≡ counter_read s
  unfolding counter_read
  mark_with {k} {x} e f = ap (λ (j : Counter). record { value = j; exact = x }) e ∙ ap (λ (b : Bool). record { value = counter_at s; exact = b }) (sym f)

  pub count_off : {k : Counter} (r : Refusal) (m : Cursor) → valued held_of (sleb_at s (cursor_at 0)) ≡ refused r m → k ≡ counter_at s
      → record { value = k; exact = true } ≡ counter_read s
  count_off r m e f = mark_with f (mark_off s (cursor_at 0) no_more r m e)

  pub count_on : {k : Counter} (b : Held) (m : Cursor) → valued held_of (sleb_at s (cursor_at 0)) ≡ got b m → k ≡ counter_at s
      → record { value = k; exact = b.exact } ≡ counter_read s
  count_on b m e f = mark_with f (mark_last s (cursor_at 0) b m e)

  -- what was read, by its parts
  pub counter_is : {r : Marked Counter} → r ≡ counter_read s → r.value ≡ counter_at s
  unfolding counter_read
  counter_is e = ap (λ (r : Marked Counter). r.value) e

  pub counter_mark : {r : Marked Counter} → r ≡ counter_read s → r.exact ≡ every exact (and_next signed (leb_bytes s (cursor_at 0)) no_more)
  unfolding counter_read
  counter_mark e = ap (λ (r : Marked Counter). r.exact) e
