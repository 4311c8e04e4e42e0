-- Whether signed numbers that were read are exact, from the marks of the reads.
use mathlib.Core.Path.{◌≡◌, sym, ap, ◌∙◌}
use mathlib.Core.Bool.{Bool, true, ◌&&◌}
use mathlib.Core.List.{List}
use Prim.Native.Nat.{ℕ}
use Rattle.hbc_io.specs.Outcome.{Outcome, got, refused, valued}
use Rattle.hbc_io.specs.declared.Cursor.{Cursor}
use Rattle.hbc_io.specs.declared.Refusal.{Refusal}
use Rattle.hbc_io.proofs.Reading.{valued_got, valued_refused}
use Rattle.hbc_io_leb.specs.Leb.{leb_bytes}
use Rattle.hbc_io_leb.specs.Answers.{sleb_of}
use Rattle.hbc_io_leb.specs.Numbers.{Number, signed, exact, and_next, no_more}
use Rattle.hbc_io_leb.specs.Signed.{sleb_at, held_of}
use Rattle.hbc_io_leb.specs.declared.Held.{Held}
use Rattle.hbc_io_leb.specs.declared.Sleb.{Sleb}
use Rattle.hbc_debug_parts.specs.Along.{every}
use Rattle.hbc_debug_parts.proofs.Along.{every_none, every_more, and_true}

-- a number in front of others, and one that was not read
module _ (s : List ℕ) (c : Cursor) (more : Cursor → List Number) where
  pub mark_on : (b : Held) (n : Cursor) → valued held_of (sleb_at s c) ≡ got b n
      → every exact (and_next signed (leb_bytes s c) more) ≡ b.exact && every exact (more n)
  unfolding sleb_at exact
  mark_on b n e =
      let w = valued_got held_of (sleb_at s c) b n e in
      let v = valued_got sleb_of (leb_bytes s c) w.0 n w.1 in
      let x : exact (signed v.0) ≡ b.exact = sym (ap (λ (h : Held). h.exact) w.2 ∙ ap (λ (h : Sleb). h.exact) v.2) in
      ap (λ (o : Outcome (List ℕ)). every exact (and_next signed o more)) v.1 ∙ every_more exact (signed v.0) (more n)
      ∙ ap (λ (b : Bool). b && every exact (more n)) x

  pub mark_off : (r : Refusal) (n : Cursor) → valued held_of (sleb_at s c) ≡ refused r n → every exact (and_next signed (leb_bytes s c) more) ≡ true
  unfolding sleb_at
  mark_off r n e =
      let w = valued_refused sleb_of (leb_bytes s c) r n (valued_refused held_of (sleb_at s c) r n e) in
      ap (λ (o : Outcome (List ℕ)). every exact (and_next signed o more)) w ∙ every_none exact

-- one number
module _ (s : List ℕ) (c : Cursor) where
  pub mark_last : (b : Held) (n : Cursor) → valued held_of (sleb_at s c) ≡ got b n → every exact (and_next signed (leb_bytes s c) no_more) ≡ b.exact
  mark_last b n e = mark_on s c no_more b n e ∙ ap (λ (x : Bool). b.exact && x) (every_none exact) ∙ and_true b.exact
