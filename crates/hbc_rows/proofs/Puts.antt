-- What stands in a list after bytes were put into it, and values put one after another.
use Prim.Native.Nat.{ℕ, ◌+◌, ◌-◌, ◌^◌, ◌≤◌, ◌<◌}
use mathlib.Core.Path.{◌≡◌, refl, sym, ap, ◌∙◌}
use mathlib.Core.List.{List, [], ◌∷◌, ◌++◌, append_assoc}
use native.Mathlib.Omega.{arith}
use lib.ListN.{length, take, drop, get_or, length-append, length-drop, take-append-drop}
use lib.Seq.{length-sets, sets-eq, length-take-le, take-append_seam, drop-append_seam, take-append-le, drop-append-le, drop-append-add, drop-drop, take-take, take-add, drop_at}
use Rattle.hbc_bits.specs.Bits.{little_endian, le_at}
use Rattle.hbc_bits.specs.Fields.{bytes_of}
use Rattle.hbc_bits.proofs.Fields.{bytes_length, bytes_number}
use Rattle.hbc_rows.specs.Rows.{put}
use Rattle.hbc_rows.proofs.RowsAt.{sets_other}
use Rattle.hbc_rows.proofs.Words.{sets_append}

module _ (at : ℕ) (bs s : List ℕ) where
  pub put_length : length (put at bs s) ≡ length s
  unfolding put
  put_length = length-sets s at bs

  -- a byte of another place is as it was
  pub put_other : (j : ℕ) → (at ≤ j → j < at + length bs → ⊥) → get_or (put at bs s) j 0 ≡ get_or s j 0
  unfolding put
  put_other j n = sets_other bs s at j n

pub put_none : (at : ℕ) (s : List ℕ) → put at [] s ≡ s
unfolding put
put_none at s = refl

-- some, and then more of them
pub put_then : (at : ℕ) (xs bs s : List ℕ) → put (at + length xs) bs (put at xs s) ≡ put at (xs ++ bs) s
unfolding put
put_then at xs bs s = sym (sets_append xs bs s at)

-- ---- where there is room

part_left : (p q : List ℕ) (at n : ℕ) → at + n ≤ length p → take n (drop at (p ++ q)) ≡ take n (drop at p)
part_left p q at n h = rw (drop-append-le at p q (omega arith), take-append-le n (drop at p) q (simp length-drop (omega arith)))

module _ (at : ℕ) (bs s : List ℕ) (room : at + length bs ≤ length s) where
  put_is : put at bs s ≡ take at s ++ (bs ++ drop (at + length bs) s)
  unfolding put
  put_is = sets-eq bs s at room ∙ append_assoc (take at s) bs (drop (at + length bs) s)

  -- before the place all is as it was, and after the bytes
  before : (b n : ℕ) → b + n ≤ at → take n (drop b (put at bs s)) ≡ take n (drop b s)
  before b n l =
      let e : length (take at s) ≡ at = length-take-le at s (omega arith) in
      let k : b + n ≤ length (take at s) = omega arith in
      ap (λ (x : List ℕ). take n (drop b x)) put_is ∙ part_left (take at s) (bs ++ drop (at + length bs) s) b n k ∙ sym (part_left (take at s) (drop at s) b n k)
      ∙ ap (λ (x : List ℕ). take n (drop b x)) (take-append-drop at s)

  after_by : (d : ℕ) → drop (at + length bs + d) (put at bs s) ≡ drop (at + length bs + d) s
  after_by d =
      let e : length (take at s ++ bs) ≡ at + length bs = simp (length-append, length-take-le at s (omega arith)) in
      let p : drop (length (take at s ++ bs) + d) ((take at s ++ bs) ++ drop (at + length bs) s) ≡ drop d (drop (at + length bs) s) =
      drop-append-add (take at s ++ bs) (drop (at + length bs) s) d in
      rw put_is (rw (e, append_assoc, drop-drop) at p)

  after : (b : ℕ) → at + length bs ≤ b → drop b (put at bs s) ≡ drop b s
  after b l = let e : at + length bs + (b - (at + length bs)) ≡ b = omega arith in rw e at (after_by (b - (at + length bs)))

-- bs stands in s at a place
pub record Stands (s : List ℕ) (at : ℕ) (bs : List ℕ) : Type 0 where
  pub is : take (length bs) (drop at s) ≡ bs

pub put_stands : (at : ℕ) (bs s : List ℕ) → at + length bs ≤ length s → Stands (put at bs s) at bs
put_stands at bs s h =
    record {
      is =
          rw (put_is at bs s h, drop_at (take at s) (bs ++ drop (at + length bs) s) at (length-take-le at s (omega arith)), take-append_seam bs (drop (at + length bs) s));
    }

module _ {s : List ℕ} {b : ℕ} {cs : List ℕ} (v : Stands s b cs) (at : ℕ) (bs : List ℕ) (room : at + length bs ≤ length s) where
  -- what stands before the place, or after the bytes, stands there still
  pub stands_before : b + length cs ≤ at → Stands (put at bs s) b cs
  stands_before l = record { is = before at bs s room b (length cs) l ∙ v.is }

  pub stands_after : at + length bs ≤ b → Stands (put at bs s) b cs
  stands_after l = record { is = ap (take (length cs)) (after at bs s room b l) ∙ v.is }

-- ---- numbers that stand somewhere

module _ {s : List ℕ} {at : ℕ} where
  stands_number : {bs : List ℕ} → Stands s at bs → le_at s at (length bs) ≡ little_endian bs
  unfolding le_at
  stands_number v = ap little_endian v.is

  -- the number whose bytes stand there
  pub stands_le : (n x : ℕ) → Stands s at (bytes_of n x) → x < 256 ^ n → le_at s at n ≡ x
  stands_le n x v h =
      let e : le_at s at n ≡ little_endian (bytes_of n x) = rw (bytes_length n x) at (stands_number v) in
      e ∙ bytes_number n x h

  pub stands_first : (ds bs : List ℕ) → Stands s at (ds ++ bs) → Stands s at ds
  stands_first ds bs v =
      let e : take (length ds) (take (length (ds ++ bs)) (drop at s)) ≡ take (length ds) (ds ++ bs) = ap (take (length ds)) v.is in
      let k : length ds ≤ length (ds ++ bs) = simp length-append (omega arith) in
      record { is = rw (take-take (length ds) (length (ds ++ bs)) (drop at s) k, take-append_seam ds bs) at e }

  pub stands_then : (ds bs : List ℕ) → Stands s at (ds ++ bs) → Stands s (at + length ds) bs
  stands_then ds bs v =
      let a : take (length ds) (drop at s) ≡ ds = (stands_first ds bs v).is in
      let e : take (length ds + length bs) (drop at s) ≡ ds ++ bs = rw length-append at v.is in
      let f : drop (length ds) (take (length ds) (drop at s) ++ take (length bs) (drop (length ds) (drop at s))) ≡ drop (length ds) (ds ++ bs) =
      ap (drop (length ds)) (sym (take-add (length ds) (length bs) (drop at s)) ∙ e) in
      record { is = rw (drop_at (take (length ds) (drop at s)) (take (length bs) (drop (length ds) (drop at s))) (length ds) (ap length a), drop-append_seam ds bs, drop-drop) at f }

-- ---- values put one after another

-- each value put d bytes after a place, d growing by its size
abbrev pub puts : List ℕ → List ℕ → ℕ → ℕ → List ℕ → List ℕ
puts [] vs at d s = s
puts (n ∷ ns) [] at d s = s
puts (n ∷ ns) (v ∷ vs) at d s = puts ns vs at (d + n) (put (at + d) (bytes_of n v) s)
