-- Bytes copied: one by one, and in eights of which the last may be stored over some that are there.
use Prim.Native.Nat.{ℕ, suc, ◌+◌, ◌-◌, ◌≤◌, ◌<◌}
use mathlib.Core.Path.{◌≡◌, refl, sym, ap, ◌∙◌}
use mathlib.Core.List.{List, [], ◌∷◌, ◌++◌, append-nil}
use native.Mathlib.Nat.{zero-add}
use native.Mathlib.Omega.{arith}
use lib.ListN.{length, get_or, set, take, drop, length-drop, drop_of_length-le}
use lib.Seq.{sets, sets-eq, length-take-le, take-add, take_all, drop-cons, drop-drop, set-set, set_comm}
use borrow.Rule.Slice.PartMut.{put_mid}
use Rattle.hbc_rows.proofs.Words.{sets_append, copied}

-- i elements of s from a place on were stored from there on
pub record Copied (s before : List ℕ) (at i : ℕ) (d : List ℕ) : Type 0 where
  pub counted : at + i ≤ length s
  pub is : d ≡ sets before at (take i (drop at s))

pub copy_first : (s before : List ℕ) (at : ℕ) → at ≤ length s → Copied s before at 0 before
copy_first s before at h = record { counted = omega arith; is = refl }

module _ (s before : List ℕ) (at i : ℕ) {d : List ℕ} (c : Copied s before at i d) where
  -- the next k of them
  pub copy_next : (k : ℕ) {j : ℕ} {x : List ℕ} → j ≡ at + i → j + k ≤ length s → x ≡ sets d j (take k (drop j s)) → Copied s before at (i + k) x
  copy_next k {j} p h e =
      let m : length (take i (drop at s)) ≡ i = length-take-le i (drop at s) (rw (length-drop at s) (omega arith)) in
      let q : sets before at (take (i + k) (drop at s)) ≡ sets (sets before at (take i (drop at s))) j (take k (drop j s)) =
      ap (λ (x : List ℕ). sets before at x) (take-add i k (drop at s))
      ∙ sets_append (take i (drop at s)) (take k (drop i (drop at s))) before at
      ∙ rw (m, drop-drop i at s, p) in
      record { counted = omega arith; is = e ∙ rw (c.is, q) }

  -- one
  pub copy_one : {j : ℕ} → j ≡ at + i → j < length s → Copied s before at (i + 1) (set d j (get_or s j 0))
  copy_one {j} p h = copy_next 1 p (omega arith) (sym (rw (drop-cons s j 0 h)))

-- ---- stored over what is there

set_below : (vs m : List ℕ) (i k b : ℕ) → k < i → set (sets m i vs) k b ≡ sets (set m k b) i vs
set_below [] m i k b h = refl
set_below (a ∷ vs) m i k b h =
    set_below vs (set m i a) (suc i) k b (omega arith) ∙ ap (λ (l : List ℕ). sets l (suc i) vs) (set_comm m i k a b (λ e. omega arith))

sets_over : (vs ws l : List ℕ) (i : ℕ) → length vs ≤ length ws → sets (sets l i vs) i ws ≡ sets l i ws
sets_over [] ws l i h = refl
sets_over (a ∷ vs) [] l i h = absurd (omega arith)
sets_over (a ∷ vs) (b ∷ ws) l i h =
    ap (λ (m : List ℕ). sets m (suc i) ws) (set_below vs (set l i a) (suc i) i b (omega arith) ∙ ap (λ (m : List ℕ). sets m (suc i) vs) (set-set l i a b))
    ∙ sets_over vs ws (set l i b) (suc i) (omega arith)

-- stored over all
sets_whole : (vs before : List ℕ) → length before ≡ length vs → sets before 0 vs ≡ vs
sets_whole vs before e =
    let k : length before ≤ 0 + length vs = omega arith in
    sets-eq vs before 0 (omega arith) ∙ ap (λ (u : List ℕ). vs ++ u) (drop_of_length-le before k) ∙ append-nil vs

module _ (s before : List ℕ) (i : ℕ) {d : List ℕ} (c : Copied s before 0 i d) (w : length before ≡ length s) where
  pub copy_end : length s ≤ i → d ≡ s
  copy_end h =
      let e : i ≡ length s = omega (arith, c.counted) in
      let t : d ≡ sets before 0 (take (length s) s) = rw (← e) c.is in
      t ∙ ap (λ (x : List ℕ). sets before 0 x) (take_all (length s) s (omega arith)) ∙ sets_whole s before w

  -- the last k, of which some were there
  pub copy_last : (last k : ℕ) {x : List ℕ} → last ≤ i → length s ≡ last + k → x ≡ sets d last (take k (drop last s)) → x ≡ s
  copy_last last k {x} h m e =
      let u : 0 + i ≤ length s = c.counted in
      let j : i ≡ last + (i - last) = omega arith in
      let f : length (take last s) ≡ last = length-take-le last s (omega arith) in
      let v : length (drop last s) ≡ length s - last = length-drop last s in
      let p : length (take (i - last) (drop last s)) ≡ i - last = length-take-le (i - last) (drop last s) (omega arith) in
      let q : length (take k (drop last s)) ≡ k = length-take-le k (drop last s) (omega arith) in
      let b : List ℕ = sets before 0 (take last s) in
      let y : d ≡ sets b last (take (i - last) (drop last s)) =
      c.is ∙ ap (λ (z : ℕ). sets before 0 (take z s)) j ∙ ap (λ (z : List ℕ). sets before 0 z) (take-add last (i - last) s)
      ∙ sets_append (take last s) (take (i - last) (drop last s)) before 0 ∙ rw (f, zero-add last) in
      let g : s ≡ take last s ++ take k (drop last s) = sym (take_all (length s) s (omega arith)) ∙ ap (λ (z : ℕ). take z s) m ∙ take-add last k s in
      let r : sets before 0 s ≡ sets b last (take k (drop last s)) =
      ap (λ (z : List ℕ). sets before 0 z) g ∙ sets_append (take last s) (take k (drop last s)) before 0 ∙ rw (f, zero-add last) in
      e ∙ rw y (sets_over (take (i - last) (drop last s)) (take k (drop last s)) b last (omega arith)) ∙ sym r ∙ sets_whole s before w

-- ---- a part, all of it

module _ (s d : List ℕ) (at e n : ℕ) (h : at ≤ e) (l : e ≤ length s) (r : n + (e - at) ≤ length d) where
  part_length : length (take (e - at) (drop at s)) ≡ e - at
  part_length = length-take-le (e - at) (drop at s) (rw (length-drop at s) (omega arith))

  pub part_copied : {p : List ℕ} → p ≡ take (e - at) (drop at s) → put_mid n (n + (e - at) - n) d p ≡ sets d n (take (e - at) (drop at s))
  part_copied q =
      let w : n + (e - at) ≡ n + length (take (e - at) (drop at s)) = omega (arith, part_length) in
      rw (q, w) (copied d (take (e - at) (drop at s)) n (omega (arith, part_length)))
