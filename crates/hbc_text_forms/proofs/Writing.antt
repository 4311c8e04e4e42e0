-- A text written into what is lent, run by run.
use Prim.Native.Nat.{ℕ, ◌+◌, ◌-◌, ◌≤◌}
use mathlib.Core.Path.{◌≡◌, refl, sym, ap, ◌∙◌}
use mathlib.Core.List.{List, [], ◌++◌}
use native.Mathlib.Omega.{arith}
use lib.ListN.{length, take, drop, length-append, length-drop}
use lib.Seq.{sets, sets-eq, length-take-le, take-add, take_at, drop-append-add, drop-drop, take-length, take-append_seam, drop-append_seam}
use Rattle.hbc_text_forms.specs.Text.{over}

-- of the text t, all but rest stands in front of what was lent
pub record Writing (t before : List ℕ) (n : ℕ) (rest d : List ℕ) : Type 0 where
  pub room : length t ≤ length before
  pub counted : n ≤ length t
  pub so_far : d ≡ take n t ++ drop n before
  pub left : drop n t ≡ rest

pub write_first : (t before : List ℕ) → length t ≤ length before → Writing t before 0 t before
write_first t before h = record { room = h; counted = omega arith; so_far = refl; left = refl }

module _ (t before : List ℕ) (n : ℕ) where
  -- nothing is left
  pub write_all : {d : List ℕ} → Writing t before n [] d → n ≡ length t
  write_all w =
      let e : length t - n ≡ 0 = sym (length-drop n t) ∙ ap length w.left in
      omega (arith, w.counted)

  pub write_end : {d : List ℕ} → Writing t before n [] d → d ≡ over t before
  unfolding over
  write_end w = w.so_far ∙ rw (write_all w, take-length t)

  -- its length stays, and what is left fits behind what was written
  pub write_length : {rest d : List ℕ} → Writing t before n rest d → length d ≡ length before
  write_length {rest} {d} w =
      ap length w.so_far ∙ length-append (take n t) (drop n before)
      ∙ rw (length-take-le n t w.counted, length-drop n before) (omega (arith, w.counted, w.room))

  pub write_room : {rest d : List ℕ} → Writing t before n rest d → n + length rest ≤ length d
  write_room {rest} {d} w =
      let e : length t - n ≡ length rest = sym (length-drop n t) ∙ ap length w.left in
      omega (arith, write_length w, w.counted, w.room)

  -- the next of it is stored
  pub write_more : (vs : List ℕ) {rest d : List ℕ} → Writing t before n (vs ++ rest) d → Writing t before (n + length vs) rest (sets d n vs)
  write_more vs {rest} {d} w =
      let l : length t - n ≡ length vs + length rest = sym (length-drop n t) ∙ ap length w.left ∙ length-append vs rest in
      let m : length (take n t) ≡ n = length-take-le n t w.counted in
      let r : n + length vs ≤ length d = omega (arith, write_room w, length-append vs rest) in
      let a : take n d ≡ take n t = ap (λ (x : List ℕ). take n x) w.so_far ∙ take_at (take n t) (drop n before) n m in
      let b : drop (n + length vs) d ≡ drop (n + length vs) before =
      ap (λ (x : List ℕ). drop (n + length vs) x) w.so_far
      ∙ ap (λ (k : ℕ). drop (k + length vs) (take n t ++ drop n before)) (sym m)
      ∙ drop-append-add (take n t) (drop n before) (length vs)
      ∙ drop-drop (length vs) n before in
      let f : take (n + length vs) t ≡ take n t ++ vs =
      take-add n (length vs) t ∙ rw (w.left, take-append_seam vs rest) in
      record {
        room = w.room;
        counted = omega (arith, w.counted);
        so_far = sets-eq vs d n r ∙ rw (a, b, f);
        left = sym (drop-drop (length vs) n t) ∙ rw w.left (drop-append_seam vs rest);
      }
