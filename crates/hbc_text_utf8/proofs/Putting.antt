-- The text written, run by run and part by part.
use Prim.Native.Nat.{ℕ, ◌+◌, ◌-◌, ◌≤◌, ◌<◌}
use mathlib.Core.Path.{◌≡◌, sym, ap, ◌∙◌}
use mathlib.Core.List.{List, []}
use native.Mathlib.Omega.{arith}
use lib.ListN.{length, take, drop, length-drop, drop_of_length-le}
use lib.Seq.{sets, length-take-le}
use Rattle.hbc_text_forms.specs.Utf8.{replacement, utf8_text}
use Rattle.hbc_text_forms.specs.Text.{over}
use Rattle.hbc_text_forms.proofs.Laws.{text_nil}
use Rattle.hbc_text_forms.proofs.Writing.{Writing, write_first, write_more, write_end, write_length, write_room}
use Rattle.hbc_text_utf8.specs.Private.{part_at, Ill, Kept, Run}
use Rattle.hbc_text_utf8.proofs.Steps.{part_in, text_ill}
use Rattle.hbc_text_utf8.proofs.Measuring.{run_length, ill_length}

-- the text of the bytes below a place stands in front
pub record Put (s before : List ℕ) (at n : ℕ) (d : List ℕ) : Type 0 where
  pub inside : at ≤ length s
  pub writing : Writing (utf8_text s) before n (utf8_text (drop at s)) d

module _ (s before : List ℕ) (at n : ℕ) {d : List ℕ} (p : Put s before at n d) where
  pub put_length : length d ≡ length before
  put_length = write_length (utf8_text s) before n p.writing

  -- at the end it is the whole text
  pub put_end : length s ≤ at → (n ≡ length (utf8_text s)) × (d ≡ over (utf8_text s) before)
  put_end h =
      let e : utf8_text (drop at s) ≡ [] = rw (drop_of_length-le s h) text_nil in
      let w : Writing (utf8_text s) before n [] d = rw e at p.writing in
      let l : length (utf8_text s) - n ≡ 0 = sym (length-drop n (utf8_text s)) ∙ ap length w.left in
      (omega (arith, w.counted), write_end (utf8_text s) before n w)

  module _ (e : ℕ) (q : Kept s at e) where
    pub run_room : n + (e - at) ≤ length d
    run_room = omega (arith, write_room (utf8_text s) before n p.writing, run_length s at e q)

    pub put_run : {x : List ℕ} → x ≡ sets d n (take (e - at) (drop at s)) → Put s before e (n + (e - at)) x
    put_run eq =
        let k : e - at ≤ length (drop at s) = rw (length-drop at s) (omega (arith, q.inside)) in
        let l : length (take (e - at) (drop at s)) ≡ e - at = length-take-le (e - at) (drop at s) k in
        let w : Writing (utf8_text s) before (n + length (take (e - at) (drop at s))) (utf8_text (drop e s)) (sets d n (take (e - at) (drop at s))) =
        write_more (utf8_text s) before n (take (e - at) (drop at s)) (rw q.same at p.writing) in
        record { inside = q.inside; writing = rw eq (rw l at w) }

  module _ (h : at < length s) (i : Ill s at) where
    pub ill_room : n + 3 ≤ length d
    ill_room = omega (arith, write_room (utf8_text s) before n p.writing, ill_length s at h i)

    pub put_ill : {x : List ℕ} {k : ℕ} → k ≡ part_at s at → x ≡ sets d n replacement → Put s before (at + k) (n + 3) x
    put_ill q eq =
        record {
          inside = rw q (part_in s at h).1;
          writing = rw (eq, q) (write_more (utf8_text s) before n replacement (rw (text_ill s at h i) at p.writing));
        }

-- what the loop keeps: so far the text of the bytes below at, and the characters from there on end at e
pub record Putting (s before : List ℕ) (at e n : ℕ) (d : List ℕ) : Type 0 where
  pub put : Put s before at n d
  pub run : Run s at e

pub put_first : (s before : List ℕ) (first : ℕ) → Run s 0 first → length (utf8_text s) ≤ length before → Putting s before 0 first 0 before
put_first s before first r h = record { put = record { inside = omega arith; writing = write_first (utf8_text s) before h }; run = r }
