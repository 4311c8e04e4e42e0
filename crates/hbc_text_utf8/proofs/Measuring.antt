-- The text's length counted, run by run and part by part.
use Prim.Native.Nat.{ℕ, ◌+◌, ◌-◌, ◌/◌, ◌≤◌, ◌<◌}
use mathlib.Core.Path.{◌≡◌, sym, ap, ◌∙◌}
use mathlib.Core.List.{List}
use mathlib.Core.Bool.{Bool, true, false}
use native.Mathlib.Omega.{arith}
use lib.ListN.{length, take, drop, length-append, length-drop, drop_of_length-le}
use lib.Dec.{leb}
use lib.Seq.{length-take-le}
use borrow.Author.Tests.{le-leb, leb-true, leb-false}
use Rattle.hbc_text_forms.specs.Utf8.{replacement, utf8_text}
use Rattle.hbc_text_forms.proofs.Laws.{text_nil}
use Rattle.hbc_text_forms.proofs.Bounds.{text_length}
use Rattle.hbc_text_forms.proofs.Counting.{Counting, count_none, count_all, count_more, count_long}
use Rattle.hbc_text_utf8.specs.Private.{part_at, Ill, Kept, Run}
use Rattle.hbc_text_utf8.proofs.Steps.{text_ill}

-- the lengths of a run and of a part that is no character
pub run_length : (s : List ℕ) (at e : ℕ) → Kept s at e → length (utf8_text (drop at s)) ≡ (e - at) + length (utf8_text (drop e s))
run_length s at e p =
    let k : e - at ≤ length (drop at s) = rw (length-drop at s) (omega (arith, p.inside)) in
    ap length p.same ∙ length-append (take (e - at) (drop at s)) (utf8_text (drop e s)) ∙ rw (length-take-le (e - at) (drop at s) k)

pub ill_length : (s : List ℕ) (at : ℕ) → at < length s → Ill s at → length (utf8_text (drop at s)) ≡ 3 + length (utf8_text (drop (at + part_at s at) s))
ill_length s at h i = ap length (text_ill s at h i) ∙ length-append replacement (utf8_text (drop (at + part_at s at) s))

-- n bytes of text are counted for the bytes below a place, where no character begins
pub record Measuring (s : List ℕ) (room e n : ℕ) : Type 0 where
  pub inside : e ≤ length s
  pub ends : e < length s → Ill s e
  pub counting : Counting (length (utf8_text s)) room n (length (utf8_text (drop e s)))

module _ (s : List ℕ) (room first : ℕ) (p : Run s 0 first) where
  first_length : length (utf8_text s) ≡ first + length (utf8_text (drop first s))
  first_length = let z : first - 0 ≡ first = omega arith in rw z at (run_length s 0 first p.kept)

  pub measure_first : first ≤ room → Measuring s room first first
  measure_first h = record { inside = p.kept.inside; ends = p.ends; counting = record { fits = h; sum = sym first_length } }

  pub long_first : room < first → room < length (utf8_text s)
  long_first h = count_long (count_none (length (utf8_text s)) room) first _ first_length (omega arith)

module _ (s : List ℕ) (room e n : ℕ) (m : Measuring s room e n) where
  pub measure_end : length s ≤ e → (n ≡ length (utf8_text s)) × (length (utf8_text s) ≤ room)
  measure_end h = count_all m.counting (rw (drop_of_length-le s h, text_nil))

  -- a part, and the run after it
  module _ (p f : ℕ) (h : e < length s) (q : p ≡ part_at s e) (r : Run s (e + p) f) where
    both_length : length (utf8_text (drop e s)) ≡ 3 + (f - (e + p)) + length (utf8_text (drop f s))
    both_length =
        let x : length (utf8_text (drop e s)) ≡ 3 + length (utf8_text (drop (e + p) s)) = rw q (ill_length s e h (m.ends h)) in
        omega (arith, x, run_length s (e + p) f r.kept)

    pub measure_more : 3 + (f - (e + p)) ≤ room - n → Measuring s room f (n + (3 + (f - (e + p))))
    measure_more l = record { inside = r.kept.inside; ends = r.ends; counting = count_more m.counting _ _ both_length l }

    pub long_more : room - n < 3 + (f - (e + p)) → room < length (utf8_text s)
    long_more l = count_long m.counting _ _ both_length l

-- room for any text
pub room_for_any : (s : List ℕ) (room : ℕ) → length s ≤ room / 3 → true ≡ leb (length (utf8_text s)) room
room_for_any s room h = sym (le-leb (length (utf8_text s)) room (omega (arith, text_length s)))

-- what the test of the room says
pub room_is : (s : List ℕ) (room : ℕ) {w : Bool} → w ≡ leb (length (utf8_text s)) room → w ≡ true → length (utf8_text s) ≤ room
room_is s room e h = leb-true (length (utf8_text s)) room (sym e ∙ h)

pub room_less : (s : List ℕ) (room : ℕ) {w : Bool} → w ≡ leb (length (utf8_text s)) room → w ≡ false → room < length (utf8_text s)
room_less s room e h = leb-false (length (utf8_text s)) room (sym e ∙ h)
