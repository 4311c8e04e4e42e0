-- What the call answers and leaves: one law for each way out.
use Prim.Native.Nat.{ℕ, ◌%◌, ◌≤◌, ◌<◌}
use mathlib.Core.Path.{◌≡◌, refl, sym, ◌∙◌}
use mathlib.Core.List.{List, []}
use mathlib.Core.Bool.{Bool, true, false}
use native.Mathlib.Omega.{arith}
use lib.ListN.{length}
use lib.Dec.{leb}
use borrow.Author.Tests.{ne_eqb, leb-true, leb-false}
use Rattle.std.specs.Prelude.{Ok, Err}
use Rattle.hbc_io.specs.declared.Refusal.{Refusal}
use Rattle.hbc_io.specs.Outcome.{limit, refusal_at}
use Rattle.hbc_io.specs.Answers.{answered}
use Rattle.hbc_text_forms.specs.Utf16.{utf16_text}
use Rattle.hbc_text_forms.specs.Text.{over, put_answer, PutText}
use Rattle.hbc_text_forms.proofs.Wide.{even}
use Rattle.hbc_text_forms.proofs.Exits.{has_length, has_no_room, of_bytes, of_many, is_long, is_small, is_put}
use Rattle.hbc_text_utf16.specs.Private.{text_of}

text_even : (s : List ℕ) → length s % 2 ≡ 0 → utf16_text s ≡ text_of s
unfolding text_of
text_even s e = even s e

text_odd : (s : List ℕ) → (length s % 2 ≡ 0 → ⊥) → utf16_text s ≡ []
unfolding utf16_text
text_odd s n = rw (ne_eqb _ _ n)

-- ---- of the UTF-16 text, measured

pub length_long : (s : List ℕ) (room : ℕ) {r : Refusal} → limit < length s → r ≡ refusal_at 1 0 → answered (Err r) ≡ put_answer (utf16_text s) s room
length_long s room = of_many (utf16_text s) room s

module _ (s : List ℕ) (room : ℕ) (l : length s ≤ limit) where
  pub length_odd : (length s % 2 ≡ 0 → ⊥) → answered (Ok 0) ≡ put_answer (utf16_text s) s room
  length_odd n = of_bytes (utf16_text s) room s l (rw (text_odd s n) (has_length [] room refl (omega arith)))

  module _ (e : length s % 2 ≡ 0) (n : ℕ) (q : n ≡ length (text_of s)) where
    pub length_small : room < n → {r : Refusal} → r ≡ refusal_at 4 0 → answered (Err r) ≡ put_answer (utf16_text s) s room
    length_small h k = of_bytes (utf16_text s) room s l (rw (text_even s e) (has_no_room (text_of s) room (rw q at h) k))

    pub length_is : n ≤ room → answered (Ok n) ≡ put_answer (utf16_text s) s room
    length_is h = of_bytes (utf16_text s) room s l (rw (text_even s e) (has_length (text_of s) room q (rw q at h)))

-- ---- and written

module _ (s before : List ℕ) where
  pub wide_long : {r : Refusal} → limit < length s → r ≡ refusal_at 1 0 → PutText (utf16_text s) s before (Err r) before
  wide_long = is_long (utf16_text s) s before

  -- an odd number of bytes: nothing is written
  pub wide_odd : length s ≤ limit → (length s % 2 ≡ 0 → ⊥) → PutText (utf16_text s) s before (Ok 0) before
  unfolding over
  wide_odd l n = rw (text_odd s n) (is_put [] s before l (omega arith) refl refl)

  module _ (e : length s % 2 ≡ 0) {w : Bool} (t : w ≡ leb (length (text_of s)) (length before)) where
    pub wide_room : w ≡ true → length (text_of s) ≤ length before
    wide_room h = leb-true _ _ (sym t ∙ h)

    pub wide_put : length s ≤ limit → w ≡ true → {n : ℕ} {after : List ℕ} → n ≡ length (text_of s) → after ≡ over (text_of s) before → PutText (utf16_text s) s before (Ok n) after
    wide_put l h m a = rw (text_even s e) (is_put (text_of s) s before l (wide_room h) m a)

    pub wide_small : length s ≤ limit → w ≡ false → {r : Refusal} → r ≡ refusal_at 4 0 → PutText (utf16_text s) s before (Err r) before
    wide_small l h q = rw (text_even s e) (is_small (text_of s) s before l (leb-false _ _ (sym t ∙ h)) q)
