-- The ways out of a call that writes a text, whatever the text.
use Prim.Native.Nat.{ℕ, ◌≤◌, ◌<◌}
use mathlib.Core.Path.{◌≡◌, refl, sym, ap, ◌∙◌}
use mathlib.Core.Logic.{◌⊎◌, inl, inr}
use mathlib.Core.List.{List}
use lib.ListN.{length}
use lib.Dec.{leb}
use borrow.Author.Tests.{le-leb, lt-leb}
use Rattle.std.specs.Prelude.{Result, Ok, Err}
use Rattle.std.specs.Result.{is_ok}
use Rattle.hbc_io.specs.declared.Refusal.{Refusal}
use Rattle.hbc_io.specs.Outcome.{limit, refusal_at}
use Rattle.hbc_io.specs.Answer.{Answer, gives, refuses}
use Rattle.hbc_io.proofs.Exits.{stop, past, given, is_below, not_below, reached, not_given}
use Rattle.hbc_io.specs.Answers.{answered}
use Rattle.hbc_text_forms.specs.Text.{over, text_answer, put_answer, PutText}
use Rattle.hbc_text_forms.proofs.Codes.{split}

-- ---- the room's test, which comes last

-- a length that is answered is the text's, and has room
pub length_given : (text : List ℕ) (room n : ℕ) → text_answer text room ≡ gives n → (length text ≤ room) × (n ≡ length text)
unfolding text_answer
length_given text room n e = let p = reached _ _ _ _ not_given e in (p.0, same p.1)
  where
    same : gives (length text) ≡ gives n → n ≡ length text
    same q = cc

pub room_for : (text : List ℕ) (room : ℕ) → length text ≤ room → gives (length text) ≡ text_answer text room
unfolding text_answer
room_for text room h = not_below _ _ _ _ h refl

pub room_short : (text : List ℕ) (room : ℕ) → room < length text → refuses (refusal_at 4 0) ≡ text_answer text room
unfolding text_answer
room_short text room h = is_below _ _ _ _ h refl

-- one that is refused has none
refused_at : (text : List ℕ) (room : ℕ) {k : Refusal} → text_answer text room ≡ refuses k → (room < length text) ⊎ (length text ≤ room) → room < length text
refused_at text room e (inl h) = h
refused_at text room e (inr h) = absurd (not_given (sym e ∙ sym (room_for text room h)))

pub unanswered : (text : List ℕ) (room : ℕ) {k : Refusal} → text_answer text room ≡ refuses k → room < length text
unanswered text room e = refused_at text room e (split room (length text))

-- what an answer says, as it was found
pub as_given : (text : List ℕ) (room : ℕ) {r : Result ℕ Refusal} {n : ℕ} → answered r ≡ text_answer text room → r ≡ Ok n → (length text ≤ room) × (n ≡ length text)
as_given text room {n = n} e q = length_given text room n (sym e ∙ ap answered q)

pub as_refused : (text : List ℕ) (room : ℕ) {r : Result ℕ Refusal} {k : Refusal} → answered r ≡ text_answer text room → r ≡ Err k → (room < length text) × (k ≡ refusal_at 4 0)
as_refused text room {k = k} e q =
    let h = unanswered text room (sym e ∙ ap answered q) in
    (h, same (sym (ap answered q) ∙ e ∙ sym (room_short text room h)))
  where
    same : ◌≡◌ {A = Answer ℕ} (refuses k) (refuses (refusal_at 4 0)) → k ≡ refusal_at 4 0
    same z = cc

-- an answer is a length just where there is room
pub fits : (text : List ℕ) (room : ℕ) (r : Result ℕ Refusal) → answered r ≡ text_answer text room → is_ok r ≡ leb (length text) room
fits text room (Ok n) e = sym (le-leb (length text) room (length_given text room n (sym e)).0)
fits text room (Err k) e = sym (lt-leb (length text) room (unanswered text room (sym e)))

-- a text that is only measured
module _ (text : List ℕ) (room : ℕ) where
  pub has_length : {n : ℕ} → n ≡ length text → length text ≤ room → answered (Ok n) ≡ text_answer text room
  has_length e h = ap gives e ∙ room_for text room h

  pub has_no_room : {r : Refusal} → room < length text → r ≡ refusal_at 4 0 → answered (Err r) ≡ text_answer text room
  has_no_room h e = ap refuses e ∙ room_short text room h

  -- of bytes, which are tested before
  pub of_bytes : (s : List ℕ) {o : Answer ℕ} → length s ≤ limit → o ≡ text_answer text room → o ≡ put_answer text s room
  unfolding put_answer
  of_bytes s h e = not_below _ _ _ _ h e

  pub of_many : (s : List ℕ) {r : Refusal} → limit < length s → r ≡ refusal_at 1 0 → answered (Err r) ≡ put_answer text s room
  unfolding put_answer
  of_many s h e = ap refuses e ∙ is_below _ _ _ _ h refl

-- ---- a text that is written

module _ (text s before : List ℕ) where
  pub is_long : {r : Refusal} → limit < length s → r ≡ refusal_at 1 0 → PutText text s before (Err r) before
  unfolding put_answer
  is_long h e = stop _ _ _ _ h refl (ap refuses e)

  module _ (l : length s ≤ limit) where
    pub is_small : {r : Refusal} → length before < length text → r ≡ refusal_at 4 0 → PutText text s before (Err r) before
    unfolding put_answer text_answer
    is_small h e = past _ _ _ _ l (stop _ _ _ _ h refl (ap refuses e))

    pub is_put : {n : ℕ} {after : List ℕ} → length text ≤ length before → n ≡ length text → after ≡ over text before → PutText text s before (Ok n) after
    unfolding put_answer text_answer
    is_put h e a = past _ _ _ _ l (past _ _ _ _ h (given refl (ap gives e) a))
