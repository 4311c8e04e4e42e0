-- What follows from the promise of a call that writes a text, whatever it tests before the room.
use Prim.Native.Nat.{ℕ, ◌≤◌, ◌<◌}
use mathlib.Core.Path.{◌≡◌, refl, sym, ap, ◌∙◌}
use mathlib.Core.List.{List}
use native.Mathlib.Omega.{arith}
use lib.ListN.{length, take, drop, length-append, length-drop}
use lib.Seq.{take-append_seam, drop-append_seam}
use Rattle.std.specs.Prelude.{Result, Ok, Err}
use Rattle.hbc_io.specs.Outcome.{limit, refusal_at}
use Rattle.hbc_io.specs.Answer.{Answer, gives, refuses}
use Rattle.hbc_io.specs.Lends.{Lends}
use Rattle.hbc_io.proofs.Exits.{is_below, reached, not_given}
use Rattle.hbc_text_forms.specs.Text.{text_answer, over, put_answer, PutText}
use Rattle.hbc_io.proofs.Alone.{one_answer}
use Rattle.hbc_io.specs.Answers.{answered}
use Rattle.hbc_io.specs.declared.Refusal.{Refusal}
use Rattle.hbc_text_forms.proofs.Exits.{length_given, room_for, room_short, of_bytes}
use Rattle.hbc_claims_text.specs.Put.{Wrote, Puts}

-- ---- what is lent, with the text over it

over_length : (text before : List ℕ) → length text ≤ length before → length (over text before) ≡ length before
unfolding over
over_length text before h = length-append text (drop (length text) before) ∙ rw (length-drop (length text) before) (omega arith)

over_front : (text before : List ℕ) → take (length text) (over text before) ≡ text
unfolding over
over_front text before = take-append_seam text (drop (length text) before)

over_behind : (text before : List ℕ) → drop (length text) (over text before) ≡ drop (length text) before
unfolding over
over_behind text before = drop-append_seam text (drop (length text) before)

-- ---- what the promise leaves, of any answer that is a length only where the room's test gives it

pub wrote : (text before : List ℕ) {o : Answer ℕ} {r : Result ℕ Refusal} {after : List ℕ} → ((n : ℕ) → o ≡ gives n → text_answer text (length before) ≡ gives n)
    → Lends answered o (over text before) before r after → Wrote text before r after
wrote text before {o} {r = Ok m} {after} last v =
    let a = length_given text (length before) m (last m (sym v.says)) in
    let e : m ≡ length text = a.1 in
    let front : take m after ≡ text = rw (e, v.leaves) (over_front text before) in
    let behind : drop m after ≡ drop m before = rw (e, v.leaves) (over_behind text before) in
    record {
      counts = λ n q. let z : m ≡ n = cc in sym z ∙ e;
      fits = λ n q. a.0;
      front = λ n q. let z : m ≡ n = cc in rw (← z) front;
      behind = λ n q. let z : m ≡ n = cc in rw (← z) behind;
      left = λ k q. absurd (not_given (sym (ap answered q)));
      long = ap length v.leaves ∙ over_length text before a.0;
    }
wrote text before {o} {r = Err k} {after} last v =
    record {
      counts = λ n q. absurd (not_given (ap answered q));
      fits = λ n q. absurd (not_given (ap answered q));
      front = λ n q. absurd (not_given (ap answered q));
      behind = λ n q. absurd (not_given (ap answered q));
      left = λ x q. v.leaves;
      long = ap length v.leaves;
    }

-- ---- of bytes

module _ (text s before : List ℕ) where
  last_test : (n : ℕ) → put_answer text s (length before) ≡ gives n → (length s ≤ limit) × (text_answer text (length before) ≡ gives n)
  unfolding put_answer
  last_test n e = reached _ _ _ _ not_given e

  refused : limit < length s → refuses (refusal_at 1 0) ≡ put_answer text s (length before)
  unfolding put_answer
  refused h = is_below _ _ _ _ h refl

  pub puts : {r : Result ℕ Refusal} {after : List ℕ} → PutText text s before r after → Puts text s before r after
  puts {r} v =
      record {
        wrote = wrote text before (λ n e. (last_test n e).1) v;
        accepted = λ h k. one_answer r (Ok (length text)) (v.says ∙ sym (of_bytes text (length before) s h (room_for text (length before) k)));
        only = λ n q. (last_test n (sym v.says ∙ ap answered q)).0;
        too_many = λ h. one_answer r (Err (refusal_at 1 0)) (v.says ∙ sym (refused h));
        no_room = λ h k. one_answer r (Err (refusal_at 4 0)) (v.says ∙ sym (of_bytes text (length before) s h (room_short text (length before) k)));
      }
