-- What follows from the promise of strings_json.
use Prim.Native.Nat.{ℕ, ◌≤◌, ◌<◌}
use mathlib.Core.Path.{◌≡◌, refl, sym, ap, ◌∙◌}
use mathlib.Core.List.{List}
use lib.ListN.{length, get_or, take}
use Rattle.std.specs.Prelude.{Result, Ok, Err}
use Rattle.hbc_io.specs.Outcome.{limit, refusal_at}
use Rattle.hbc_io.specs.Answer.{Answer, gives, refuses}
use Rattle.hbc_io.proofs.Exits.{is_below, not_below, reached, not_given}
use Rattle.hbc_rows.specs.Rows.{rows}
use Rattle.hbc_table_strings.specs.Row.{string_width}
use Rattle.hbc_text_forms.specs.Text.{text_answer}
use Rattle.hbc_io.proofs.Alone.{one_answer}
use Rattle.hbc_io.specs.Answers.{answered}
use Rattle.hbc_io.specs.declared.Refusal.{Refusal}
use Rattle.hbc_text_forms.proofs.Exits.{room_for, room_short}
use Rattle.hbc_json.specs.StringsJson.{texts, strings_json, strings_json_answer, StringsJson}
use Rattle.hbc_claims_text.specs.Put.{Wrote}
use Rattle.hbc_claims_text.proofs.Put.{wrote}
use Rattle.hbc_claims_json.specs.Rfc8259.{Reads}
use Rattle.hbc_claims_json.specs.Put.{PutsJson}
use Rattle.hbc_claims_json.proofs.Rows.{of_rows}

module _ (s t : List ℕ) (count : ℕ) (before : List ℕ) where
  asked : (n : ℕ) → strings_json_answer s t count (length before) ≡ gives n
      → (length s ≤ limit) × (count ≤ rows string_width t) × (text_answer (strings_json s t count) (length before) ≡ gives n)
  unfolding strings_json_answer
  asked n e =
      let p = reached _ _ _ _ not_given e in
      let q = reached _ _ _ _ not_given p.1 in
      (p.0, q.0, q.1)

  room_asked : length s ≤ limit → count ≤ rows string_width t → {o : Answer ℕ} → o ≡ text_answer (strings_json s t count) (length before)
      → o ≡ strings_json_answer s t count (length before)
  unfolding strings_json_answer
  room_asked h l e = not_below _ _ _ _ h (not_below _ _ _ _ l e)

  long_asked : limit < length s → refuses (refusal_at 1 0) ≡ strings_json_answer s t count (length before)
  unfolding strings_json_answer
  long_asked h = is_below _ _ _ _ h refl

  few_asked : length s ≤ limit → rows string_width t < count → refuses (refusal_at 11 0) ≡ strings_json_answer s t count (length before)
  unfolding strings_json_answer
  few_asked h l = not_below _ _ _ _ h (is_below _ _ _ _ l refl)

  pub puts_json : {r : Result ℕ Refusal} {after : List ℕ} → ((i : ℕ) → get_or s i 0 < 256) → StringsJson s t count before r after → PutsJson s t count before r after
  unfolding strings_json
  puts_json {r} {after} b v =
      let w : Wrote (strings_json s t count) before r after = wrote (strings_json s t count) before (λ n e. (asked n e).2) v in
      let a = (of_rows s t count b).array in
      record {
        wrote = w;
        reads = λ n q. rw (w.front n q) a.reads;
        only_these = λ n q us x. a.only us (rw (w.front n q) at x);
        accepted = λ h l m. one_answer r (Ok (length (strings_json s t count))) (v.says ∙ sym (room_asked h l (room_for (strings_json s t count) (length before) m)));
        only = λ n q. let z = asked n (sym v.says ∙ ap answered q) in (z.0, z.1);
        too_long = λ h. one_answer r (Err (refusal_at 1 0)) (v.says ∙ sym (long_asked h));
        too_few = λ h l. one_answer r (Err (refusal_at 11 0)) (v.says ∙ sym (few_asked h l));
        no_room = λ h l m. one_answer r (Err (refusal_at 4 0)) (v.says ∙ sym (room_asked h l (room_short (strings_json s t count) (length before) m)));
      }
