-- The text of a row by its words, and what follows from the promise of string_text.
use Prim.Native.Nat.{ℕ, zero, suc, ◌+◌, ◌*◌, ◌-◌, ◌%◌, ◌≤◌, ◌<◌}
use mathlib.Core.Path.{◌≡◌, refl, sym, ap, ◌∙◌}
use mathlib.Core.Logic.{◌⊎◌, inl, inr}
use mathlib.Core.List.{List, [], ◌∷◌}
use mathlib.Core.Bool.{Bool, true, false, cond}
use native.Mathlib.Omega.{arith}
use lib.ListN.{length, get_or, take, drop, length-drop}
use lib.Dec.{ltb, eqb, lit<}
use lib.Seq.{get_or-drop, length-take-le}
use borrow.Author.Tests.{lt-ltb, le-ltb, eq-eqb, ne_eqb, eqb-true}
use Rattle.std.specs.Prelude.{Result, Ok, Err}
use Rattle.hbc_io.specs.Outcome.{limit, refusal_at}
use Rattle.hbc_io.specs.Answer.{Answer, gives, refuses}
use Rattle.hbc_io.specs.Plain.{span_of, span_in, part_of}
use Rattle.hbc_io.proofs.Exits.{is_below, not_below, reached, not_given}
use Rattle.hbc_rows.specs.Rows.{rows}
use Rattle.hbc_table_strings.specs.Row.{string_width}
use Rattle.hbc_table_bytes.specs.StringBytes.{span_of_row, span_at, string_bytes}
use Rattle.hbc_text_forms.specs.Utf8.{WellFormed, utf8_text}
use Rattle.hbc_text_forms.specs.Scalars.{encode_all}
use Rattle.hbc_text_forms.specs.Utf16.{units, scalars, utf16_text}
use Rattle.hbc_text_forms.specs.Text.{text_answer}
use Rattle.hbc_io.proofs.Alone.{one_answer}
use Rattle.hbc_io.specs.Answers.{answered}
use Rattle.hbc_io.specs.declared.Refusal.{Refusal}
use Rattle.hbc_text_forms.proofs.Laws.{text_nil}
use Rattle.hbc_text_forms.proofs.Bounds.{text_length, wide_length}
use Rattle.hbc_text_forms.proofs.Codes.{split}
use Rattle.hbc_text_forms.proofs.Exits.{room_for, room_short}
use Rattle.hbc_text_forms.proofs.Formed as of_utf8
use Rattle.hbc_text_forms.proofs.Wide as of_utf16
use Rattle.hbc_text.proofs.Laws.{part_short}
use Rattle.hbc_text.specs.StringText.{is_wide, string_text, string_text_answer, StringText}
use Rattle.hbc_claims_text.specs.Row.{row_in, Lies, OfRow, PutsRow}
use Rattle.hbc_claims_text.proofs.Put.{wrote}

-- ---- the bytes that a span names

abbrev Small : List ℕ → Type 0
Small s = (i : ℕ) → get_or s i 0 < 256

take_small : (n : ℕ) (s : List ℕ) → Small s → Small (take n s)
take_small zero s h i = lit< tt
take_small (suc n) [] h i = lit< tt
take_small (suc n) (b ∷ s) h zero = h 0
take_small (suc n) (b ∷ s) h (suc i) = take_small n s (λ j. h (suc j)) i

part_small : (n k : ℕ) (s : List ℕ) → Small s → Small (take n (drop k s))
part_small n k s h = take_small n (drop k s) (λ i. rw (get_or-drop k s i 0) (h (k + i)))

part_none : (s : List ℕ) → part_of s (span_of 0 0) ≡ []
part_none s =
    let a : 0 ≤ length s = omega arith in
    let b : 0 ≤ length s - 0 = omega arith in
    rw (le-ltb (length s) 0 a, le-ltb (length s - 0) 0 b)

part_in : (s : List ℕ) (a n : ℕ) → a + n ≤ length s → part_of s (span_of a n) ≡ take n (drop a s)
part_in s a n h =
    let p : a ≤ length s = omega arith in
    let q : n ≤ length s - a = omega arith in
    rw (le-ltb (length s) a p, le-ltb (length s - a) n q)

past_at : (s : List ℕ) (a n : ℕ) → length s < a + n → (length s < a) ⊎ (a ≤ length s) → part_of s (span_of a n) ≡ []
past_at s a n h (inl p) = rw (lt-ltb (length s) a p)
past_at s a n h (inr p) =
    let q : length s - a < n = omega arith in
    rw (le-ltb (length s) a p, lt-ltb (length s - a) n q)

part_past : (s : List ℕ) (a n : ℕ) → length s < a + n → part_of s (span_of a n) ≡ []
part_past s a n h = past_at s a n h (split (length s) a)

-- ---- the bytes of a row: none, or those that its start and length name

module _ (s t : List ℕ) (k : ℕ) (P : List ℕ → Type 0) (none : P []) where
  valid_at : (w : Bool) → eqb (row_in t k).invalid 0 ≡ w → ((row_in t k).invalid ≡ 0 → P (part_of s (span_of (row_in t k).start (row_in t k).bytes)))
      → P (part_of s (cond w (span_of (row_in t k).start (row_in t k).bytes) (span_of 0 0)))
  valid_at true e f = f (eqb-true _ _ e)
  valid_at false e f = rw (part_none s) none

  there_at : (w : Bool) → P (part_of s (span_of_row (row_in t k))) → P (part_of s (cond w (span_of_row (row_in t k)) (span_of 0 0)))
  there_at true f = f
  there_at false f = rw (part_none s) none

  bytes_by : ((row_in t k).invalid ≡ 0 → P (part_of s (span_of (row_in t k).start (row_in t k).bytes))) → P (string_bytes s t k)
  unfolding string_bytes span_at
  bytes_by f = there_at (ltb k (rows string_width t)) (valid_at (eqb (row_in t k).invalid 0) refl f)

bytes_are : (s t : List ℕ) (k : ℕ) → k < rows string_width t → (row_in t k).invalid ≡ 0 → Lies s (row_in t k)
    → string_bytes s t k ≡ take (row_in t k).bytes (drop (row_in t k).start s)
unfolding string_bytes span_at
bytes_are s t k h v l = rw (lt-ltb k (rows string_width t) h, eq-eqb (row_in t k).invalid 0 v) (part_in s (row_in t k).start (row_in t k).bytes l)

-- ---- its text

wide_nil : utf16_text [] ≡ []
unfolding utf16_text units scalars encode_all
wide_nil = refl

either_nil : (w : Bool) → cond w (utf16_text []) (utf8_text []) ≡ []
either_nil true = wide_nil
either_nil false = text_nil

none_text : (s t : List ℕ) (k : ℕ) → string_bytes s t k ≡ [] → string_text s t k ≡ []
unfolding string_text
none_text s t k e = rw e (either_nil (is_wide t k))

wide_text : (s t : List ℕ) (k : ℕ) → (row_in t k).marks % 2 ≡ 1 → string_text s t k ≡ utf16_text (string_bytes s t k)
unfolding string_text is_wide
wide_text s t k m = rw (eq-eqb ((row_in t k).marks % 2) 1 m)

plain_text : (s t : List ℕ) (k : ℕ) → (row_in t k).marks % 2 ≡ 0 → string_text s t k ≡ utf8_text (string_bytes s t k)
unfolding string_text is_wide
plain_text s t k m = rw (ne_eqb ((row_in t k).marks % 2) 1 (λ e. omega arith))

formed_at : (b : List ℕ) (w : Bool) → Small b → WellFormed (cond w (utf16_text b) (utf8_text b))
formed_at b true h = of_utf16.formed b h
formed_at b false h = of_utf8.formed b

formed_text : (s t : List ℕ) (k : ℕ) → Small s → WellFormed (string_text s t k)
unfolding string_text string_bytes
formed_text s t k h = formed_at (string_bytes s t k) (is_wide t k) (part_small (span_in s (span_at t k)).len (span_in s (span_at t k)).start s h)

most_at : (b s : List ℕ) (w : Bool) → Small b → length b ≤ length s → length (cond w (utf16_text b) (utf8_text b)) ≤ 3 * length s
most_at b s true h l = omega (arith, wide_length b h)
most_at b s false h l = omega (arith, text_length b)

most_text : (s t : List ℕ) (k : ℕ) → Small s → length (string_text s t k) ≤ 3 * length s
unfolding string_text string_bytes
most_text s t k h =
    let n : ℕ = (span_in s (span_at t k)).len in
    let a : ℕ = (span_in s (span_at t k)).start in
    most_at (string_bytes s t k) s (is_wide t k) (part_small n a s h) (part_short n a s)

odd_at : (s : List ℕ) (a n : ℕ) → n % 2 ≡ 1 → (length s < a + n) ⊎ (a + n ≤ length s) → utf16_text (part_of s (span_of a n)) ≡ []
odd_at s a n h (inl l) = rw (part_past s a n l) wide_nil
odd_at s a n h (inr l) =
    let e : length (take n (drop a s)) ≡ n = length-take-le n (drop a s) (rw (length-drop a s) (omega arith)) in
    rw (part_in s a n l) (of_utf16.odd (take n (drop a s)) (rw e h))

pub of_row : (s t : List ℕ) (k : ℕ) → Small s → OfRow s t k
of_row s t k small =
    record {
      formed = formed_text s t k small;
      wide = λ h v l m. wide_text s t k m ∙ ap utf16_text (bytes_are s t k h v l);
      plain = λ h v l m. plain_text s t k m ∙ ap utf8_text (bytes_are s t k h v l);
      invalid = λ n. none_text s t k (bytes_by s t k (λ (b : List ℕ). b ≡ []) refl (λ v. absurd (n v)));
      leaves = λ l. none_text s t k (bytes_by s t k (λ (b : List ℕ). b ≡ []) refl (λ v. part_past s (row_in t k).start (row_in t k).bytes l));
      most = most_text s t k small;
      odd = λ m o. wide_text s t k m
          ∙ bytes_by s t k (λ (b : List ℕ). utf16_text b ≡ []) wide_nil
          (λ v. odd_at s (row_in t k).start (row_in t k).bytes o (split (length s) ((row_in t k).start + (row_in t k).bytes)));
    }

-- ---- the call

module _ (s t : List ℕ) (k : ℕ) (before : List ℕ) where
  asked : (n : ℕ) → string_text_answer s t k (length before) ≡ gives n → (length s ≤ limit) × (k < rows string_width t) × (text_answer (string_text s t k) (length before) ≡ gives n)
  unfolding string_text_answer
  asked n e =
      let p = reached _ _ _ _ not_given e in
      let q = reached _ _ _ _ not_given p.1 in
      let l : suc k ≤ rows string_width t = q.0 in
      (p.0, omega arith, q.1)

  room_asked : length s ≤ limit → k < rows string_width t → {o : Answer ℕ} → o ≡ text_answer (string_text s t k) (length before) → o ≡ string_text_answer s t k (length before)
  unfolding string_text_answer
  room_asked h l e = not_below _ _ _ _ h (not_below _ _ _ _ (omega arith) e)

  long_asked : limit < length s → refuses (refusal_at 1 0) ≡ string_text_answer s t k (length before)
  unfolding string_text_answer
  long_asked h = is_below _ _ _ _ h refl

  row_asked : length s ≤ limit → rows string_width t ≤ k → refuses (refusal_at 11 0) ≡ string_text_answer s t k (length before)
  unfolding string_text_answer
  row_asked h l = not_below _ _ _ _ h (is_below _ _ _ _ (omega arith) refl)

  pub puts_row : {r : Result ℕ Refusal} {after : List ℕ} → StringText s t k before r after → PutsRow s t k before r after
  puts_row {r} v =
      record {
        wrote = wrote (string_text s t k) before (λ n e. (asked n e).2) v;
        accepted = λ h l m. one_answer r (Ok (length (string_text s t k))) (v.says ∙ sym (room_asked h l (room_for (string_text s t k) (length before) m)));
        only = λ n q. let a = asked n (sym v.says ∙ ap answered q) in (a.0, a.1);
        too_long = λ h. one_answer r (Err (refusal_at 1 0)) (v.says ∙ sym (long_asked h));
        no_row = λ h l. one_answer r (Err (refusal_at 11 0)) (v.says ∙ sym (row_asked h l));
        no_room = λ h l m. one_answer r (Err (refusal_at 4 0)) (v.says ∙ sym (room_asked h l (room_short (string_text s t k) (length before) m)));
      }
