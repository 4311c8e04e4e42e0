-- The row's mark, and the ways out of the call.
use Prim.Native.Nat.{ℕ, ◌+◌, ◌*◌, ◌%◌, ◌≤◌, ◌<◌}
use mathlib.Core.Path.{◌≡◌, refl, sym, ap, ◌∙◌}
use mathlib.Core.List.{List}
use mathlib.Core.Bool.{true, false}
use native.Mathlib.Omega.{arith}
use lib.ListN.{length, take, drop, length-take, length-drop, get_or-eq_default}
use lib.Dec.{eqb, lit<}
use borrow.Author.Tests.{le-ltb}
use Rattle.std.specs.Prelude.{Result, Err}
use Rattle.hbc_io.specs.declared.Refusal.{Refusal}
use Rattle.hbc_io.specs.Outcome.{limit, refusal_at}
use Rattle.hbc_io.specs.Answer.{refuses}
use Rattle.hbc_io.specs.Lends.{below, Lends}
use Rattle.hbc_io.specs.Plain.{span_in, part_of}
use Rattle.hbc_io.proofs.Exits.{stop, past}
use Rattle.hbc_io.specs.Answers.{answered}
use Rattle.hbc_rows.specs.Rows.{entry_at, rows}
use Rattle.hbc_table_strings.specs.Row.{string_width}
use Rattle.hbc_table_bytes.specs.StringBytes.{span_at, string_bytes}
use Rattle.hbc_table_bytes.proofs.Laws.{row_word}
use Rattle.hbc_text_forms.specs.Utf8.{utf8_text}
use Rattle.hbc_text_forms.specs.Utf16.{utf16_text}
use Rattle.hbc_text_forms.specs.Text.{text_answer, put_answer, over, PutText}
use Rattle.hbc_text.specs.StringText.{is_wide, string_text, string_text_answer, StringText}

-- ---- the mark

pub mark_is : (t : List ℕ) (k : ℕ) {m : ℕ} → m ≡ entry_at t (k * string_width + 3) → eqb (m % 2) 1 ≡ is_wide t k
unfolding is_wide
mark_is t k e = rw (row_word string_width t k 3 (lit< tt), e)

-- a row that is not there has none
pub mark_none : (t : List ℕ) (k : ℕ) → rows string_width t ≤ k → false ≡ is_wide t k
unfolding entry_at
mark_none t k h = mark_is t k (sym (get_or-eq_default t 0 (omega arith)))

-- ---- the bytes are no more than the storage

pub part_short : (n k : ℕ) (s : List ℕ) → length (take n (drop k s)) ≤ length s
part_short n k s = omega (arith, length-take n (drop k s), length-drop k s)

-- ---- ways out

-- a text that is put, of bytes that are not too many: 4 alone is left
put_alone : (text b before : List ℕ) {r : Result ℕ Refusal} {after : List ℕ} → length b ≤ limit → PutText text b before r after
    → Lends answered (text_answer text (length before)) (over text before) before r after
unfolding put_answer below
put_alone text b before h v = record { says = v.says ∙ rw (le-ltb limit (length b) h); leaves = v.leaves }

module _ (s t : List ℕ) (k : ℕ) (before : List ℕ) where
  pub too_long : {r : Refusal} → limit < length s → r ≡ refusal_at 1 0 → StringText s t k before (Err r) before
  unfolding string_text_answer
  too_long h e = stop _ _ _ _ h refl (ap refuses e)

  module _ (l : length s ≤ limit) where
    pub no_row : {r : Refusal} → rows string_width t ≤ k → r ≡ refusal_at 11 0 → StringText s t k before (Err r) before
    unfolding string_text_answer
    no_row h e = past _ _ _ _ l (stop _ _ _ _ (omega arith) refl (ap refuses e))

    module _ (h : k < rows string_width t) {b : List ℕ} (e : b ≡ part_of s (span_at t k)) where
      is_text : (text : List ℕ) {r : Result ℕ Refusal} {after : List ℕ} → text ≡ string_text s t k → PutText text b before r after → StringText s t k before r after
      unfolding string_text_answer
      is_text text q v =
          let few : length b ≤ limit = rw e (omega (arith, part_short (span_in s (span_at t k)).len (span_in s (span_at t k)).start s)) in
          past _ _ _ _ l (past _ _ _ _ (omega arith) (rw (← q) (put_alone text b before few v)))

      pub wide_text : {r : Result ℕ Refusal} {after : List ℕ} → is_wide t k ≡ true → PutText (utf16_text b) b before r after → StringText s t k before r after
      unfolding string_text string_bytes
      wide_text m v = is_text (utf16_text b) (rw (m, e)) v

      pub plain_text : {r : Result ℕ Refusal} {after : List ℕ} → is_wide t k ≡ false → PutText (utf8_text b) b before r after → StringText s t k before r after
      unfolding string_text string_bytes
      plain_text m v = is_text (utf8_text b) (rw (m, e)) v
