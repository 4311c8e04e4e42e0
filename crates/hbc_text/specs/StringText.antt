-- docs/FORMAT.md, section 4.8: one string's text, by its row.
use Rattle.std.specs.Prelude.{ℕ, suc, ◌%◌, List, Bool, cond, length, eqb, Result}
use Rattle.hbc_io.specs.Outcome.{limit}
use Rattle.hbc_io.specs.Answer.{Answer, refused_at}
use Rattle.hbc_io.specs.Lends.{below, Lends}
use Rattle.hbc_io.specs.Answers.{answered}
use Rattle.hbc_io.specs.declared.Refusal.{Refusal}
use Rattle.hbc_rows.specs.Rows.{rows, row_at}
use Rattle.hbc_table_strings.specs.Row.{string_width, string_row}
use Rattle.hbc_table_bytes.specs.StringBytes.{string_bytes}
use Rattle.hbc_text_forms.specs.Utf8.{utf8_text}
use Rattle.hbc_text_forms.specs.Utf16.{utf16_text}
use Rattle.hbc_text_forms.specs.Text.{text_answer, over}

-- bit 0 of the marks alone says UTF-16
unfoldable pub is_wide : List ℕ → ℕ → Bool
is_wide t k = eqb ((string_row (row_at string_width t k)).marks % 2) 1

-- the text of the bytes that row k names, which are none where the row is marked invalid or leaves the storage
unfoldable pub string_text : List ℕ → List ℕ → ℕ → List ℕ
string_text s t k = cond (is_wide t k) (utf16_text (string_bytes s t k)) (utf8_text (string_bytes s t k))

-- 1 for the storage, 11 if there is no such row, then 4
unfoldable pub string_text_answer : List ℕ → List ℕ → ℕ → ℕ → Answer ℕ
string_text_answer s t k room =
    below limit (length s) (refused_at 1 0)
    (below (rows string_width t) (suc k) (refused_at 11 0)
    (text_answer (string_text s t k) room))

-- the promise: its length, and the text in front of what is lent
abbrev pub StringText : List ℕ → List ℕ → ℕ → List ℕ → Result ℕ Refusal → List ℕ → Type 0
StringText s t k before = Lends answered (string_text_answer s t k (length before)) (over (string_text s t k) before) before
