-- docs/FORMAT.md, section 4.8: the text of a string's row, and the call that puts it.
use Rattle.std.specs.Prelude.{ℕ, ◌+◌, ◌*◌, ◌%◌, ◌≤◌, ◌<◌, ◌≡◌, List, [], length, take, drop, Result, Ok, Err}
use Rattle.hbc_io.specs.Outcome.{limit, refusal_at}
use Rattle.hbc_io.specs.declared.Refusal.{Refusal}
use Rattle.hbc_rows.specs.Rows.{rows, row_at}
use Rattle.hbc_table_strings.specs.declared.row.StringRow.{StringRow}
use Rattle.hbc_table_strings.specs.Row.{string_width, string_row}
use Rattle.hbc_text_forms.specs.Utf8.{WellFormed, utf8_text}
use Rattle.hbc_text_forms.specs.Utf16.{utf16_text}
use Rattle.hbc_text.specs.StringText.{string_text}
use Rattle.hbc_claims_text.specs.Put.{Wrote}

-- row k of rows t, whatever its words
abbrev pub row_in : List ℕ → ℕ → StringRow
row_in t k = string_row (row_at string_width t k)

-- its bytes lie within the storage s
abbrev pub Lies : List ℕ → StringRow → Type 0
Lies s r = r.start + r.bytes ≤ length s

-- the text of row k, where each number of the storage is a byte
pub record OfRow (s t : List ℕ) (k : ℕ) : Type 0 where
  pub formed : WellFormed (string_text s t k)
  -- of a row that is there, not marked invalid, and whose bytes lie within the storage: their text, UTF-16 by bit 0 of the marks alone
  pub wide : k < rows string_width t → (row_in t k).invalid ≡ 0 → Lies s (row_in t k) → (row_in t k).marks % 2 ≡ 1
      → string_text s t k ≡ utf16_text (take (row_in t k).bytes (drop (row_in t k).start s))
  pub plain : k < rows string_width t → (row_in t k).invalid ≡ 0 → Lies s (row_in t k) → (row_in t k).marks % 2 ≡ 0
      → string_text s t k ≡ utf8_text (take (row_in t k).bytes (drop (row_in t k).start s))
  -- empty: marked invalid, leaving the storage, UTF-16 of an odd number of bytes
  pub invalid : ((row_in t k).invalid ≡ 0 → ⊥) → string_text s t k ≡ []
  pub leaves : length s < (row_in t k).start + (row_in t k).bytes → string_text s t k ≡ []
  pub odd : (row_in t k).marks % 2 ≡ 1 → (row_in t k).bytes % 2 ≡ 1 → string_text s t k ≡ []
  -- at most three bytes for each byte of the storage
  pub most : length (string_text s t k) ≤ 3 * length s

-- a call that puts it into what is lent
pub record PutsRow (s t : List ℕ) (k : ℕ) (before : List ℕ) (r : Result ℕ Refusal) (after : List ℕ) : Type 0 where
  pub wrote : Wrote (string_text s t k) before r after
  -- accepted exactly when the storage is not too long, the row is there and the text has room
  pub accepted : length s ≤ limit → k < rows string_width t → length (string_text s t k) ≤ length before → r ≡ Ok (length (string_text s t k))
  pub only : (n : ℕ) → r ≡ Ok n → (length s ≤ limit) × (k < rows string_width t)
  -- 1 comes before 11, and 11 before 4
  pub too_long : limit < length s → r ≡ Err (refusal_at 1 0)
  pub no_row : length s ≤ limit → rows string_width t ≤ k → r ≡ Err (refusal_at 11 0)
  pub no_room : length s ≤ limit → k < rows string_width t → length before < length (string_text s t k) → r ≡ Err (refusal_at 4 0)
