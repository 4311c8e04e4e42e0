-- docs/FORMAT.md, section 4.6: one string's bytes, by its row. The marks are not read.
use Rattle.std.specs.Prelude.{ℕ, List, cond, ltb, eqb}
use Rattle.std.specs.Borrow.{Bor}
use Rattle.hbc_io.specs.Plain.{span_of, span_in, part_of, IsPart}
use Rattle.hbc_io.specs.declared.Span.{Span}
use Rattle.hbc_rows.specs.Rows.{rows, row_at}
use Rattle.hbc_table_strings.specs.declared.row.StringRow.{StringRow}
use Rattle.hbc_table_strings.specs.Row.{string_width, string_row}

-- the span that a row says, empty if it is marked invalid (all but 0 is invalid)
abbrev pub span_of_row : StringRow → Span
span_of_row r = cond (eqb r.invalid 0) (span_of r.start r.bytes) (span_of 0 0)

-- that of row k, empty if there is no such row
unfoldable pub span_at : List ℕ → ℕ → Span
span_at t k = cond (ltb k (rows string_width t)) (span_of_row (string_row (row_at string_width t k))) (span_of 0 0)

-- the bytes there, none if it leaves the storage
unfoldable pub string_bytes : List ℕ → List ℕ → ℕ → List ℕ
string_bytes s t k = part_of s (span_at t k)

-- the promise: that part of the storage itself
abbrev pub StringBytes : Bor (List ℕ) → List ℕ → ℕ → Bor (List ℕ) → Type 0
StringBytes s t k = IsPart s (span_at t k)

-- where the part is; a span that leaves the storage is the empty beginning
unfoldable pub string_span : List ℕ → List ℕ → ℕ → Span
string_span s t k = span_in s (span_at t k)
