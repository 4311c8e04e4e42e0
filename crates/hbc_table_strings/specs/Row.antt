-- docs/FORMAT.md, section 4.4: the row of a string, its words by name.
use Rattle.std.specs.Prelude.{ℕ, ◌+◌, ◌*◌, List, [], ◌∷◌, cond, get_or, ltb, leb}
use Rattle.hbc_rows.specs.Rows.{entry_at}
use Rattle.hbc_table_strings.specs.declared.row.StringRow.{StringRow}
use Rattle.hbc_table_strings.specs.declared.Mode.{Mode}
use Rattle.hbc_table_strings.specs.Hermes.{kind_in}
use Rattle.hbc_table_strings.specs.Entries.{utf16, pair_of, entry_of, bytes_of}

-- the words of a row in their order, and how many they are
abbrev pub string_words : StringRow → List ℕ
string_words r = r.start ∷ r.bytes ∷ r.invalid ∷ r.marks ∷ []

abbrev pub string_width : ℕ
string_width = 4

-- the row whose words they are
abbrev pub string_row : List ℕ → StringRow
string_row ws = record { start = get_or ws 0 0; bytes = get_or ws 1 0; invalid = get_or ws 2 0; marks = get_or ws 3 0 }

abbrev pub valid : ℕ → ℕ → ℕ → StringRow
valid start bytes marks = record { start = start; bytes = bytes; invalid = 0; marks = marks }

abbrev pub invalid : ℕ → StringRow
invalid marks = record { start = 0; bytes = 0; invalid = 1; marks = marks }

-- invalid if the start is at or past the storage's end, or the end is past it; start and length are then 0
unfoldable pub row_for : ℕ → ℕ → ℕ → ℕ → StringRow
row_for start bytes marks storage =
    cond (ltb start storage) (cond (leb (start + bytes) storage) (valid start bytes marks) (invalid marks)) (invalid marks)

-- marks: 1 UTF-16, 2 identifier
unfoldable pub row_with : ℕ → ℕ → List ℕ → ℕ → ℕ → StringRow
row_with raw kind overflow p storage =
    row_for (entry_of raw overflow p).start (bytes_of raw (entry_of raw overflow p).units) (utf16 raw + 2 * kind) storage

-- the row of string i
unfoldable pub row_of : Mode → List ℕ → List ℕ → List ℕ → ℕ → ℕ → StringRow
row_of mode kinds small overflow storage i = row_with (entry_at small i) (kind_in mode kinds i) overflow (pair_of mode small i) storage
