-- docs/FORMAT.md, sections 4.3 to 4.5: decoding as it was while there was no second mode, word for word; the old mode is held against it.
use Rattle.std.specs.Prelude.{ℕ, zero, suc, ◌+◌, ◌*◌, ◌/◌, List, Bool, false, Result, cond, length, leb, eqb}
use Rattle.hbc_io.specs.Outcome.{limit}
use Rattle.hbc_io.specs.Answer.{Answer, gives, refused_at, and_then}
use Rattle.hbc_io.specs.Answers.{answered}
use Rattle.hbc_io.specs.Lends.{below, choose, Lends}
use Rattle.hbc_io.specs.declared.Refusal.{Refusal}
use Rattle.hbc_rows.specs.Rows.{entry_at, rows, put_rows}
use Rattle.hbc_table_strings.specs.declared.entries.Entry.{Entry}
use Rattle.hbc_table_strings.specs.declared.row.StringRow.{StringRow}
use Rattle.hbc_table_strings.specs.Kinds.{kind_of}
use Rattle.hbc_table_strings.specs.Entries.{utf16, offset_of, units_of, entry, long_one, pairs_taken, pair_at, bytes_of}
use Rattle.hbc_table_strings.specs.Row.{string_words, string_width, row_for}
use Rattle.hbc_table_strings.specs.Strings.{lesser}

-- which pair a long entry takes, so many being taken before it: the next, in order; the offset field is not read then
unfoldable pub pair_taken : ℕ → ℕ → ℕ
pair_taken raw taken = taken

-- a long entry, and no such pair
unfoldable pub lacks_pair : ℕ → ℕ → ℕ → Bool
lacks_pair raw taken pairs = cond (eqb (long_one raw) 1) (leb pairs (pair_taken raw taken)) false

-- offset, and length in units
unfoldable pub entry_of : ℕ → List ℕ → ℕ → Entry
entry_of raw overflow taken =
    cond (eqb (long_one raw) 1) (pair_at overflow (pair_taken raw taken)) (entry (offset_of raw) (units_of raw))

-- marks: 1 UTF-16, 2 identifier
unfoldable pub row_with : ℕ → ℕ → List ℕ → ℕ → ℕ → StringRow
row_with raw kind overflow taken storage =
    row_for (entry_of raw overflow taken).start (bytes_of raw (entry_of raw overflow taken).units) (utf16 raw + 2 * kind) storage

-- the row of string i
unfoldable pub row_of : List ℕ → List ℕ → List ℕ → ℕ → ℕ → StringRow
row_of kinds small overflow storage i = row_with (entry_at small i) (kind_of kinds i) overflow (pairs_taken small i) storage

-- the first n strings in order: 8 at the first whose pair is not there
unfoldable pub scan : List ℕ → ℕ → ℕ → Answer ℕ
scan small pairs zero = gives 0
scan small pairs (suc i) =
    and_then (scan small pairs i) (λ _. choose (lacks_pair (entry_at small i) (pairs_taken small i) pairs) (refused_at 8 i) (gives (suc i)))

-- 1, 4, then the data in order
unfoldable pub decode_answer : ℕ → List ℕ → List ℕ → List ℕ → List ℕ → Answer ℕ
decode_answer count small overflow storage table =
    below limit (length storage) (refused_at 1 0)
    (below (rows string_width table) (lesser count (length small)) (refused_at 4 0)
    (scan small (length overflow / 2) (lesser count (length small))))

-- the words of string i's row
abbrev pub words_of : List ℕ → List ℕ → List ℕ → ℕ → ℕ → List ℕ
words_of kinds small overflow storage i = string_words (row_of kinds small overflow storage i)

-- a table with the rows of the first n strings in front
abbrev pub decoded_rows : List ℕ → List ℕ → List ℕ → ℕ → ℕ → List ℕ → List ℕ
decoded_rows kinds small overflow storage n table = put_rows string_width (words_of kinds small overflow storage) 0 n table

-- the promise: the answer, and the rows
abbrev pub DecodeStrings : ℕ → List ℕ → List ℕ → List ℕ → List ℕ → List ℕ → Result ℕ Refusal → List ℕ → Type 0
DecodeStrings count kinds small overflow storage before =
    Lends answered (decode_answer count small overflow storage before)
    (decoded_rows kinds small overflow (length storage) (lesser count (length small)) before) before
