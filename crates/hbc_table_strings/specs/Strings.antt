-- docs/FORMAT.md, section 4.5: decoding, a row for each string or a refusal.
use Rattle.std.specs.Prelude.{ℕ, zero, suc, ◌/◌, List, Result, cond, length, ltb}
use Rattle.hbc_io.specs.Outcome.{limit}
use Rattle.hbc_io.specs.Answer.{Answer, gives, refused_at, and_then}
use Rattle.hbc_io.specs.Answers.{answered}
use Rattle.hbc_io.specs.Lends.{below, choose, Lends}
use Rattle.hbc_io.specs.declared.Refusal.{Refusal}
use Rattle.hbc_rows.specs.Rows.{entry_at, rows, put_rows}
use Rattle.hbc_table_strings.specs.declared.Mode.{Mode}
use Rattle.hbc_table_strings.specs.Entries.{offset_of, pair_of, lacks_pair}
use Rattle.hbc_table_strings.specs.Row.{string_words, string_width, row_with, row_of}

-- the first n strings in order: 8 at the first whose pair is not there
unfoldable pub scan : Mode → List ℕ → ℕ → ℕ → Answer ℕ
scan mode small pairs zero = gives 0
scan mode small pairs (suc i) =
    and_then (scan mode small pairs i) (λ _. choose (lacks_pair (entry_at small i) (pair_of mode small i) pairs) (refused_at 8 i) (gives (suc i)))

-- strings decoded: the lesser of the count and the small entries lent
unfoldable pub lesser : ℕ → ℕ → ℕ
lesser count lent = cond (ltb count lent) count lent

-- 1, 4, then the data in order
unfoldable pub decode_answer : Mode → ℕ → List ℕ → List ℕ → List ℕ → List ℕ → Answer ℕ
decode_answer mode count small overflow storage table =
    below limit (length storage) (refused_at 1 0)
    (below (rows string_width table) (lesser count (length small)) (refused_at 4 0)
    (scan mode small (length overflow / 2) (lesser count (length small))))

-- the words of string i's row
abbrev pub words_of : Mode → List ℕ → List ℕ → List ℕ → ℕ → ℕ → List ℕ
words_of mode kinds small overflow storage i = string_words (row_of mode kinds small overflow storage i)

-- a table with the rows of the first n strings in front
abbrev pub decoded_rows : Mode → List ℕ → List ℕ → List ℕ → ℕ → ℕ → List ℕ → List ℕ
decoded_rows mode kinds small overflow storage n table = put_rows string_width (words_of mode kinds small overflow storage) 0 n table

-- the promise: the answer, and the rows
abbrev pub DecodeStrings : Mode → ℕ → List ℕ → List ℕ → List ℕ → List ℕ → List ℕ → Result ℕ Refusal → List ℕ → Type 0
DecodeStrings mode count kinds small overflow storage before =
    Lends answered (decode_answer mode count small overflow storage before)
    (decoded_rows mode kinds small overflow (length storage) (lesser count (length small)) before) before

-- ---- one small entry by itself, in Hermes mode: no other string has a say in it, nor has its kind

-- 2 where its pair is not there; else 0 valid or 1 invalid, as in its row
unfoldable pub judged : ℕ → List ℕ → ℕ → ℕ
judged raw overflow storage = cond (lacks_pair raw (offset_of raw) (length overflow / 2)) 2 (row_with raw 0 overflow (offset_of raw) storage).invalid
