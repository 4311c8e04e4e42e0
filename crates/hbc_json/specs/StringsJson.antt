-- docs/FORMAT.md, section 4.9: the strings of rows as JSON.
use Rattle.std.specs.Prelude.{ℕ, zero, suc, List, [], ◌∷◌, length, Result}
use Rattle.hbc_io.specs.Outcome.{limit}
use Rattle.hbc_io.specs.Answer.{Answer, refused_at}
use Rattle.hbc_io.specs.Lends.{below, Lends}
use Rattle.hbc_io.specs.Answers.{answered}
use Rattle.hbc_io.specs.declared.Refusal.{Refusal}
use Rattle.hbc_rows.specs.Rows.{rows}
use Rattle.hbc_table_strings.specs.Row.{string_width}
use Rattle.hbc_text_forms.specs.Text.{text_answer, over}
use Rattle.hbc_text.specs.StringText.{string_text}
use Rattle.hbc_json_forms.specs.Json.{array}

-- the texts of n rows from row k on
unfoldable pub texts_from : List ℕ → List ℕ → ℕ → ℕ → List (List ℕ)
texts_from s t k zero = []
texts_from s t k (suc n) = string_text s t k ∷ texts_from s t (suc k) n

-- of the first n
unfoldable pub texts : List ℕ → List ℕ → ℕ → List (List ℕ)
texts s t n = texts_from s t 0 n

-- as one array
unfoldable pub strings_json : List ℕ → List ℕ → ℕ → List ℕ
strings_json s t n = array (texts s t n)

-- 1 for the storage, 11 if fewer rows are lent than the count says, then 4
unfoldable pub strings_json_answer : List ℕ → List ℕ → ℕ → ℕ → Answer ℕ
strings_json_answer s t count room =
    below limit (length s) (refused_at 1 0)
    (below (rows string_width t) count (refused_at 11 0)
    (text_answer (strings_json s t count) room))

-- the promise: the array's length, and the array in front of what is lent
abbrev pub StringsJson : List ℕ → List ℕ → ℕ → List ℕ → Result ℕ Refusal → List ℕ → Type 0
StringsJson s t count before = Lends answered (strings_json_answer s t count (length before)) (over (strings_json s t count) before) before
