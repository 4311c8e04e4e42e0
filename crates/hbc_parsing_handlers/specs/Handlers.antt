-- docs/FORMAT.md, section 6.2: the rows of all handlers.
use Rattle.std.specs.Prelude.{Result, ℕ, zero, suc, ◌+◌, ◌*◌, List, [], ◌∷◌, length}
use Rattle.hbc_bits.specs.Bits.{le_at}
use Rattle.hbc_io.specs.Outcome.{limit}
use Rattle.hbc_io.specs.Answer.{Answer, gives, refused_at}
use Rattle.hbc_io.specs.Answers.{answered}
use Rattle.hbc_io.specs.Lends.{below, Lends}
use Rattle.hbc_io.specs.declared.Refusal.{Refusal}
use Rattle.hbc_rows.specs.Rows.{rows, put_rows}
use Rattle.hbc_function_record.specs.Row.{width}
use Rattle.hbc_parsing_handlers.specs.Why.{handler_bytes, shown}

-- the words of a handler's row
abbrev pub handler_words : ℕ → ℕ → ℕ → ℕ → List ℕ
handler_words function start end target = function ∷ start ∷ end ∷ target ∷ []

-- and how many they are
abbrev pub handler_width : ℕ
handler_width = 4

-- the handlers of functions 0 to n - 1, counted
unfoldable pub total : List ℕ → List ℕ → ℕ → ℕ
total s functions zero = 0
total s functions (suc i) = total s functions i + (shown s functions i).count

-- handler j of a function whose handlers start at a place
unfoldable pub handler_row : List ℕ → ℕ → ℕ → ℕ → List ℕ
handler_row s function place j =
    handler_words
    function
    (le_at s (place + handler_bytes * j) 4)
    (le_at s (place + handler_bytes * j + 4) 4)
    (le_at s (place + handler_bytes * j + 8) 4)

-- the lent rows with those of functions 0 to n - 1 in front, in rising order
unfoldable pub put_handlers : List ℕ → List ℕ → ℕ → List ℕ → List ℕ
put_handlers s functions zero t = t
put_handlers s functions (suc i) t =
    put_rows
    handler_width
    (handler_row s i (shown s functions i).place)
    (total s functions i)
    (shown s functions i).count
    (put_handlers s functions i t)

-- 1, then 11 if fewer function rows are lent than the count says; 4, known only after reading, last
unfoldable pub handlers_answer : List ℕ → List ℕ → ℕ → ℕ → Answer ℕ
handlers_answer s functions count room =
    below limit (length s) (refused_at 1 0)
    (below (rows width functions) count (refused_at 11 0)
    (below room (total s functions count) (refused_at 4 0)
    (gives (total s functions count))))

-- the promise: the answer, and the lent rows
abbrev pub ReadHandlers : List ℕ → List ℕ → ℕ → List ℕ → Result ℕ Refusal → List ℕ → Type 0
ReadHandlers s functions count before =
    Lends answered (handlers_answer s functions count (rows handler_width before)) (put_handlers s functions count before) before
