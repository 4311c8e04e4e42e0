-- docs/FORMAT.md, section 6.1: why a function has no handlers, or how many it has and where.
use Rattle.std.specs.Prelude.{Result, Ok, Err, ℕ, suc, ◌+◌, ◌*◌, ◌≡◌, List, length, leb, eqb}
use Rattle.hbc_bits.specs.Bits.{le_at, field}
use Rattle.hbc_io.specs.Outcome.{limit}
use Rattle.hbc_io.specs.Answer.{Answer, gives, refused_at}
use Rattle.hbc_io.specs.Answers.{answered}
use Rattle.hbc_io.specs.Lends.{below, choose}
use Rattle.hbc_io.specs.Plain.{aligned_up}
use Rattle.hbc_io.specs.declared.Refusal.{Refusal}
use Rattle.hbc_rows.specs.Rows.{entry_at, rows}
use Rattle.hbc_function_record.specs.Row.{width, ROW_INFO_OFFSET, ROW_FLAGS}
use Rattle.hbc_parsing_handlers.specs.declared.Table.{Table}
use Rattle.hbc_parsing_handlers.specs.declared.Reason.{Reason}
use Rattle.hbc_parsing_handlers.specs.declared.Reason.TheVariants as r

-- so many handlers, the first of them at a place
abbrev pub table : ℕ → ℕ → Table
table count place = record { count = count; place = place }

-- a count above this is none
abbrev pub most : ℕ
most = 1000

-- the bytes of a handler in the file: start, end and target, four each
abbrev pub handler_bytes : ℕ
handler_bytes = 12

-- a count at a place: none if it is 0 or above the most, or a triple is cut
unfoldable pub counted : List ℕ → ℕ → ℕ → Result Table Reason
counted s at count =
    choose (eqb count 0) (Err r.CountZero)
    (below most count (Err r.CountHigh)
    (below (length s) (at + 4 + handler_bytes * count) (Err r.Cut)
    (Ok (table count (at + 4)))))

-- none if the place leaves no 4 bytes
unfoldable pub table_at : List ℕ → ℕ → Result Table Reason
table_at s at = below (length s) (at + 4) (Err r.NoRoom) (counted s at (le_at s at 4))

-- none if the flag, bit 3, is clear, info_offset is 0 or at or past the length; else what stands at the place rounded up to 4
unfoldable pub why_at : List ℕ → ℕ → ℕ → Result Table Reason
why_at s info flags =
    choose (eqb (field 3 1 flags) 0) (Err r.FlagClear)
    (choose (eqb info 0) (Err r.InfoZero)
    (choose (leb (length s) info) (Err r.InfoPast)
    (table_at s (aligned_up 4 info))))

-- the words of row i that are read
abbrev pub info_in : List ℕ → ℕ → ℕ
info_in functions i = entry_at functions (i * width + ROW_INFO_OFFSET)

abbrev pub flags_in : List ℕ → ℕ → ℕ
flags_in functions i = entry_at functions (i * width + ROW_FLAGS)

-- row i is function i
unfoldable pub why : List ℕ → List ℕ → ℕ → Result Table Reason
why s functions i = why_at s (info_in functions i) (flags_in functions i)

-- the handlers shown: none for every reason
abbrev pub shown_by : Result Table Reason → Table
shown_by (Ok t) = t
shown_by (Err x) = table 0 0

unfoldable pub shown : List ℕ → List ℕ → ℕ → Table
shown s functions i = shown_by (why s functions i)

-- ---- asked of one function

-- the reasons in their order, by number
abbrev pub reason_number : Reason → ℕ
reason_number r.FlagClear = 1
reason_number r.InfoZero = 2
reason_number r.InfoPast = 3
reason_number r.NoRoom = 4
reason_number r.CountZero = 5
reason_number r.CountHigh = 6
reason_number r.Cut = 7

-- 1, then 11 if the function has no row
unfoldable pub why_answer : List ℕ → List ℕ → ℕ → Answer (Result Table Reason)
why_answer s functions id =
    below limit (length s) (refused_at 1 0)
    (below (rows width functions) (suc id) (refused_at 11 0)
    (gives (why s functions id)))

-- the promise: the answer; nothing is lent to be written
abbrev pub WhyNoHandlers : List ℕ → List ℕ → ℕ → Result (Result Table Reason) Refusal → Type 0
WhyNoHandlers s functions id r = answered r ≡ why_answer s functions id
