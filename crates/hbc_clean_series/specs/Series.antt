-- docs/FORMAT.md, sections 12.5 and 12.6: no series passes a tag of length 0, and each literal string number is below the string count.
use Rattle.std.specs.Prelude.{ℕ, zero, suc, ◌+◌, ◌*◌, List, Bool, false, cond, not, leb, eqb}
use Rattle.hbc_io.specs.Outcome.{Outcome, got, refused, cursor_at}
use Rattle.hbc_io.specs.Answer.{Answer, gives, and_then}
use Rattle.hbc_rows.specs.Rows.{entry_at, rows}
use Rattle.hbc_buffer.specs.Series.{Run, tag_at, after, kind_at, payload_at, series_answer}
use Rattle.hbc_buffer_object.specs.Object.{named}
use Rattle.hbc_lowest.specs.Lowest.{some, lowest_of}
use Rattle.hbc_clean_series.specs.declared.Lows.{Lows}

-- ---- a row of three words: which buffer (0 the values, else the keys), offset, count

abbrev pub series_width : ℕ
series_width = 3

abbrev pub buffer_of : List ℕ → List ℕ → List ℕ → ℕ → List ℕ
buffer_of keys values table j = named (not (eqb (entry_at table (j * series_width)) 0)) keys values

abbrev pub offset_of : List ℕ → ℕ → ℕ
offset_of table j = entry_at table (j * series_width + 1)

abbrev pub count_of : List ℕ → ℕ → ℕ
count_of table j = entry_at table (j * series_width + 2)

-- ---- one series, in the buffer s

-- a tag that has no values
abbrev pub is_empty : Outcome Run → Bool
is_empty (got t n) = eqb t.left 0
is_empty (refused r n) = false

-- after some values: the run is spent, and the tag that stands there has no values
abbrev pub empty_next : List ℕ → Outcome Run → Bool
empty_next s (got t n) = cond (eqb t.left 0) (is_empty (tag_at s n)) false
empty_next s (refused r n) = false

-- on the way to one of its values it passes a tag of length 0
unfoldable pub passes_empty : List ℕ → ℕ → ℕ → Bool
passes_empty s offset count = some (λ k. empty_next s (after k s (cursor_at offset))) count

-- value k is a string whose number is not below the string count
abbrev pub high_string : ℕ → List ℕ → ℕ → ℕ → Bool
high_string strings s offset k = cond (eqb (kind_at s (cursor_at offset) k) 4) (leb strings (payload_at s (cursor_at offset) k)) false

-- one of its values is
unfoldable pub holds_high : ℕ → List ℕ → ℕ → ℕ → Bool
holds_high strings s offset count = some (high_string strings s offset) count

-- ---- all of them

-- series j passes a tag of length 0
unfoldable pub breaks_empty : List ℕ → List ℕ → List ℕ → ℕ → Bool
breaks_empty keys values table j = passes_empty (buffer_of keys values table j) (offset_of table j) (count_of table j)

-- series j holds a string number that is not below the string count
unfoldable pub breaks_string : ℕ → List ℕ → List ℕ → List ℕ → ℕ → Bool
breaks_string strings keys values table j = holds_high strings (buffer_of keys values table j) (offset_of table j) (count_of table j)

-- the reader's answer for series j, where it is lent room for its values
abbrev pub read_series : List ℕ → List ℕ → List ℕ → ℕ → Answer ℕ
read_series keys values table j =
    series_answer (buffer_of keys values table j) (offset_of table j) (count_of table j) (count_of table j) (count_of table j)

-- the first n series in order: the first refusal
unfoldable pub read_all : List ℕ → List ℕ → List ℕ → ℕ → Answer (Unit {0})
read_all keys values table zero = gives tt
read_all keys values table (suc j) = and_then (read_all keys values table j) (λ _. and_then (read_series keys values table j) (λ _. gives tt))

-- ---- the call

-- the lowest series that breaks each of the two rules
abbrev pub lows : ℕ → ℕ → Lows
lows empty high = record { empty = empty; high = high }

-- the first refusal of a series; else the lowest series that breaks each rule, how many there are where none does
unfoldable pub check_series : ℕ → List ℕ → List ℕ → List ℕ → Answer Lows
check_series strings keys values table =
    and_then (read_all keys values table (rows series_width table)) (λ _.
    gives (lows (lowest_of (breaks_empty keys values table) (rows series_width table))
    (lowest_of (breaks_string strings keys values table) (rows series_width table))))
