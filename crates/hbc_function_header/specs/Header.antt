-- docs/FORMAT.md, sections 3.5 and 3.7: one function, what it is read from, where its record is, and the record or the refusal; its row.
use Rattle.std.specs.Prelude.{ℕ, ◌+◌, ◌*◌, List, Option, Some, None, Result, Ok, Err, length, eqb}
use Rattle.hbc_bits.specs.Bits.{le_at}
use Rattle.hbc_io.specs.Outcome.{limit}
use Rattle.hbc_io.specs.Answer.{Answer, gives, refuses, refused_at, asked}
use Rattle.hbc_io.specs.Answers.{number_of, answered}
use Rattle.hbc_io.specs.declared.Reason.{Reason}
use Rattle.hbc_io.specs.declared.Reason.TheVariants as reason
use Rattle.hbc_io.specs.declared.Refusal.{Refusal}
use Rattle.hbc_io.specs.Lends.{below, choose, Lends}
use Rattle.hbc_function_record.specs.declared.Layout.{Layout}
use Rattle.hbc_function_record.specs.declared.Found.{Found}
use Rattle.hbc_function_record.specs.Record.{size_of, large_of, inline_of, large_at, link_of}
use Rattle.hbc_function_record.specs.Row.{width, row_words, found_at, inline_found}
use Rattle.hbc_function_header.specs.declared.Ground.{Ground}
use Rattle.hbc_function_header.specs.declared.Ground.TheVariants as ground

-- where the header of function i starts, in a table at start
abbrev pub header_at : Layout → ℕ → ℕ → ℕ
header_at layout start i = start + i * size_of layout

-- ---- what a function is read from

-- its own bytes, from a place, and, if flagged, those of a large header at its packed place
abbrev pub ground_by : ℕ → Option ℕ → Ground
ground_by at None = ground.Inline at
ground_by at (Some place) = ground.Large at place

-- of a header that is in the file
abbrev pub ground_here : List ℕ → Layout → ℕ → Ground
ground_here s layout at = ground_by at (link_of (inline_of layout 0 (le_at s at (size_of layout))))

-- nothing where its own bytes are not in the file
unfoldable pub ground_of : List ℕ → Layout → ℕ → Option Ground
ground_of s layout at = below (length s) (at + size_of layout) None (Some (ground_here s layout at))

-- function i of the table at start
unfoldable pub ground_at : List ℕ → Layout → ℕ → ℕ → Option Ground
ground_at s layout start i = ground_of s layout (header_at layout start i)

-- ---- where its record is

-- in its own header, which is None, or in a large one at a place; of a large header having n bytes: 2 where its place is past the end, 3 where bytes run
-- past it
unfoldable pub where_of : List ℕ → ℕ → Option Ground → Result (Option ℕ) Reason
where_of s n None = Err reason.Cut
where_of s n (Some (ground.Inline at)) = Ok None
where_of s n (Some (ground.Large at place)) =
    below (length s) place (Err reason.PastEnd) (below (length s) (place + n) (Err reason.Cut) (Ok (Some place)))

unfoldable pub where_at : List ℕ → Layout → ℕ → Result (Option ℕ) Reason
where_at s layout at = where_of s (large_of layout) (ground_of s layout at)

-- ---- the record

-- a large header at a place is found with that place
abbrev pub large_found : List ℕ → Layout → ℕ → ℕ → Found
large_found s layout place i = found_at place (large_at s layout place i)

-- what is found there; a large header's flags are the record's, and are not followed
abbrev pub found : List ℕ → Layout → ℕ → ℕ → Result (Option ℕ) Reason → Answer Found
found s layout at i (Ok None) = gives (inline_found layout i (le_at s at (size_of layout)))
found s layout at i (Ok (Some place)) = gives (large_found s layout place i)
found s layout at i (Err k) = refused_at (number_of k) i

unfoldable pub record_at : List ℕ → Layout → ℕ → ℕ → Answer Found
record_at s layout at i = found s layout at i (where_at s layout at)

-- function i of the table at start: its record and where that was, or 2 or 3 at i
unfoldable pub function_at : List ℕ → Layout → ℕ → ℕ → Answer Found
function_at s layout start i = record_at s layout (header_at layout start i) i

-- 1 and 2, for the file and the start, come before all else
abbrev pub opened : {A : Type 0} → List ℕ → ℕ → Answer A → Answer A
opened s start a = below limit (length s) (refused_at 1 0) (below (length s) start (refused_at 2 0) a)

-- the answer for one function
unfoldable pub read_function : List ℕ → Layout → ℕ → ℕ → Answer Found
read_function s layout start i = opened s start (function_at s layout start i)

-- 3 at i where its own header is not wholly in the file; else what follows
abbrev pub headed : {A : Type 0} → List ℕ → Layout → ℕ → ℕ → Answer A → Answer A
headed s layout start i a = below (length s) (header_at layout start i + size_of layout) (refused_at 3 i) a

-- the answer for what it is read from; whether a large header is wholly in the file is not looked at
unfoldable pub function_ground : List ℕ → Layout → ℕ → ℕ → Answer Ground
function_ground s layout start i = opened s start (headed s layout start i (gives (ground_here s layout (header_at layout start i))))

-- ---- a lent row

-- the words of what is found, or as it was where that is nothing
abbrev pub row_of : Answer Found → List ℕ → List ℕ
row_of (gives f) before = row_words f
row_of (refuses x) before = before

-- 1, 2, then 4 where the words lent are not one row, then the function
unfoldable pub row_answer : List ℕ → Layout → ℕ → ℕ → ℕ → Answer (Unit {0})
row_answer s layout start i words = opened s start (choose (eqb words width) (asked (function_at s layout start i)) (refused_at 4 0))

-- what the call for one row promises: the answer, and what the lent row has become
abbrev pub FunctionRow : List ℕ → Layout → ℕ → ℕ → List ℕ → Result (Unit {0}) Refusal → List ℕ → Type 0
FunctionRow s layout start i before =
    Lends answered (row_answer s layout start i (length before)) (row_of (function_at s layout start i) before) before
