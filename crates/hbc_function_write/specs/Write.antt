-- docs/FORMAT.md, section 3.9: what writing a table of functions answers, and what the lent buffer is afterwards. All numbers are natural ones: nothing
-- wraps. f i is row i.
use Rattle.std.specs.Prelude.{ℕ, zero, suc, ◌+◌, ◌*◌, ◌/◌, List, Bool, true, cond, length, get_or, eqb, Result}
use Rattle.hbc_io.specs.declared.Refusal.{Refusal}
use Rattle.hbc_io.specs.Answer.{Answer, gives, refused_at, and_then}
use Rattle.hbc_io.specs.Answers.{answered}
use Rattle.hbc_io.specs.Lends.{below, Lends}
use Rattle.hbc_rows.specs.Rows.{put, row_at}
use Rattle.hbc_function_record.specs.declared.Layout.{Layout}
use Rattle.hbc_function_record.specs.declared.Layout.TheVariants as lay
use Rattle.hbc_function_record.specs.Record.{size_of, large_of}
use Rattle.hbc_function_record.specs.Row.{width, ROW_INFO_OFFSET}
use Rattle.hbc_function_header.specs.Header.{header_at, opened}
use Rattle.hbc_function_bytes.specs.Bytes.{values_in, goes_inline, inline_bytes, large_bytes, pointer_to, right_row}

-- ---- where things go

-- the next multiple of 4
abbrev pub rounded : ℕ → ℕ
rounded n = (n + 3) / 4 * 4

-- from where on large headers go once rows 0 to i - 1 have theirs: a place to begin with, then the end of the last
unfoldable pub free_at : Layout → (ℕ → List ℕ) → ℕ → ℕ → ℕ
free_at layout f large zero = large
free_at layout f large (suc i) = cond (goes_inline layout (f i)) (free_at layout f large i) (rounded (free_at layout f large i) + large_of layout)

-- row i's large header, if it has one: at the next multiple of 4
unfoldable pub place_at : Layout → (ℕ → List ℕ) → ℕ → ℕ → ℕ
place_at layout f large i = rounded (free_at layout f large i)

-- the end of what rows 0 to i - 1 take: the table's, or that of the last large header
unfoldable pub end_at : Layout → (ℕ → List ℕ) → ℕ → ℕ → ℕ → ℕ
end_at layout f large table zero = table
end_at layout f large table (suc i) = cond (goes_inline layout (f i)) (end_at layout f large table i) (place_at layout f large i + large_of layout)

-- the table's end
abbrev pub table_end : Layout → ℕ → ℕ → ℕ
table_end layout start count = start + count * size_of layout

-- ---- what is written

-- the values of row i's inline header: its own, or where its large one is
unfoldable pub head_of : Layout → (ℕ → List ℕ) → ℕ → ℕ → List ℕ
head_of layout f large i = cond (goes_inline layout (f i)) (values_in layout (f i)) (pointer_to layout (place_at layout f large i))

-- the bytes b with row i's large header, if it has one
unfoldable pub put_large : Layout → (ℕ → List ℕ) → ℕ → ℕ → List ℕ → List ℕ
put_large layout f large i b = cond (goes_inline layout (f i)) b (put (place_at layout f large i) (large_bytes layout (values_in layout (f i))) b)

-- with row i: its inline header, and the large one
unfoldable pub put_header : Layout → (ℕ → List ℕ) → ℕ → ℕ → ℕ → List ℕ → List ℕ
put_header layout f start large i b = put_large layout f large i (put (header_at layout start i) (inline_bytes layout (head_of layout f large i)) b)

-- with rows 0 to n - 1, and no other byte
unfoldable pub put_headers : Layout → (ℕ → List ℕ) → ℕ → ℕ → ℕ → List ℕ → List ℕ
put_headers layout f start large zero b = b
put_headers layout f start large (suc n) b = put_header layout f start large n (put_headers layout f start large n b)

-- ---- what is refused

-- a modern row that is large says where its large header ends, rounded up to 4; in legacy there is no such thing
abbrev pub says_end : Layout → List ℕ → ℕ → Bool
says_end lay.Legacy16 w end = true
says_end lay.Modern12 w end = eqb (get_or w ROW_INFO_OFFSET 0) end

unfoldable pub right_end : Layout → (ℕ → List ℕ) → ℕ → ℕ → Bool
right_end layout f large i = cond (goes_inline layout (f i)) true (says_end layout (f i) (rounded (place_at layout f large i + large_of layout)))

-- the first of rows 0 to n - 1 that fails a test is refused, with a number; else nothing is
unfoldable pub checked : ℕ → (ℕ → Bool) → ℕ → Answer (Unit {0})
checked k p zero = gives tt
checked k p (suc n) = and_then (checked k p n) (λ u. cond (p n) (gives tt) (refused_at k n))

-- a test of all rows, and what follows where none is refused
unfoldable pub follows : {A : Type 0} → Answer (Unit {0}) → Answer A → Answer A
follows a o = and_then a (λ u. o)

-- 13: layout, id, zeros or byte-wide fields of a row are wrong; looked for over all rows before 14: a large row does not say its end
abbrev pub right_rows : {A : Type 0} → List ℕ → Layout → ℕ → ℕ → Answer A → Answer A
right_rows rows layout count large o =
    follows (checked 13 (λ i. right_row layout i (row_at width rows i)) count) (follows (checked 14 (right_end layout (row_at width rows) large) count) o)

-- 15: the large place is before the table's end; then 4: the buffer is shorter than what is written; else where that ends
abbrev pub fitting : ℕ → ℕ → ℕ → ℕ → Answer ℕ
fitting large table end room = below large table (refused_at 15 0) (below room end (refused_at 4 0) (gives end))

-- 1, 2 for the start, 11, 13, 14, 15, 4
unfoldable pub write_answer : List ℕ → Layout → ℕ → ℕ → ℕ → List ℕ → Answer ℕ
write_answer rows layout start count large b =
    opened b start (below (length rows) (count * width) (refused_at 11 0) (right_rows rows layout count large
    (fitting large (table_end layout start count) (end_at layout (row_at width rows) large (table_end layout start count) count) (length b))))

-- what a write promises: the answer, which is the end of what was written or the refusal, and what the lent buffer has become
abbrev pub WriteFunctions : List ℕ → Layout → ℕ → ℕ → ℕ → List ℕ → Result ℕ Refusal → List ℕ → Type 0
WriteFunctions rows layout start count large before =
    Lends answered (write_answer rows layout start count large before) (put_headers layout (row_at width rows) start large count before) before
