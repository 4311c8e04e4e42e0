-- docs/FORMAT.md, section 3.9: what an accepted write leaves in the buffer, and what reading it gives. f i is row i, n the buffer's length, e the answer.
use Rattle.hbc_io.specs.declared.Refusal.{Refusal}
use Rattle.std.specs.Prelude.{ℕ, ◌+◌, ◌*◌, ◌%◌, ◌^◌, ◌≤◌, ◌<◌, ◌≡◌, List, [], ◌∷◌, ◌++◌, true, false, cond, length, get_or, take, Result, Ok}
use Rattle.hbc_io.specs.Answer.{gives}
use Rattle.hbc_function_record.specs.declared.Layout.{Layout}
use Rattle.hbc_function_record.specs.declared.Found.{Found}
use Rattle.hbc_function_record.specs.Record.{size_of, large_of}
use Rattle.hbc_function_record.specs.Row.{width, record_width, inline, row_words}
use Rattle.hbc_rows.specs.Rows.{row_at}
use Rattle.hbc_function_header.specs.Header.{header_at, function_at}
use Rattle.hbc_function.specs.Table.{Table, ReadFunctions}
use Rattle.hbc_function_bytes.specs.Bytes.{goes_inline}
use Rattle.hbc_function_write.specs.Write.{rounded, place_at, table_end, WriteFunctions}
use Rattle.hbc_claims_law.specs.Terms.{Either, Behind, flagged, packed_at}

-- every word is a u32
abbrev pub Words : List ℕ → Type 0
Words s = (k : ℕ) → get_or s k 0 < 2 ^ 32

-- given: rows of u32 words, and an accepted write of them, which answers e
pub record Written (rows : List ℕ) (layout : Layout) (start count large : ℕ) (before : List ℕ) (e : ℕ) (after : List ℕ) : Type 0 where
  pub words : Words rows
  pub write : WriteFunctions rows layout start count large before (Ok e) after

-- row i as it is read back: the record's words of the row that was written, and the place where its large header was put, or 2^32 - 1 if it has none
abbrev pub back_at : Layout → (ℕ → List ℕ) → ℕ → ℕ → List ℕ
back_at layout f large i = take record_width (f i) ++ cond (goes_inline layout (f i)) inline (place_at layout f large i) ∷ []

-- then: read into any table with room for the rows, s is accepted: those rows, and behind them every word as it was
abbrev pub ReadsBack : List ℕ → Layout → ℕ → ℕ → ℕ → List ℕ → Type 0
ReadsBack rows layout start count large s =
    (t t' : Table) (r : Result (Unit {0}) Refusal) → count * width ≤ length t.rows → ReadFunctions s layout start count t r t'
    → (r ≡ Ok tt) × ((i : ℕ) → i < count → row_at width t'.rows i ≡ back_at layout (row_at width rows) large i)
    × Behind (count * width) t.rows t'.rows

-- rows below the count have the same words of their records, whatever their places
abbrev pub SameRecords : List ℕ → List ℕ → ℕ → Type 0
SameRecords rows₁ rows₂ count = (i : ℕ) → i < count → take record_width (row_at width rows₁ i) ≡ take record_width (row_at width rows₂ i)

-- what stands in s for row i
pub record Headed (s : List ℕ) (layout : Layout) (f : ℕ → List ℕ) (start large i : ℕ) : Type 0 where
  -- its header is flagged exactly when it does not go inline, and then its packed place is the large header's
  pub inline : goes_inline layout (f i) ≡ true → flagged s layout (header_at layout start i) ≡ false
  pub large_one : goes_inline layout (f i) ≡ false
      → (flagged s layout (header_at layout start i) ≡ true) × (packed_at s layout (header_at layout start i) ≡ place_at layout f large i)
  -- the function is found, and its words are the row as it is read back
  pub read_as : Found
  pub found : function_at s layout start i ≡ gives read_as
  pub is : row_words read_as ≡ back_at layout f large i

-- byte j is of no header, inline or large
pub record Free (layout : Layout) (f : ℕ → List ℕ) (start large count j : ℕ) : Type 0 where
  pub heads : (i : ℕ) → i < count → header_at layout start i ≤ j → j < header_at layout start i + size_of layout → ⊥
  pub larges : (i : ℕ) → i < count → goes_inline layout (f i) ≡ false → place_at layout f large i ≤ j → j < place_at layout f large i + large_of layout → ⊥

-- the buffer is as long as it was, and such a byte is as it was
pub record Kept (layout : Layout) (f : ℕ → List ℕ) (start large count : ℕ) (before after : List ℕ) : Type 0 where
  pub long : length after ≡ length before
  pub rest : (j : ℕ) → Free layout f start large count j → get_or after j 0 ≡ get_or before j 0

-- where things are
pub record Placed (layout : Layout) (f : ℕ → List ℕ) (start large count n e : ℕ) : Type 0 where
  -- the table ends by the large place, and by e; e is in the buffer
  pub table : table_end layout start count ≤ large
  pub by_end : table_end layout start count ≤ e
  pub in_buffer : e ≤ n
  -- every large header is at a multiple of 4, between the large place and e, and behind every earlier one
  pub within : (i : ℕ) → i < count → goes_inline layout (f i) ≡ false
      → (place_at layout f large i % 4 ≡ 0) × (large ≤ place_at layout f large i) × (place_at layout f large i + large_of layout ≤ e)
  -- the first at the next multiple of 4 from the large place on, each other at the next from the end of the one before it
  pub first : (i : ℕ) → i < count → goes_inline layout (f i) ≡ false → ((j : ℕ) → j < i → goes_inline layout (f j) ≡ true)
      → place_at layout f large i ≡ rounded large
  pub next : (i k : ℕ) → i < k → k < count → goes_inline layout (f i) ≡ false → goes_inline layout (f k) ≡ false
      → ((j : ℕ) → i < j → j < k → goes_inline layout (f j) ≡ true) → place_at layout f large k ≡ rounded (place_at layout f large i + large_of layout)
  pub rising : (i k : ℕ) → i < k → k < count → goes_inline layout (f i) ≡ false → goes_inline layout (f k) ≡ false
      → place_at layout f large i + large_of layout ≤ place_at layout f large k
  -- e is where one of them ends, so the last; or there is none, and it is the table's end
  pub end : Either ((i : ℕ) × (i < count) × (goes_inline layout (f i) ≡ false) × (e ≡ place_at layout f large i + large_of layout))
      (((i : ℕ) → i < count → goes_inline layout (f i) ≡ true) × (e ≡ table_end layout start count))
