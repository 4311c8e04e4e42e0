-- What only private contracts cite: no promise rests on it.
use Rattle.std.specs.Prelude.{ℕ, zero, suc, ◌+◌, ◌*◌, ◌/◌, ◌%◌, ◌^◌, ◌≤◌, ◌<◌, ◌≡◌, List, [], ◌∷◌, Bool, true, false, cond, get_or, eqb}
use Rattle.std.specs.Prelude.{Option, Some, None}
use Rattle.std.specs.Int.Bits.{bit_and}
use Rattle.hbc_rows.specs.Rows.{put}
use Rattle.hbc_function_record.specs.declared.Layout.{Layout}
use Rattle.hbc_function_record.specs.declared.Layout.TheVariants as lay
use Rattle.hbc_function_record.specs.Record.{large_of}
use Rattle.hbc_function_record.specs.Row.{ROW_INFO_OFFSET}
use Rattle.hbc_function_bytes.specs.Bytes.{values_in, goes_inline, inline_bytes, large_bytes, pointer_to, right_row}
use Rattle.hbc_function_write.specs.declared.Plan.{Plan}
use Rattle.hbc_function_write.specs.Write.{rounded, free_at, end_at, table_end, says_end, right_end}

-- the large headers start after the table, and all that is written ends within n bytes
pub record Room (layout : Layout) (f : ℕ → List ℕ) (start large count n : ℕ) : Type 0 where
  pub after : table_end layout start count ≤ large
  pub room : end_at layout f large (table_end layout start count) count ≤ n

-- no row is refused 14
pub record Ends (layout : Layout) (f : ℕ → List ℕ) (large count : ℕ) : Type 0 where
  pub right : (i : ℕ) → i < count → right_end layout f large i ≡ true

-- every row goes inline
pub record Inlines (layout : Layout) (f : ℕ → List ℕ) (count : ℕ) : Type 0 where
  pub all : (i : ℕ) → i < count → goes_inline layout (f i) ≡ true

-- a row that is not refused 14 and is large has an info_offset, in modern
abbrev pub Ended : Layout → List ℕ → Type 0
Ended layout w = layout ≡ lay.Modern12 → goes_inline lay.Modern12 w ≡ false → get_or w ROW_INFO_OFFSET 0 ≡ 0 → ⊥

-- ---- which rows go inline

-- two words from a place on, the first in the low half
unfoldable pub paired : List ℕ → ℕ → ℕ
paired s k = get_or s k 0 + get_or s (k + 1) 0 * 2 ^ 32

-- the words of which these are the pairs
abbrev pub halves : List ℕ → List ℕ
halves [] = []
halves (p ∷ ps) = p % 2 ^ 32 ∷ p / 2 ^ 32 ∷ halves ps

-- in words 0 to n - 1 of a row w none of the bits is set that the masks name
unfoldable pub clear : List ℕ → List ℕ → ℕ → Bool
clear masks w zero = true
clear masks w (suc n) = cond (clear masks w n) (eqb (bit_and (get_or w n 0) (get_or masks n 0)) 0) false

-- a row i that is right and goes inline; of any other that is right is known that it does not
pub record Plain (layout : Layout) (i : ℕ) (w : List ℕ) (r : Bool) : Type 0 where
  pub right : r ≡ true → right_row layout i w ≡ true
  pub inline : r ≡ true → goes_inline layout w ≡ true
  pub large : r ≡ false → right_row layout i w ≡ true → goes_inline layout w ≡ false

-- ---- the check

-- a place that is past every buffer, every table and every info_offset
abbrev pub far : ℕ
far = 1099511627776

-- the first of two that may be there
abbrev pub earlier : Option ℕ → Option ℕ → Option ℕ
earlier (Some k) o = Some k
earlier None o = o

-- the first of rows 0 to n - 1 that fails a test
unfoldable pub first : (ℕ → Bool) → ℕ → Option ℕ
first p zero = None
first p (suc n) = earlier (first p n) (cond (p n) None (Some n))

-- what is known after rows 0 to n - 1: from where on large headers go, the end, and the first row that does not say its own
unfoldable pub plan_of : Layout → (ℕ → List ℕ) → ℕ → ℕ → ℕ → Plan
plan_of layout f large table n = record {
  free = free_at layout f large n;
  end = end_at layout f large table n;
  late = first (right_end layout f large) n;
}

-- with the large header of a row i, of words w
unfoldable pub large_plan : Layout → List ℕ → ℕ → Plan → Plan
large_plan layout w i p = record {
  free = rounded p.free + large_of layout;
  end = rounded p.free + large_of layout;
  late = earlier p.late (cond (says_end layout w (rounded (rounded p.free + large_of layout))) None (Some i));
}

-- what is known with a row i that does not go inline, of words w, if it is right
unfoldable pub looked_at : Layout → List ℕ → ℕ → Plan → Option Plan
looked_at layout w i p = cond (right_row layout i w) (Some (large_plan layout w i p)) None

unfoldable pub next_plan : Layout → List ℕ → ℕ → Plan → Plan
next_plan layout w i p = cond (goes_inline layout w) p (large_plan layout w i p)

-- ---- the writing

-- from where on large headers go after a row of words w
unfoldable pub free_after : Layout → List ℕ → ℕ → ℕ
free_after layout w free = cond (goes_inline layout w) free (rounded free + large_of layout)

-- b with that row's headers, the inline one at a place
unfoldable pub row_put : Layout → ℕ → ℕ → List ℕ → List ℕ → List ℕ
row_put layout at free w b =
    cond (goes_inline layout w) (put at (inline_bytes layout (values_in layout w)) b)
    (put (rounded free) (large_bytes layout (values_in layout w)) (put at (inline_bytes layout (pointer_to layout (rounded free))) b))

pub record PutRow (layout : Layout) (at free : ℕ) (w before : List ℕ) (r : ℕ) (after : List ℕ) : Type 0 where
  pub next : r ≡ free_after layout w free
  pub bytes : after ≡ row_put layout at free w before
