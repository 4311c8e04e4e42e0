-- docs/FORMAT.md, section 3.6: what reading a table of functions answers, and what the lent words are afterwards.
use Rattle.std.specs.Prelude.{ℕ, zero, suc, ◌+◌, ◌*◌, List, [], Bool, true, false, Result, cond, length}
use Rattle.hbc_io.specs.Answer.{Answer, gives, refuses, refused_at, asked, and_then}
use Rattle.hbc_io.specs.Answers.{answered}
use Rattle.hbc_io.specs.Lends.{below, Lends}
use Rattle.hbc_io.specs.declared.Refusal.{Refusal}
use Rattle.hbc_rows.specs.Rows as rows
use Rattle.hbc_function_record.specs.declared.Layout.{Layout}
use Rattle.hbc_function_record.specs.declared.Found.{Found}
use Rattle.hbc_function_record.specs.Row.{width, row_words}
use Rattle.hbc_function_header.specs.Header.{function_at, opened}
use Rattle.hbc_function_totals.specs.declared.Share.{Share}
use Rattle.hbc_function_totals.specs.declared.Totals.{Totals}
use Rattle.hbc_function_totals.specs.Totals.{share_of, share, totals, sums}

-- ---- functions 0, 1, 2, .. in turn; f i is what reading function i finds

-- n functions so far, and one more
abbrev pub counted : ℕ → Answer Found → Answer ℕ
counted n (gives f) = gives (n + 1)
counted n (refuses x) = refuses x

-- what was found so far, and one function more, which is read only if it is chosen; the first refusal stays
unfoldable pub step : Bool → Answer ℕ → Answer Found → Answer ℕ
step false k a = k
step true k a = and_then k (λ n. counted n a)

-- functions 0 to n - 1, those that are chosen: how many they are, or the first refusal among them
unfoldable pub scan : (ℕ → Bool) → (ℕ → Answer Found) → ℕ → Answer ℕ
scan chosen f zero = gives 0
scan chosen f (suc n) = step (chosen n) (scan chosen f n) (f n)

-- the row that a function puts: the words of what is found; a refusal puts none
abbrev pub row_by : Answer Found → List ℕ
row_by (gives f) = row_words f
row_by (refuses x) = []

-- and what it adds to the totals: the share of its row; a refusal adds nothing
abbrev pub share_by : Answer Found → Share
share_by (gives f) = share_of (row_words f)
share_by (refuses x) = share 0 0

-- nor does a function that is not chosen put a row
abbrev pub row_if : (ℕ → Bool) → (ℕ → Answer Found) → ℕ → List ℕ
row_if chosen f i = cond (chosen i) (row_by (f i)) []

-- t with the rows of those of functions 0 to n - 1 that are chosen
unfoldable pub put_rows : (ℕ → Bool) → (ℕ → Answer Found) → List ℕ → ℕ → List ℕ
put_rows chosen f t n = rows.put_rows width (row_if chosen f) 0 n t

abbrev pub all : ℕ → Bool
all i = true

-- 4: fewer rows are lent than there are functions; else what follows
abbrev pub roomed : {A : Type 0} → ℕ → ℕ → Answer A → Answer A
roomed words count a = below words (count * width) (refused_at 4 0) a

-- ---- reading the table

-- 1, 2, 4, then the functions in order
unfoldable pub read_answer : List ℕ → Layout → ℕ → ℕ → ℕ → Answer (Unit {0})
read_answer s layout start count words = opened s start (roomed words count (asked (scan all (function_at s layout start) count)))

-- ---- what is lent: the words of the rows, and the two totals beside them

pub record Table : Type 0 where
  pub rows : List ℕ
  pub totals : Totals

abbrev pub lent : List ℕ → ℕ → ℕ → Table
lent rows large sizes = record { rows = rows; totals = totals large sizes }

-- the totals that are true of the first n rows of a table: by its own words, whatever was read or refreshed
abbrev pub totals_of : List ℕ → ℕ → Totals
totals_of t n = sums all (λ i. share_of (rows.row_at width t i)) n

-- a table with its own totals
abbrev pub summed : List ℕ → ℕ → Table
summed t n = record { rows = t; totals = totals_of t n }

-- what a read promises: the answer, and what the lent table and totals have become
abbrev pub ReadFunctions : List ℕ → Layout → ℕ → ℕ → Table → Result (Unit {0}) Refusal → Table → Type 0
ReadFunctions s layout start count before =
    Lends answered (read_answer s layout start count (length before.rows))
    (summed (put_rows all (function_at s layout start) before.rows count) count) before
