-- docs/FORMAT.md, section 3.10: the two totals over rows of functions, and what exchanging a row for another makes of them.
use Rattle.std.specs.Prelude.{ℕ, zero, suc, ◌+◌, ◌-◌, List, Bool, true, false, cond, eqb}
use Rattle.hbc_io.specs.Answer.{Answer, gives, refused_at, and_then}
use Rattle.hbc_io.specs.Lends.{below}
use Rattle.hbc_rows.specs.Rows.{entry_at}
use Rattle.hbc_function_record.specs.Row.{ROW_SIZE, ROW_LARGE_PLACE, inline}
use Rattle.hbc_function_totals.specs.declared.Share.{Share}
use Rattle.hbc_function_totals.specs.declared.Totals.{Totals}

-- ---- what a row adds to the totals

-- 1 if it was read from a large header, which any row says whose last word is not 2^32 - 1; else 0
unfoldable pub large_row : List ℕ → ℕ
large_row row = cond (eqb (entry_at row ROW_LARGE_PLACE) inline) 0 1

-- its size word
unfoldable pub size_row : List ℕ → ℕ
size_row row = entry_at row ROW_SIZE

abbrev pub share : ℕ → ℕ → Share
share large size = record { large = large; size = size }

abbrev pub share_of : List ℕ → Share
share_of row = share (large_row row) (size_row row)

-- ---- sums

-- the sum of those of the numbers f 0 to f (n - 1) that are chosen
unfoldable pub sum : (ℕ → Bool) → (ℕ → ℕ) → ℕ → ℕ
sum chosen f zero = 0
sum chosen f (suc n) = sum chosen f n + cond (chosen n) (f n) 0

abbrev pub totals : ℕ → ℕ → Totals
totals large sizes = record { large = large; sizes = sizes }

-- both totals, of those of the shares f 0 to f (n - 1) that are chosen
abbrev pub sums : (ℕ → Bool) → (ℕ → Share) → ℕ → Totals
sums chosen f n = totals (sum chosen (λ i. (f i).large) n) (sum chosen (λ i. (f i).size) n)

-- ---- a row exchanged

-- the most that a total may be after a row was added: 2^63 - 1
abbrev pub most : ℕ
most = 9223372036854775807

-- row i: the old one is taken out of both totals, then the new one added to both; 16 where one falls below 0, or is above `most` afterwards
unfoldable pub exchanged : ℕ → Totals → Share → Share → Answer Totals
exchanged i now old new =
    below now.large old.large (refused_at 16 i)
    (below now.sizes old.size (refused_at 16 i)
    (below most (now.large - old.large + new.large) (refused_at 16 i)
    (below most (now.sizes - old.size + new.size) (refused_at 16 i)
    (gives (totals (now.large - old.large + new.large) (now.sizes - old.size + new.size))))))

-- the totals after one row more, if it is chosen; the first refusal stays
unfoldable pub next : Bool → Answer Totals → (Totals → Answer Totals) → Answer Totals
next false a f = a
next true a f = and_then a f

-- after those of rows 0 to n - 1 that are chosen, in rising order
unfoldable pub kept : (ℕ → Bool) → (ℕ → Share) → (ℕ → Share) → Totals → ℕ → Answer Totals
kept chosen old new before zero = gives before
kept chosen old new before (suc n) = next (chosen n) (kept chosen old new before n) (λ now. exchanged n now (old n) (new n))
