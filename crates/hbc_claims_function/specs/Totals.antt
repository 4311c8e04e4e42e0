-- docs/FORMAT.md, section 3.10: the totals beside a table, by the table's own words.
use Rattle.std.specs.Prelude.{ℕ, ◌+◌, ◌*◌, ◌-◌, ◌^◌, ◌≤◌, ◌<◌, ◌≡◌, List, Bool, true, cond, get_or, eqb, Ok}
use Rattle.hbc_io.specs.Answer.{gives, asked}
use Rattle.hbc_function_record.specs.declared.Layout.{Layout}
use Rattle.hbc_function_record.specs.Row.{width, ROW_SIZE, ROW_LARGE_PLACE}
use Rattle.hbc_function_header.specs.Header.{function_at}
use Rattle.hbc_function_header.specs.Meets.{meets}
use Rattle.hbc_function_totals.specs.declared.Totals.{Totals}
use Rattle.hbc_function_totals.specs.Totals.{sum}
use Rattle.hbc_function.specs.Table.{all, share_by, Table}
use Rattle.hbc_function.specs.Refresh.{RefreshFunctions}

-- row i of any table: 1 if it was read from a large header, which is if its 17th word is not 2^32 - 1, else 0; and its size word
abbrev pub one_if_large : List ℕ → ℕ → ℕ
one_if_large t i = cond (eqb (get_or t (i * width + ROW_LARGE_PLACE) 0) (2 ^ 32 - 1)) 0 1

abbrev pub size_word : List ℕ → ℕ → ℕ
size_word t i = get_or t (i * width + ROW_SIZE) 0

-- the totals are true of the first `count` rows
pub record True (t : Table) (count : ℕ) : Type 0 where
  pub large : t.totals.large ≡ sum all (one_if_large t.rows) count
  pub sizes : t.totals.sizes ≡ sum all (size_word t.rows) count

-- an accepted refresh of any table and totals, in which k rows, the chosen ones, were exchanged
pub record Moved (chosen : ℕ → Bool) (count k : ℕ) (t t' : Table) : Type 0 where
  -- what the chosen rows add to a total is taken out as they were, and added as they are
  pub large : t'.totals.large + sum chosen (one_if_large t.rows) count ≡ t.totals.large + sum chosen (one_if_large t'.rows) count
  pub sizes : t'.totals.sizes + sum chosen (size_word t.rows) count ≡ t.totals.sizes + sum chosen (size_word t'.rows) count
  -- and if there is one, neither total is above 2^63 - 1
  pub most : 0 < k → (t'.totals.large < 2 ^ 63) × (t'.totals.sizes < 2 ^ 63)

-- taking out an old row's numbers and adding a new one's: a total falls below 0, or is above 2^63 - 1
pub data Fails (now : Totals) (oldLarge oldSize newLarge newSize : ℕ) : Type 0 where
  large_below : now.large < oldLarge → Fails now oldLarge oldSize newLarge newSize
  sizes_below : now.sizes < oldSize → Fails now oldLarge oldSize newLarge newSize
  large_above : 2 ^ 63 ≤ now.large - oldLarge + newLarge → Fails now oldLarge oldSize newLarge newSize
  sizes_above : 2 ^ 63 ≤ now.sizes - oldSize + newSize → Fails now oldLarge oldSize newLarge newSize

-- a refresh that is refused 16 at row i
pub record Stopped (s : List ℕ) (layout : Layout) (start count low high : ℕ) (t : Table) (i : ℕ) : Type 0 where
  -- function i meets the span, and each that does can be read
  pub within : i < count
  pub met : meets s layout start low high i ≡ true
  pub read : (j : ℕ) → j < count → meets s layout start low high j ≡ true → asked (function_at s layout start j) ≡ gives tt
  -- of the functions before i alone the refresh is accepted: i is the first
  pub k : ℕ
  pub before : Table
  pub first : RefreshFunctions s layout start i low high t (Ok k) before
  -- and with the totals that it leaves, row i of the table cannot be exchanged for function i of the file
  pub fails : Fails before.totals (one_if_large t.rows i) (size_word t.rows i)
      (share_by (function_at s layout start i)).large (share_by (function_at s layout start i)).size

-- an accepted refresh, and row i, which was exchanged: of the functions before i alone it is accepted too, and with the totals that it leaves row i can be
-- exchanged for function i of the file
pub record Passed (s : List ℕ) (layout : Layout) (start low high : ℕ) (t : Table) (i : ℕ) : Type 0 where
  pub k : ℕ
  pub before : Table
  pub first : RefreshFunctions s layout start i low high t (Ok k) before
  pub fits : Fails before.totals (one_if_large t.rows i) (size_word t.rows i)
      (share_by (function_at s layout start i)).large (share_by (function_at s layout start i)).size → ⊥
