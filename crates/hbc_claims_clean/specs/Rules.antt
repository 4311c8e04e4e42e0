-- docs/FORMAT.md, sections 12.2 to 12.6: the five rules as statements: what breaks one at a place, and what it means that one holds.
use Rattle.std.specs.Prelude.{ℕ, ◌+◌, ◌≤◌, ◌<◌, ◌≡◌, ◌⊎◌, List, Some, length}
use Rattle.hbc_io.specs.Outcome.{got, cursor_at}
use Rattle.hbc_io.specs.declared.Cursor.{Cursor}
use Rattle.hbc_function_record.specs.Record.{large_of}
use Rattle.hbc_function_header.specs.declared.Ground.TheVariants as ground
use Rattle.hbc_function_header.specs.Header.{ground_at}
use Rattle.hbc_table_strings.specs.declared.Mode.TheVariants.{Hermes}
use Rattle.hbc_table_strings.specs.Hermes.{run_length, lengths}
use Rattle.hbc_table_strings.specs.Row.{row_of}
use Rattle.hbc_buffer.specs.Series.{Run, tag_at, after, kind_at, payload_at}
use Rattle.hbc_clean_large.specs.Large.{table_end}
use Rattle.hbc_clean_series.specs.Series.{buffer_of, offset_of, count_of}
use Rattle.hbc_clean.specs.Bundle.{Given, strings_of, series_of}
use Rattle.hbc_claims_law.specs.Terms.{Shared}

-- ---- 1: large headers start at or after the table's end and share no bytes

-- function i has a large header, which starts at p
pub record LargeAt (g : Given) (i p : ℕ) : Type 0 where
  pub low : i < g.count
  pub own : ℕ
  pub is : ground_at g.file g.layout g.start i ≡ Some (ground.Large own p)

-- byte b is in the large header at p and in the one at q
abbrev pub InBoth : Given → ℕ → ℕ → ℕ → Type 0
InBoth g p q b = Shared p (large_of g.layout) q (q + large_of g.layout) b

-- another function has a large header with which the one at p has a byte in common
pub record SharesWith (g : Given) (i p : ℕ) : Type 0 where
  pub other : ℕ
  pub apart : i ≡ other → ⊥
  pub place : ℕ
  pub large : LargeAt g other place
  pub byte : ℕ
  pub in_both : InBoth g p place byte

abbrev pub end_of : Given → ℕ
end_of g = table_end g.layout g.start g.count

-- function i breaks it
pub record BreaksLarge (g : Given) (i : ℕ) : Type 0 where
  pub place : ℕ
  pub large : LargeAt g i place
  pub why : (place < end_of g) ⊎ SharesWith g i place

pub record LargeTidy (g : Given) : Type 0 where
  pub late : (i p : ℕ) → LargeAt g i p → end_of g ≤ p
  pub apart : (i j p q b : ℕ) → LargeAt g i p → LargeAt g j q → (i ≡ j → ⊥) → InBoth g p q b → ⊥

-- ---- 2: kind lengths add up to the string count with no empty run

-- an empty run; or, as the number of runs, that the sum is another
pub record BreaksRuns (g : Given) (r : ℕ) : Type 0 where
  pub why : ((r < length g.kinds) × (run_length g.kinds r ≡ 0)) ⊎ ((r ≡ length g.kinds) × (lengths g.kinds (length g.kinds) ≡ g.strings → ⊥))

pub record RunsTidy (g : Given) : Type 0 where
  pub full : (r : ℕ) → r < length g.kinds → run_length g.kinds r ≡ 0 → ⊥
  pub sum : lengths g.kinds (length g.kinds) ≡ g.strings

-- ---- 3: each string is valid in Hermes mode

pub record BreaksValid (g : Given) (i : ℕ) : Type 0 where
  pub low : i < strings_of g
  pub invalid : (row_of Hermes g.kinds g.small g.overflow (length g.storage) i).invalid ≡ 1

pub record StringsValid (g : Given) : Type 0 where
  pub each : (i : ℕ) → i < strings_of g → (row_of Hermes g.kinds g.small g.overflow (length g.storage) i).invalid ≡ 0

-- ---- 4: no series passes a length-0 tag

abbrev pub buffer_in : Given → ℕ → List ℕ
buffer_in g j = buffer_of g.keys g.values g.series j

-- value k of series j is one that is asked for
pub record Asked (g : Given) (j k : ℕ) : Type 0 where
  pub low : j < series_of g
  pub within : k < count_of g.series j

-- and on the way to it, after the k values before it, stands a tag that has none
pub record EmptyTag (g : Given) (j k : ℕ) : Type 0 where
  pub run : Run
  pub at : Cursor
  pub past : after k (buffer_in g j) (cursor_at (offset_of g.series j)) ≡ got run at
  pub spent : run.left ≡ 0
  pub tag : Run
  pub next : Cursor
  pub there : tag_at (buffer_in g j) at ≡ got tag next
  pub empty : tag.left ≡ 0

pub record BreaksEmpty (g : Given) (j : ℕ) : Type 0 where
  pub value : ℕ
  pub asked : Asked g j value
  pub tag : EmptyTag g j value

pub record SeriesFull (g : Given) : Type 0 where
  pub none : (j k : ℕ) → Asked g j k → EmptyTag g j k → ⊥

-- ---- 5: each literal string number is below the string count

abbrev pub kind_in : Given → ℕ → ℕ → ℕ
kind_in g j k = kind_at (buffer_in g j) (cursor_at (offset_of g.series j)) k

abbrev pub payload_in : Given → ℕ → ℕ → ℕ
payload_in g j k = payload_at (buffer_in g j) (cursor_at (offset_of g.series j)) k

pub record BreaksString (g : Given) (j : ℕ) : Type 0 where
  pub value : ℕ
  pub asked : Asked g j value
  pub string : kind_in g j value ≡ 4
  pub high : g.strings ≤ payload_in g j value

pub record StringsKnown (g : Given) : Type 0 where
  pub each : (j k : ℕ) → Asked g j k → kind_in g j k ≡ 4 → payload_in g j k < g.strings

-- ---- all five

pub record Clean (g : Given) : Type 0 where
  pub large : LargeTidy g
  pub runs : RunsTidy g
  pub strings : StringsValid g
  pub series : SeriesFull g
  pub literals : StringsKnown g
