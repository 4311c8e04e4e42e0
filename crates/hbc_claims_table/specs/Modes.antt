-- docs/FORMAT.md, section 4.7: the two modes of decoding strings.
use Rattle.std.specs.Prelude.{ℕ, suc, ◌/◌, ◌≤◌, ◌<◌, ◌≡◌, List, length}
use Rattle.hbc_rows.specs.Rows.{entry_at}
use Rattle.hbc_table_strings.specs.declared.Mode.{Mode}
use Rattle.hbc_table_strings.specs.declared.Mode.TheVariants.{Hermes}
use Rattle.hbc_table_strings.specs.Kinds.{run_kind}
use Rattle.hbc_table_strings.specs.Hermes.{run_length, lengths, kind_in}
use Rattle.hbc_table_strings.specs.Entries.{offset_of, units_of, pairs_taken, pair_of}
use Rattle.hbc_table_strings.specs.Row.{row_with, row_of}

-- ---- which run

-- the kinds of Hermes mode, by the lengths of runs, added up
pub record ByLengths (kinds : List ℕ) : Type 0 where
  -- a string whose number is below all the lengths together is one of the strings of one run
  pub some : (i : ℕ) → i < lengths kinds (length kinds) → (run : ℕ) × (run < length kinds) × (lengths kinds run ≤ i) × (i < lengths kinds (suc run))
  -- and of that run's kind
  pub is : (i run : ℕ) → lengths kinds run ≤ i → i < lengths kinds (suc run) → kind_in Hermes kinds i ≡ run_kind kinds run
  -- past the last run it is a plain string
  pub past : (i : ℕ) → lengths kinds (length kinds) ≤ i → kind_in Hermes kinds i ≡ 0

-- ---- which pair

-- of the first n strings each of length 255 has its pair: in order the next, in Hermes mode the one whose number is in the offset field
abbrev pub PairsThere : Mode → List ℕ → List ℕ → ℕ → Type 0
PairsThere mode small overflow n = (i : ℕ) → i < n → units_of (entry_at small i) ≡ 255 → pair_of mode small i < length overflow / 2

-- string i, one of the first n, is the first of length 255 that has not
pub record FirstLacking (mode : Mode) (small overflow : List ℕ) (n i : ℕ) : Type 0 where
  pub one : i < n
  pub long : units_of (entry_at small i) ≡ 255
  pub lacks : length overflow / 2 ≤ pair_of mode small i
  pub before : PairsThere mode small overflow i

-- a row of Hermes mode: its kind by the lengths, and of length 255 the pair whose number is in the offset field
abbrev pub AsHermes : List ℕ → List ℕ → List ℕ → ℕ → ℕ → Type 0
AsHermes kinds small overflow storage i =
    row_of Hermes kinds small overflow storage i ≡ row_with (entry_at small i) (kind_in Hermes kinds i) overflow (offset_of (entry_at small i)) storage

-- ---- where the modes are one

-- those of the first n strings that have length 255 have the numbers of the pairs in their offset fields, in order, and no run is empty
pub record Tidy (kinds small : List ℕ) (n : ℕ) : Type 0 where
  pub own : (i : ℕ) → i < n → units_of (entry_at small i) ≡ 255 → offset_of (entry_at small i) ≡ pairs_taken small i
  pub full : (run : ℕ) → run < length kinds → 0 < run_length kinds run
