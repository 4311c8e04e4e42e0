-- docs/FORMAT.md, section 4.7: which run a string has in Hermes mode, after Hermes's published StringKind::Entry, a kind (bit 31) and a count of strings (the
-- low 31 bits): runs name the strings in order, each as many as it counts. Which pair is in Entries.antt.
use Rattle.std.specs.Prelude.{ℕ, zero, suc, ◌+◌, List, cond, length, ltb}
use Rattle.hbc_bits.specs.Bits.{field}
use Rattle.hbc_rows.specs.Rows.{entry_at}
use Rattle.hbc_table_strings.specs.declared.Mode.{Mode}
use Rattle.hbc_table_strings.specs.declared.Mode.TheVariants.{InOrder, Hermes}
use Rattle.hbc_table_strings.specs.Kinds.{run_kind, kind_of}

-- how many strings a run names
unfoldable pub run_length : List ℕ → ℕ → ℕ
run_length kinds run = field 0 31 (entry_at kinds run)

-- the lengths of the first runs, so many, added up
unfoldable pub lengths : List ℕ → ℕ → ℕ
lengths kinds zero = 0
lengths kinds (suc run) = lengths kinds run + run_length kinds run

-- of the first n runs, the first whose lengths, added up, exceed i; n if none is so
unfoldable pub first_past : List ℕ → ℕ → ℕ → ℕ
first_past kinds i zero = 0
first_past kinds i (suc n) = cond (ltb i (lengths kinds n)) (first_past kinds i n) (cond (ltb i (lengths kinds (suc n))) n (suc n))

-- the run of string i
abbrev pub run_of : List ℕ → ℕ → ℕ
run_of kinds i = first_past kinds i (length kinds)

-- the kind of string i
abbrev pub kind_in : Mode → List ℕ → ℕ → ℕ
kind_in InOrder kinds i = kind_of kinds i
kind_in Hermes kinds i = run_kind kinds (run_of kinds i)
