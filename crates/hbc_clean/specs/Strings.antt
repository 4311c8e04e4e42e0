-- docs/FORMAT.md, sections 12.3 and 12.4: kind lengths add up to the string count with no empty run; each string is valid in Hermes mode.
use Rattle.std.specs.Prelude.{ℕ, suc, ◌*◌, List, Bool, cond, not, length, replicate, ltb, eqb}
use Rattle.hbc_io.specs.Answer.{Answer}
use Rattle.hbc_table_strings.specs.declared.Mode.TheVariants.{Hermes}
use Rattle.hbc_table_strings.specs.Hermes.{run_length, lengths}
use Rattle.hbc_table_strings.specs.Row.{string_width, row_of}
use Rattle.hbc_table_strings.specs.Strings.{lesser, decode_answer}

-- ---- kind runs

-- run r is empty
abbrev pub empty_run : List ℕ → ℕ → Bool
empty_run kinds r = eqb (run_length kinds r) 0

-- the lengths of all runs do not add up to the string count
abbrev pub wrong_sum : List ℕ → ℕ → Bool
wrong_sum kinds strings = not (eqb (lengths kinds (length kinds)) strings)

-- an empty run; and one place more, the number of runs, stands for their sum
unfoldable pub breaks_runs : List ℕ → ℕ → ℕ → Bool
breaks_runs kinds strings r = cond (ltb r (length kinds)) (empty_run kinds r) (wrong_sum kinds strings)

abbrev pub run_places : List ℕ → ℕ
run_places kinds = suc (length kinds)

-- ---- strings

-- string i is invalid in Hermes mode
unfoldable pub breaks_valid : List ℕ → List ℕ → List ℕ → List ℕ → ℕ → Bool
breaks_valid kinds small overflow storage i = eqb (row_of Hermes kinds small overflow (length storage) i).invalid 1

-- the reader's answer in Hermes mode, where it is lent as many rows as strings are decoded
unfoldable pub read_strings : ℕ → List ℕ → List ℕ → List ℕ → Answer ℕ
read_strings strings small overflow storage =
    decode_answer Hermes strings small overflow storage (replicate (lesser strings (length small) * string_width) 0)
