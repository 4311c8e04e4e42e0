-- What only private contracts cite: no promise rests on it.
-- docs/FORMAT.md, sections 12.3 and 12.4: what is found of the runs and of the strings.
use Rattle.std.specs.Prelude.{ℕ, List, Option, Some, None}
use Rattle.hbc_io.specs.Answer.{Answer, gives, and_then}
use Rattle.hbc_lowest.specs.Lowest.{lowest_of}
use Rattle.hbc_io.specs.Lends.{below}
use Rattle.hbc_clean.specs.Strings.{breaks_runs, run_places, breaks_valid, read_strings}
use Rattle.hbc_clean.specs.Bundle.{Verdict, clean, broken}

-- the lowest place that breaks rule 2, if any does
unfoldable pub run_found : List ℕ → ℕ → Option ℕ
run_found kinds strings =
    below (lowest_of (breaks_runs kinds strings) (run_places kinds)) (run_places kinds) (Some (lowest_of (breaks_runs kinds strings) (run_places kinds))) None

-- the refusal, or the lowest string that is invalid; the kinds may be any
unfoldable pub check_strings : List ℕ → ℕ → List ℕ → List ℕ → List ℕ → Answer ℕ
check_strings kinds strings small overflow storage =
    and_then (read_strings strings small overflow storage) (λ n. gives (lowest_of (breaks_valid kinds small overflow storage) n))

-- rule 2 is broken at a place, or what follows
abbrev pub runs_broken : Option ℕ → Verdict → Verdict
runs_broken None v = v
runs_broken (Some run) v = broken 2 run

-- the first broken rule, of the lowest place of each and how many it has; of rule 2, where it is broken, if it is
abbrev pub first_broken : ℕ → ℕ → Option ℕ → ℕ → ℕ → ℕ → ℕ → ℕ → Verdict
first_broken large count run text texts empty high series =
    below large count (broken 1 large)
    (runs_broken run
    (below text texts (broken 3 text)
    (below empty series (broken 4 empty)
    (below high series (broken 5 high)
    clean))))
