-- What only private contracts cite: no promise rests on it.
use Rattle.std.specs.Prelude.{ℕ, zero, suc, ◌+◌, ◌-◌, List, cond, length, ltb, eqb}
use Rattle.hbc_table_strings.specs.declared.Mode.{Mode}
use Rattle.hbc_table_strings.specs.declared.Mode.TheVariants.{InOrder, Hermes}
use Rattle.hbc_table_strings.specs.declared.kinds.Held.{Held}
use Rattle.hbc_table_strings.specs.Kinds.{holding, moved_on}
use Rattle.hbc_table_strings.specs.Hermes.{run_length}

-- from a run on, the first of the next k that is not empty, or the run after them
unfoldable pub full_among : List ℕ → ℕ → ℕ → ℕ
full_among kinds zero run = run
full_among kinds (suc k) run = cond (eqb (run_length kinds run) 0) (full_among kinds k (run + 1)) run

unfoldable pub next_full : List ℕ → ℕ → ℕ
next_full kinds run = full_among kinds (length kinds - run) run

-- where nothing remains, the next run that is not empty, as long as there are runs
unfoldable pub passed_on : List ℕ → Held → Held
passed_on kinds h = cond (eqb h.left 0) (cond (ltb h.run (length kinds)) (holding kinds (next_full kinds (h.run + 1))) h) h

-- how a string comes by its run
abbrev pub moved_in : Mode → List ℕ → Held → Held
moved_in InOrder kinds h = moved_on kinds h
moved_in Hermes kinds h = passed_on kinds h
