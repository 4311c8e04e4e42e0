-- docs/FORMAT.md, section 4.2: kind runs. Bit 31 set is identifier, the low 31 bits the length.
use Rattle.std.specs.Prelude.{ℕ, zero, suc, ◌+◌, ◌-◌, List, cond, eqb}
use Rattle.hbc_bits.specs.Bits.{field}
use Rattle.hbc_rows.specs.Rows.{entry_at}
use Rattle.hbc_table_strings.specs.declared.kinds.Held.{Held}

-- 1 identifier, 0 string; past the last run a string
unfoldable pub run_kind : List ℕ → ℕ → ℕ
run_kind kinds run = field 31 1 (entry_at kinds run)

-- hold a run, its length as remaining
unfoldable pub holding : List ℕ → ℕ → Held
holding kinds run = record { run = run; left = field 0 31 (entry_at kinds run) }

-- before each string, if remaining is 0, move on one run
unfoldable pub moved_on : List ℕ → Held → Held
moved_on kinds h = cond (eqb h.left 0) (holding kinds (h.run + 1)) h

-- remaining falls by one, not below 0
abbrev pub spent : Held → Held
spent h = record { run = h.run; left = h.left - 1 }

-- what is held before string i
unfoldable pub held_at : List ℕ → ℕ → Held
held_at kinds zero = holding kinds 0
held_at kinds (suc i) = spent (moved_on kinds (held_at kinds i))

-- the kind of string i
unfoldable pub kind_of : List ℕ → ℕ → ℕ
kind_of kinds i = run_kind kinds (moved_on kinds (held_at kinds i)).run
