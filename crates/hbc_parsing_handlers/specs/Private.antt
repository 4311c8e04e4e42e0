-- What only private contracts cite: no promise rests on it.
-- docs/FORMAT.md, section 6.1: the handlers of a function, with what their reader has to know.
use Rattle.std.specs.Prelude.{ℕ, ◌+◌, ◌*◌, ◌≤◌, ◌≡◌, List, length}
use Rattle.hbc_parsing_handlers.specs.declared.Table.{Table}
use Rattle.hbc_parsing_handlers.specs.Why.{most, handler_bytes, shown}

-- t has the handlers that function i shows: no more than the most, and all of them in the file
pub record Found (s functions : List ℕ) (i : ℕ) (t : Table) : Type 0 where
  pub is : t ≡ shown s functions i
  pub few : t.count ≤ most
  pub room : t.place + handler_bytes * t.count ≤ length s
