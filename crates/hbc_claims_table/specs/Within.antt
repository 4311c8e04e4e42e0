-- docs/FORMAT.md, section 4.4: the row of a string lies within the storage.
use Rattle.std.specs.Prelude.{ℕ, ◌+◌, ◌≤◌, ◌<◌, ◌≡◌}
use Rattle.hbc_table_strings.specs.declared.row.StringRow.{StringRow}

-- a valid row by its start and end, an invalid one as the empty beginning
pub record Within (storage : ℕ) (r : StringRow) : Type 0 where
  pub starts : r.invalid ≡ 0 → r.start < storage
  pub ends : r.start + r.bytes ≤ storage
  pub blank : (r.invalid ≡ 0 → ⊥) → r.bytes ≡ 0
