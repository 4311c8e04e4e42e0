-- docs/FORMAT.md, section 1.4: what a refused table read leaves.
use Rattle.std.specs.Prelude.{ℕ, ◌≡◌, List}
use Rattle.hbc_io.specs.declared.Cursor.{Cursor}

-- the lent table and the cursor, both as they were
abbrev pub TableLeft : Cursor → List ℕ → Cursor → List ℕ → Type 0
TableLeft c before stays after = (after ≡ before) × (stays ≡ c)
