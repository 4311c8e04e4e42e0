-- docs/FORMAT.md, section 6.3: a section's entries are read as pairs, by the pair call at its start.
use Rattle.hbc_io.specs.declared.Cursor.{Cursor}
use Rattle.hbc_io.specs.declared.Stopped.{Stopped}
use Rattle.std.specs.Prelude.{Result, Ok, Option, Some, None, ℕ, ◌+◌, ◌*◌, ◌≤◌, ◌≡◌, List, length}
use Rattle.hbc_io.specs.Outcome.{cursor_at}
use Rattle.hbc_rows.specs.Rows.{filled}
use Rattle.hbc_table.specs.Table.{words_from, ReadTable}
use Rattle.hbc_parsing_sections.specs.declared.Section.{Section}

-- given the section's start and entries and a table that holds them, the call is accepted, and the table has the section's words in front
abbrev pub Fits : List ℕ → Section → Type 0
Fits s p = (t : List ℕ) (r : Result Cursor Stopped) (t' : List ℕ) → 2 * p.entries ≤ length t → ReadTable 2 s (cursor_at p.start) p.entries t r t'
    → (r ≡ Ok (cursor_at (p.start + 4 * (2 * p.entries)))) × (t' ≡ filled (words_from s p.start) (2 * p.entries) t)

-- so for sources, where they are given
abbrev pub SourcesFit : List ℕ → Option Section → Type 0
SourcesFit s (Some p) = Fits s p
SourcesFit s None = Unit
