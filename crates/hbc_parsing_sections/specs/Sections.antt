-- docs/FORMAT.md, section 6.3: the trailing sections from a start.
-- Refusals, all at place 0, follow the file: 1, 2 for the start, then each section's bytes (3) and padding (2).
use Rattle.std.specs.Prelude.{Option, Some, None, ℕ, ◌-◌, ◌*◌, List, Bool, cond}
use Rattle.hbc_io.specs.Outcome.{Outcome, got, cursor_at, left, valued, and_then}
use Rattle.hbc_io.specs.Plain.{bytes_at, seek_to, align_to}
use Rattle.hbc_io.specs.declared.Cursor.{Cursor}
use Rattle.hbc_parsing_sections.specs.declared.Section.{Section}
use Rattle.hbc_parsing_sections.specs.declared.Sections.{Sections}

abbrev pub section : ℕ → ℕ → ℕ → Section
section start size entries = record { start = start; size = size; entries = entries }

-- so many bytes, padded to 4 in the file: the section's start, its size with padding, its entries
unfoldable pub section_at : ℕ → ℕ → List ℕ → Cursor → Outcome Section
section_at bytes entries s c =
    and_then (bytes_at bytes s c) (λ p next.
    and_then (align_to s next 4) (λ _ end.
    got (section c.at (end.at - c.at) entries) end))

-- 8 bytes an entry
unfoldable pub pairs_at : ℕ → List ℕ → Cursor → Outcome Section
pairs_at count s c = section_at (8 * count) count s c

-- function sources if given; those not asked for are none
unfoldable pub sources_at : Bool → ℕ → List ℕ → Cursor → Outcome (Option Section)
sources_at given count s c = cond given (valued Some (pairs_at count s c)) (got None c)

-- regexp table, regexp storage, CJS pairs, function sources if given; then bytecode to the end
unfoldable pub sections_from : ℕ → ℕ → ℕ → Bool → ℕ → List ℕ → Cursor → Outcome Sections
sections_from regexps storage cjs given sources s c =
    and_then (pairs_at regexps s c) (λ a p.
    and_then (section_at storage 0 s p) (λ b q.
    and_then (pairs_at cjs s q) (λ d u.
    and_then (sources_at given sources s u) (λ e v.
    got (record { regexps = a; storage = b; cjs = d; sources = e; bytecode = section v.at (left s v) 0 }) v))))

-- and all of them from a start in the file
unfoldable pub sections_at : ℕ → ℕ → ℕ → ℕ → Bool → ℕ → List ℕ → Outcome Sections
sections_at start regexps storage cjs given sources s =
    and_then (seek_to s (cursor_at 0) start) (λ _ c. sections_from regexps storage cjs given sources s c)
