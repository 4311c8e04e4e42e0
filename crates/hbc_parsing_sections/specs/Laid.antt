-- docs/FORMAT.md, section 6.3: where the sections lie, one after another from the start to the file's end, the entries of each table within the file.
-- No promise cites it: it is what follows of the answer for whoever lays the sections out as words, and a theorem.
use Rattle.std.specs.Prelude.{Option, Some, None, ℕ, ◌+◌, ◌*◌, ◌≤◌, ◌≡◌, List, length}
use Rattle.hbc_io.specs.Outcome.{limit}
use Rattle.hbc_parsing_sections.specs.declared.Section.{Section}
use Rattle.hbc_parsing_sections.specs.declared.Sections.{Sections}

-- a table's entries are in the file
abbrev pub There : List ℕ → Section → Type 0
There s p = p.start + 8 * p.entries ≤ length s

-- sources given lie between the CJS pairs and the bytecode; absent ones leave no gap
abbrev pub Between : Option Section → ℕ → ℕ → Type 0
Between (Some p) from to = (p.start ≡ from) × (p.start + p.size ≡ to)
Between None from to = from ≡ to

abbrev pub SourcesThere : List ℕ → Option Section → Type 0
SourcesThere s (Some p) = There s p
SourcesThere s None = Unit

pub record Laid (s : List ℕ) (start : ℕ) (v : Sections) : Type 0 where
  pub short : length s ≤ limit
  pub first : v.regexps.start ≡ start
  pub second : v.storage.start ≡ v.regexps.start + v.regexps.size
  pub third : v.cjs.start ≡ v.storage.start + v.storage.size
  pub fourth : Between v.sources (v.cjs.start + v.cjs.size) v.bytecode.start
  pub last : v.bytecode.start + v.bytecode.size ≡ length s
  pub regexps_there : There s v.regexps
  pub cjs_there : There s v.cjs
  pub sources_there : SourcesThere s v.sources
