-- docs/FORMAT.md, section 8.2: what the calls on string tables hand back through numbers and tables that the caller lends.
use Rattle.std.specs.Prelude.{◌≡◌, List, ℕ, ◌+◌, ◌≤◌, length, take, drop}
use Rattle.hbc_io.specs.Outcome.{cursor_at}
use Rattle.hbc_io.specs.Answers.{says_moved, answered}
use Rattle.hbc_table.specs.Table.{ReadTable}
use Rattle.hbc_table_strings.specs.declared.Mode.{Mode}
use Rattle.hbc_table_strings.specs.Strings.{DecodeStrings}
use Rattle.hbc_table_bytes.specs.StringBytes.{string_span, string_bytes}
use Rattle.hbc_c_code.specs.Told.{Told, ToldFrom}

-- a table of entries of so many words: the cursor at, and the table
abbrev pub ToldTable : ℕ → List ℕ → ℕ → ℕ → List ℕ → ℕ → ℕ → List ℕ → Type 0
ToldTable width s at count before = ToldFrom says_moved (ReadTable width s (cursor_at at) count before)

-- string rows: accepted, the answer is how many
abbrev pub ToldStrings : Mode → ℕ → List ℕ → List ℕ → List ℕ → List ℕ → List ℕ → ℕ → List ℕ → Type 0
ToldStrings mode count kinds small overflow storage before = Told (λ n. n) answered (DecodeStrings mode count kinds small overflow storage before)

-- start and length of the string's part, which lies within the storage and is the one that string_bytes hands back
pub record ToldPart (storage rows : List ℕ) (index start len : ℕ) : Type 0 where
  pub starts : start ≡ (string_span storage rows index).start
  pub lasts : len ≡ (string_span storage rows index).len
  pub inside : start + len ≤ length storage
  pub is : take len (drop start storage) ≡ string_bytes storage rows index
