-- docs/FORMAT.md, sections 7.3, 7.4 and 7.7: "until one fails" is defined with a number of steps; it never cuts a list short.
use Rattle.std.specs.Prelude.{◌≡◌, List, ℕ, ◌+◌, length}
use Rattle.hbc_io.specs.Outcome.{cursor_at}
use Rattle.hbc_io_strings.specs.Strings.{prefixed}
use Rattle.hbc_rows.specs.Until.{until}
use Rattle.hbc_debug_parts.specs.Along.{along}
use Rattle.hbc_debug_strings.specs.Strings.{strings_of, prefix_number, string_numbers}
use Rattle.hbc_debug_scopes.specs.Scopes.{scope_at, scopes_of, numbers_at, scope_numbers}

-- the strings and the scopes of a part are all that k more steps read
pub record AllRead (s : List ℕ) (k : ℕ) : Type 0 where
  pub strings : until (prefixed s) (length s + k) (cursor_at 0) ≡ strings_of s
  -- the names of a scope and the pairs of callees are bounded by the count that the file gives
  pub scopes : until (scope_at s) (length s + k) (cursor_at 0) ≡ scopes_of s
  -- and so are the numbers that are met on the way
  pub string_numbers_lem : along (prefixed s) (prefix_number s) (length s + k) (cursor_at 0) ≡ string_numbers s
  pub scope_numbers_lem : along (scope_at s) (numbers_at s) (length s + k) (cursor_at 0) ≡ scope_numbers s
