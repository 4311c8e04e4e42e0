-- docs/FORMAT.md, section 4.9: the array of the first strings of rows.
use Rattle.std.specs.Prelude.{ℕ, zero, suc, ◌+◌, ◌*◌, ◌≤◌, ◌<◌, ◌≡◌, List, [], length, get_or}
use Rattle.hbc_table_bytes.specs.StringBytes.{string_bytes}
use Rattle.hbc_text.specs.StringText.{string_text}
use Rattle.hbc_json.specs.StringsJson.{texts, strings_json}
use Rattle.hbc_claims_json.specs.Array.{OfTexts}

-- room for any n strings that have as many bytes as those of the first n rows: two, and three and six times its bytes for each
unfoldable pub ample : List ℕ → List ℕ → ℕ → ℕ
ample s t zero = 2
ample s t (suc n) = ample s t n + (3 + 6 * length (string_bytes s t n))

-- of a storage s, each number of which is a byte, and rows t of any numbers
pub record OfRows (s t : List ℕ) (count : ℕ) : Type 0 where
  -- so many texts, in the rows' order
  pub many : length (texts s t count) ≡ count
  pub each : (k : ℕ) → k < count → get_or (texts s t count) k [] ≡ string_text s t k
  -- what the RFC reads of the array, and of no other texts
  pub array : OfTexts (texts s t count)
  pub most : length (strings_json s t count) ≤ ample s t count
