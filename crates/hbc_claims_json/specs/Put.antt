-- docs/FORMAT.md, section 4.9: what strings_json answers and leaves.
use Rattle.std.specs.Prelude.{ℕ, ◌≤◌, ◌<◌, ◌≡◌, List, length, take, Result, Ok, Err}
use Rattle.hbc_io.specs.Outcome.{limit, refusal_at}
use Rattle.hbc_io.specs.declared.Refusal.{Refusal}
use Rattle.hbc_rows.specs.Rows.{rows}
use Rattle.hbc_table_strings.specs.Row.{string_width}
use Rattle.hbc_json.specs.StringsJson.{texts, strings_json}
use Rattle.hbc_claims_text.specs.Put.{Wrote}
use Rattle.hbc_claims_json.specs.Rfc8259.{Reads}

-- of the first count rows of t, s being a storage of bytes
pub record PutsJson (s t : List ℕ) (count : ℕ) (before : List ℕ) (r : Result ℕ Refusal) (after : List ℕ) : Type 0 where
  pub wrote : Wrote (strings_json s t count) before r after
  -- accepted: what stands in front is read by the RFC as the texts, and as no others
  pub reads : (n : ℕ) → r ≡ Ok n → Reads (take n after) (texts s t count)
  pub only_these : (n : ℕ) → r ≡ Ok n → (us : List (List ℕ)) → Reads (take n after) us → us ≡ texts s t count
  -- accepted exactly when the storage is not too long, the rows are there and the array has room
  pub accepted : length s ≤ limit → count ≤ rows string_width t → length (strings_json s t count) ≤ length before → r ≡ Ok (length (strings_json s t count))
  pub only : (n : ℕ) → r ≡ Ok n → (length s ≤ limit) × (count ≤ rows string_width t)
  -- 1 comes before 11, and 11 before 4
  pub too_long : limit < length s → r ≡ Err (refusal_at 1 0)
  pub too_few : length s ≤ limit → rows string_width t < count → r ≡ Err (refusal_at 11 0)
  pub no_room : length s ≤ limit → count ≤ rows string_width t → length before < length (strings_json s t count) → r ≡ Err (refusal_at 4 0)
