-- docs/FORMAT.md, section 3.4: the last word of a row tells where its record was read from.
use Rattle.std.specs.Prelude.{ℕ, ◌+◌, ◌-◌, ◌^◌, ◌≤◌, ◌<◌, ◌≡◌, List, true, false, length, get_or, take}
use Rattle.hbc_bits.specs.Bits.{le_at}
use Rattle.hbc_function_record.specs.declared.Layout.{Layout}
use Rattle.hbc_function_record.specs.Record.{size_of, large_of, inline_of, large_at}
use Rattle.hbc_function_record.specs.Row.{record_width, record_words, ROW_LARGE_PLACE}
use Rattle.hbc_claims_law.specs.Terms.{flagged, packed_at}

-- the last word of a row, and those before it
abbrev pub place_in : List ℕ → ℕ
place_in row = get_or row ROW_LARGE_PLACE 0

abbrev pub record_in : List ℕ → List ℕ
record_in row = take record_width row

-- the row of function i, whose header is at a place
pub record Tells (s : List ℕ) (layout : Layout) (at i : ℕ) (row : List ℕ) : Type 0 where
  -- a header that is not flagged: 2^32 - 1, and the record is that header's own
  pub own : flagged s layout at ≡ false → (place_in row ≡ 2 ^ 32 - 1) × (record_in row ≡ record_words (inline_of layout i (le_at s at (size_of layout))))
  -- a flagged one: its packed place, and the record is that of the large header there
  pub large : flagged s layout at ≡ true → (place_in row ≡ packed_at s layout at) × (record_in row ≡ record_words (large_at s layout (place_in row) i))
  -- which of the two the word tells: only of a header that is not flagged it is 2^32 - 1
  pub only : place_in row ≡ 2 ^ 32 - 1 → flagged s layout at ≡ false
  -- and any other is below 2^30, and the large header that it names lies in the file
  pub below : (place_in row ≡ 2 ^ 32 - 1 → ⊥) → (place_in row < 2 ^ 30) × (place_in row + large_of layout ≤ length s)
