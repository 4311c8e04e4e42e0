-- What only private contracts cite: no promise rests on it.
use Rattle.std.specs.Prelude.{ℕ, ◌+◌, ◌%◌, ◌≤◌, ◌<◌}

-- a field of less than 32 bits that lies wholly in one word of 32, as every field of the two lists does
pub record Within (first width : ℕ) : Type 0 where
  pub narrow : width < 32
  pub end : first % 32 + width ≤ 32
