-- docs/FORMAT.md, section 3.8: two files that agree on some bytes.
use Rattle.std.specs.Prelude.{ℕ, ◌≤◌, ◌<◌, ◌≡◌, List, get_or}

-- a and b have the same bytes from lo up to hi
pub record Agree (a b : List ℕ) (lo hi : ℕ) : Type 0 where
  pub at : (j : ℕ) → lo ≤ j → j < hi → get_or a j 0 ≡ get_or b j 0
