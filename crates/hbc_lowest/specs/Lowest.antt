-- docs/FORMAT.md, section 12.1: the lowest number that is so, of the numbers 0 to n - 1.
use Rattle.std.specs.Prelude.{ℕ, zero, suc, Bool, true, false, cond, ltb}

-- one of them is so
unfoldable pub some : (ℕ → Bool) → ℕ → Bool
some b zero = false
some b (suc n) = cond (some b n) true (b n)

-- the lowest that is so, n if none is
unfoldable pub lowest_of : (ℕ → Bool) → ℕ → ℕ
lowest_of b zero = 0
lowest_of b (suc n) = cond (ltb (lowest_of b n) n) (lowest_of b n) (cond (b n) n (suc n))
