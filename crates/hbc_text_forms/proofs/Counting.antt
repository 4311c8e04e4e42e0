-- A text's length counted against the room there is, whatever the text: what a loop knows, and each exit.
use Prim.Native.Nat.{ℕ, ◌+◌, ◌-◌, ◌≤◌, ◌<◌}
use mathlib.Core.Path.{◌≡◌}
use native.Mathlib.Nat.{zero-add}
use native.Mathlib.Omega.{arith}

-- n of the total are counted, and the rest is left
pub record Counting (total room n rest : ℕ) : Type 0 where
  pub fits : n ≤ room
  pub sum : n + rest ≡ total

pub count_none : (total room : ℕ) → Counting total room 0 total
count_none total room = record { fits = omega arith; sum = zero-add total }

module _ {total room n rest : ℕ} (c : Counting total room n rest) where
  -- nothing is left
  pub count_all : rest ≡ 0 → (n ≡ total) × (total ≤ room)
  count_all h = (omega (arith, c.sum), omega (arith, c.sum, c.fits))

  -- k more are counted, or do not fit
  module _ (k more : ℕ) (e : rest ≡ k + more) where
    pub count_more : k ≤ room - n → Counting total room (n + k) more
    count_more h = record { fits = omega (arith, c.fits); sum = omega (arith, c.sum) }

    pub count_long : room - n < k → room < total
    count_long h = omega (arith, c.sum)
