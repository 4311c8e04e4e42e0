-- Four bytes as the code adds them up.
use Prim.Native.Nat.{ℕ, ◌+◌, ◌*◌, ◌≤◌}
use mathlib.Core.Path.{◌≡◌}
use mathlib.Core.List.{List}
use lib.ListN.{length, get_or}
use native.Mathlib.Omega.{arith}
use Rattle.hbc_bits.specs.Bits.{le_at}
use Rattle.hbc_bits.proofs.Laws.{le_four}

-- a sum from the last byte on
pub word_is : (s : List ℕ) (at : ℕ) {a b c d : ℕ} → at + 4 ≤ length s → a ≡ get_or s at 0 → b ≡ get_or s (at + 1) 0 → c ≡ get_or s (at + 2) 0 → d ≡ get_or s (at + 3) 0
    → a + 256 * (b + 256 * (c + 256 * d)) ≡ le_at s at 4
word_is s at h p q r w = omega (arith, le_four s at h p q r w)
