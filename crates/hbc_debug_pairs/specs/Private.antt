-- What only private contracts cite: no promise rests on it.
use Rattle.std.specs.Prelude.{ℕ, ◌%◌, cond, ltb, None, Some}
use Rattle.hbc_debug_pairs.specs.Pairs.{addresses}
use Rattle.hbc_debug_pairs.specs.declared.Pair.{Pair}

-- a pair of n strings from the 64 bits of its two numbers
unfoldable pub pair_bits : ℕ → ℕ → ℕ → Pair
pair_bits n a b =
    cond (ltb b n) (record { address = a % addresses; name = Some b }) (record { address = a % addresses; name = None })
