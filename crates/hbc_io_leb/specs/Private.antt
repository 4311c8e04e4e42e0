-- What only private contracts cite: no promise rests on it. The middle step of both reads: the low 64 bits of the groups, how many
-- there were, and the last of their bytes.
use Rattle.std.specs.Prelude.{◌≡◌, List, Bool, true, cond, ℕ, ◌-◌, ◌*◌, ◌≤◌, ◌<◌, ℤ, length, get_or, ltb, leb, eqb}
use Rattle.hbc_io.specs.Outcome.{twos, limit}
use Rattle.hbc_io_leb.specs.Leb.{unsigned_of}
use Rattle.hbc_io_leb.specs.declared.Groups.{Groups}

abbrev pub last_of : List ℕ → ℕ
last_of bs = get_or bs (length bs - 1) 0

abbrev pub groups_of : List ℕ → Groups
groups_of bs = record { bits = unsigned_of bs; count = length bs; last = last_of bs }

-- ten groups fill the 64 bits, fewer carry their sign in their highest bit
abbrev pub signed_bits : ℕ → ℕ → ℤ
signed_bits bits count = cond (leb 10 count) (twos 64 bits) (twos (7 * count) bits)

-- whether bits were lost, of count bytes with this last one
abbrev pub exact_u : ℕ → ℕ → Bool
exact_u count last = cond (ltb count 10) true (leb last 1)

abbrev pub exact_s : ℕ → ℕ → Bool
exact_s count last = cond (ltb count 10) true (cond (eqb last 0) true (eqb last 127))

-- a first byte r below 128 is a whole number; else the input is too long or ends before it, or it says that another follows
pub record First (s : List ℕ) (at r : ℕ) : Type 0 where
  pub whole : r < 128 → (length s ≤ limit) × (at < length s) × (r ≡ get_or s at 0)
  pub goes : 128 ≤ r → length s ≤ limit → at < length s → 128 ≤ get_or s at 0
