-- docs/FORMAT.md, section 2.1: what the layouts are written in: little-endian numbers and bit fields. Two numbers or-ed bit by bit are `bit_or`
-- of lib.Bits, the language's own `|`; proofs/Laws says of every field what it does there.
use Rattle.std.specs.Prelude.{ℕ, ◌+◌, ◌*◌, ◌/◌, ◌%◌, ◌^◌, List, [], ◌∷◌, take, drop}

-- the number whose bytes these are, the least first
abbrev pub little_endian : List ℕ → ℕ
little_endian [] = 0
little_endian (b ∷ bs) = b + 256 * little_endian bs

-- the number of the n bytes from a place; bytes past the end count as none
unfoldable pub le_at : List ℕ → ℕ → ℕ → ℕ
le_at s at n = little_endian (take n (drop at s))

-- the field (first, width) of a number: its bits first, first + 1, .., first + width - 1
unfoldable pub field : ℕ → ℕ → ℕ → ℕ
field first width n = n / 2 ^ first % 2 ^ width
