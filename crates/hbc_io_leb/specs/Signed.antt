-- docs/FORMAT.md, section 2.3: signed LEB128 numbers: tests of one, and the 64 bits that hold it.
use Rattle.std.specs.Prelude.{ℕ, List, Bool, false, ℤ, pos, negsuc, ltb, leb}
use Rattle.hbc_io.specs.Outcome.{Outcome, valued, low_bits}
use Rattle.hbc_io.specs.declared.Cursor.{Cursor}
use Rattle.hbc_io_leb.specs.Leb.{leb_bytes}
use Rattle.hbc_io_leb.specs.Answers.{sleb_of}
use Rattle.hbc_io_leb.specs.declared.Sleb.{Sleb}
use Rattle.hbc_io_leb.specs.declared.Held.{Held}

-- the signed number at a cursor
unfoldable pub sleb_at : List ℕ → Cursor → Outcome Sleb
sleb_at s c = valued sleb_of (leb_bytes s c)

-- from 0 to m, and from 0 to below m
unfoldable pub up_to : ℕ → ℤ → Bool
up_to m (pos n) = leb n m
up_to m (negsuc n) = false

unfoldable pub under : ℕ → ℤ → Bool
under m (pos n) = ltb n m
under m (negsuc n) = false

-- the number itself, where it is one of those
abbrev pub natural : ℤ → ℕ
natural (pos n) = n
natural (negsuc n) = 0

-- the low 32 bits
unfoldable pub low32 : ℤ → ℕ
low32 z = low_bits 32 z

-- the 64 bits that hold it
unfoldable pub bits_of : ℤ → ℕ
bits_of z = low_bits 64 z

abbrev pub held_of : Sleb → Held
held_of v = record { bits = bits_of v.value; exact = v.exact }
