-- docs/FORMAT.md, section 2.7: LEB128 numbers that were read, one after another, and whether each is exact.
use Rattle.std.specs.Prelude.{List, [], ◌∷◌, Bool, ℕ}
use Rattle.hbc_io.specs.Outcome.{Outcome, got, refused}
use Rattle.hbc_io.specs.declared.Cursor.{Cursor}
use Rattle.hbc_io_leb.specs.Leb.{exact_unsigned, exact_signed}

-- a number that was read: its bytes, and as what they are taken
pub data Number : Type 0 where
  unsigned : List ℕ → Number
  signed : List ℕ → Number

unfoldable pub exact : Number → Bool
exact (unsigned bs) = exact_unsigned bs
exact (signed bs) = exact_signed bs

-- the number that was read, and those that are read from its end on; a failed read is no number, and none is read after it
abbrev pub and_next : (List ℕ → Number) → Outcome (List ℕ) → (Cursor → List Number) → List Number
and_next taken (got bs n) more = taken bs ∷ more n
and_next taken (refused r n) more = []

-- the last of them
abbrev pub no_more : Cursor → List Number
no_more c = []
