-- docs/FORMAT.md, section 2.3: what the mark of a LEB128 number says, of bytes that were read as one: whether the answer is the number that DWARF has
-- for them.
use Rattle.std.specs.Prelude.{◌≡◌, List, ℕ}
use Rattle.hbc_io_leb.specs.Leb.{dwarf_unsigned, dwarf_signed, unsigned_of, signed_of, exact_unsigned, exact_signed}
use Rattle.hbc_claims_law.specs.Terms.{Exactly}

pub record MarkTells (bs : List ℕ) : Type 0 where
  pub unsigned : Exactly (exact_unsigned bs) (unsigned_of bs ≡ dwarf_unsigned bs)
  pub signed : Exactly (exact_signed bs) (signed_of bs ≡ dwarf_signed bs)
