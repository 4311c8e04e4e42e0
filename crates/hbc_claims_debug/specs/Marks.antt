-- docs/FORMAT.md, section 7.7: what the mark of the debug section says of the numbers that were read.
use Rattle.std.specs.Prelude.{◌≡◌, Bool, true, false, List, ◌∷◌, ◌++◌}
use Rattle.hbc_io_leb.specs.Leb.{dwarf_unsigned, dwarf_signed, unsigned_of, signed_of}
use Rattle.hbc_io_leb.specs.Numbers.{Number, unsigned, signed}

-- the answer to a number is the one that DWARF has for its bytes
abbrev pub IsDwarf : Number → Type 0
IsDwarf (unsigned bs) = unsigned_of bs ≡ dwarf_unsigned bs
IsDwarf (signed bs) = signed_of bs ≡ dwarf_signed bs

-- one of them
pub record Among (xs : List Number) (x : Number) : Type 0 where
  pub before : List Number
  pub behind : List Number
  pub is : xs ≡ before ++ x ∷ behind

-- one of them whose answer is not
pub record Lost (xs : List Number) : Type 0 where
  pub number : Number
  pub among : Among xs number
  pub other : IsDwarf number → ⊥

-- the mark is true exactly when the answer to every one of them is: where it is true each is, and where it is false there is one that is not
pub record Told (e : Bool) (xs : List Number) : Type 0 where
  pub exact : e ≡ true → (x : Number) → Among xs x → IsDwarf x
  pub only : ((x : Number) → Among xs x → IsDwarf x) → e ≡ true
  pub lost : e ≡ false → Lost xs
