-- docs/FORMAT.md, section 2.3: what is answered of a number's bytes.
use Rattle.std.specs.Prelude.{List, ℕ}
use Rattle.hbc_io_leb.specs.Leb.{unsigned_of, signed_of, exact_unsigned, exact_signed}
use Rattle.hbc_io_leb.specs.declared.Uleb.{Uleb}
use Rattle.hbc_io_leb.specs.declared.Sleb.{Sleb}

abbrev pub uleb_of : List ℕ → Uleb
uleb_of bs = record { value = unsigned_of bs; exact = exact_unsigned bs }

abbrev pub sleb_of : List ℕ → Sleb
sleb_of bs = record { value = signed_of bs; exact = exact_signed bs }
