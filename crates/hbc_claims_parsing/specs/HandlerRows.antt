-- docs/FORMAT.md, section 6.2: the words that the handlers' reader reads of a row.
use Rattle.std.specs.Prelude.{ℕ, ◌≡◌, List}
use Rattle.hbc_function_record.specs.declared.Record.{Record}
use Rattle.hbc_function_record.specs.declared.Record.TheVariants as rec
use Rattle.hbc_function_record.specs.declared.Found.{Found}
use Rattle.hbc_function_record.specs.Record.{flags_of}
use Rattle.hbc_function_record.specs.Row.{row_words}
use Rattle.hbc_parsing_handlers.specs.Why.{info_in, flags_in}

-- a record's info_offset
abbrev pub info_of : Record → ℕ
info_of (rec.Legacy r) = r.info_offset
info_of (rec.Modern r) = r.info_offset

-- row i of t has info_offset and flags of a record
pub record OfRecord (r : Record) (t : List ℕ) (i : ℕ) : Type 0 where
  pub info : info_in t i ≡ info_of r
  pub flags : flags_in t i ≡ flags_of r

-- the words that are read are a header row's info_offset and flags
abbrev pub HeaderWords : Type 0
HeaderWords = (r : Found) → OfRecord r.own (row_words r) 0
