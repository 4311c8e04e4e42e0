-- docs/FORMAT.md, section 3.4: a record, and the place of its large header, as the words of a row.
use Rattle.std.specs.Prelude.{ℕ, List, [], ◌∷◌, ◌++◌, Result, Ok, Err, eqb, cond}
use Rattle.hbc_function_record.specs.declared.Layout.{Layout}
use Rattle.hbc_function_record.specs.declared.Layout.TheVariants as lay
use Rattle.hbc_function_record.specs.declared.UnknownLayout.{UnknownLayout}
use Rattle.hbc_function_record.specs.declared.Legacy.{Legacy}
use Rattle.hbc_function_record.specs.declared.Modern.{Modern}
use Rattle.hbc_function_record.specs.declared.Record.{Record}
use Rattle.hbc_function_record.specs.declared.Record.TheVariants as rec
use Rattle.hbc_function_record.specs.declared.Found.{Found}
use Rattle.hbc_function_record.specs.Record.{inline_of}

-- the words of a row, and those of them that are its record's, which come first
abbrev pub width : ℕ
width = 17

abbrev pub record_width : ℕ
record_width = 16

-- those that both layouts have, by their place in it
abbrev pub ROW_LAYOUT : ℕ
ROW_LAYOUT = 0

abbrev pub ROW_ID : ℕ
ROW_ID = 1

abbrev pub ROW_OFFSET : ℕ
ROW_OFFSET = 2

abbrev pub ROW_PARAM_COUNT : ℕ
ROW_PARAM_COUNT = 3

abbrev pub ROW_SIZE : ℕ
ROW_SIZE = 4

abbrev pub ROW_NAME : ℕ
ROW_NAME = 5

abbrev pub ROW_INFO_OFFSET : ℕ
ROW_INFO_OFFSET = 6

abbrev pub ROW_FRAME_SIZE : ℕ
ROW_FRAME_SIZE = 7

abbrev pub ROW_FLAGS : ℕ
ROW_FLAGS = 8

-- those of legacy alone
abbrev pub ROW_ENVIRONMENT_SIZE : ℕ
ROW_ENVIRONMENT_SIZE = 9

abbrev pub ROW_READ : ℕ
ROW_READ = 10

abbrev pub ROW_WRITE : ℕ
ROW_WRITE = 11

-- and of modern
abbrev pub ROW_LOOP_DEPTH : ℕ
ROW_LOOP_DEPTH = 9

abbrev pub ROW_NUMBER_REG : ℕ
ROW_NUMBER_REG = 10

abbrev pub ROW_NON_PTR_REG : ℕ
ROW_NON_PTR_REG = 11

abbrev pub ROW_READ_CACHE : ℕ
ROW_READ_CACHE = 12

abbrev pub ROW_WRITE_CACHE : ℕ
ROW_WRITE_CACHE = 13

abbrev pub ROW_NEW_OBJECT : ℕ
ROW_NEW_OBJECT = 14

abbrev pub ROW_PRIVATE_NAME : ℕ
ROW_PRIVATE_NAME = 15

-- behind the record, in both: the place of the large header that it was read from
abbrev pub ROW_LARGE_PLACE : ℕ
ROW_LARGE_PLACE = 16

-- or 2^32 - 1 where it was read from the inline one; a place of a file that is read is below 2^30
abbrev pub inline : ℕ
inline = 4294967295

-- a layout's number
abbrev pub number_in : Layout → ℕ
number_in lay.Legacy16 = 0
number_in lay.Modern12 = 1

-- and the layout of a number, or that there is none
abbrev pub layout_of : ℕ → Result Layout UnknownLayout
layout_of n = cond (eqb n 0) (Ok lay.Legacy16) (cond (eqb n 1) (Ok lay.Modern12) (Err (record { number = n })))

-- layout, id, offset, param_count, size, name, info_offset, frame_size, flags; then environment_size, read, write and four zeros
unfoldable pub legacy_words : Legacy → List ℕ
legacy_words r =
    number_in lay.Legacy16 ∷ r.id ∷ r.offset ∷ r.param_count ∷ r.size ∷ r.name ∷ r.info_offset ∷ r.frame_size ∷ r.flags
    ∷ r.environment_size ∷ r.read ∷ r.write ∷ 0 ∷ 0 ∷ 0 ∷ 0 ∷ []

-- or loop_depth, number_reg, non_ptr_reg, read cache, write cache, new_object, private_name
unfoldable pub modern_words : Modern → List ℕ
modern_words r =
    number_in lay.Modern12 ∷ r.id ∷ r.offset ∷ r.param_count ∷ r.size ∷ r.name ∷ r.info_offset ∷ r.frame_size ∷ r.flags
    ∷ r.loop_depth ∷ r.number_reg ∷ r.non_ptr_reg ∷ r.read_cache ∷ r.write_cache ∷ r.new_object ∷ r.private_name ∷ []

abbrev pub record_words : Record → List ℕ
record_words (rec.Legacy r) = legacy_words r
record_words (rec.Modern r) = modern_words r

-- the row: the record's words, then the place
unfoldable pub row_words : Found → List ℕ
row_words f = record_words f.own ++ f.place ∷ []

-- a record that is found at a place, or `inline`
abbrev pub found_at : ℕ → Record → Found
found_at place r = record { own = r; place = place }

-- what is found in the inline header of function i, by the number of its bytes
abbrev pub inline_found : Layout → ℕ → ℕ → Found
inline_found layout i n = found_at inline (inline_of layout i n)
