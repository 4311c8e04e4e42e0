-- docs/FORMAT.md, section 3.4: the words of a row that both layouts have, by their names: the record's, and the place behind them.
use Rattle.std.specs.Prelude.{ℕ, ◌≡◌, List, length, get_or, take}
use Rattle.hbc_function_record.specs.declared.Layout.TheVariants as lay
use Rattle.hbc_function_record.specs.declared.Legacy.{Legacy}
use Rattle.hbc_function_record.specs.declared.Modern.{Modern}
use Rattle.hbc_function_record.specs.declared.Found.{Found}
use Rattle.hbc_function_record.specs.Row.{width, record_width, legacy_words, modern_words, record_words, row_words, number_in, ROW_LARGE_PLACE}
use Rattle.hbc_function_record.specs.Row.{ROW_LAYOUT, ROW_ID, ROW_OFFSET, ROW_PARAM_COUNT, ROW_SIZE, ROW_NAME, ROW_INFO_OFFSET, ROW_FRAME_SIZE, ROW_FLAGS}

abbrev pub At : List ℕ → ℕ → ℕ → Type 0
At words place value = get_or words place 0 ≡ value

pub record NamedLegacy (r : Legacy) : Type 0 where
  pub layout : At (legacy_words r) ROW_LAYOUT (number_in lay.Legacy16)
  pub id : At (legacy_words r) ROW_ID r.id
  pub offset : At (legacy_words r) ROW_OFFSET r.offset
  pub param_count : At (legacy_words r) ROW_PARAM_COUNT r.param_count
  pub size : At (legacy_words r) ROW_SIZE r.size
  pub name : At (legacy_words r) ROW_NAME r.name
  pub info_offset : At (legacy_words r) ROW_INFO_OFFSET r.info_offset
  pub frame_size : At (legacy_words r) ROW_FRAME_SIZE r.frame_size
  pub flags : At (legacy_words r) ROW_FLAGS r.flags

pub record NamedModern (r : Modern) : Type 0 where
  pub layout : At (modern_words r) ROW_LAYOUT (number_in lay.Modern12)
  pub id : At (modern_words r) ROW_ID r.id
  pub offset : At (modern_words r) ROW_OFFSET r.offset
  pub param_count : At (modern_words r) ROW_PARAM_COUNT r.param_count
  pub size : At (modern_words r) ROW_SIZE r.size
  pub name : At (modern_words r) ROW_NAME r.name
  pub info_offset : At (modern_words r) ROW_INFO_OFFSET r.info_offset
  pub frame_size : At (modern_words r) ROW_FRAME_SIZE r.frame_size
  pub flags : At (modern_words r) ROW_FLAGS r.flags

pub record NamedRow (f : Found) : Type 0 where
  pub long : length (row_words f) ≡ width
  pub first : take record_width (row_words f) ≡ record_words f.own
  pub place : At (row_words f) ROW_LARGE_PLACE f.place
