-- docs/FORMAT.md, sections 3.1 to 3.3: the two records, of an inline header by the lists of BitLayout, and of a large one, and where a large one is.
use Rattle.std.specs.Prelude.{ℕ, ◌+◌, ◌*◌, ◌/◌, ◌%◌, ◌^◌, List, Bool, Option, Some, None, length, get_or, eqb}
use Rattle.std.specs.Int.Bits.{bit_or}
use Rattle.hbc_bits.specs.Bits.{le_at, field}
use Rattle.hbc_bits.specs.Fields.{fields_of}
use Rattle.hbc_io.specs.Outcome.{limit}
use Rattle.hbc_io.specs.Lends.{below, choose}
use Rattle.hbc_function_record.specs.BitLayout.{legacy_fields, modern_fields}
use Rattle.hbc_function_record.specs.declared.Layout.{Layout}
use Rattle.hbc_function_record.specs.declared.Layout.TheVariants as lay
use Rattle.hbc_function_record.specs.declared.Legacy.{Legacy}
use Rattle.hbc_function_record.specs.declared.Modern.{Modern}
use Rattle.hbc_function_record.specs.declared.Record.{Record}
use Rattle.hbc_function_record.specs.declared.Record.TheVariants as rec

-- the bytes of an inline header
abbrev pub size_of : Layout → ℕ
size_of lay.Legacy16 = 16
size_of lay.Modern12 = 12

-- and of a large one
abbrev pub large_of : Layout → ℕ
large_of lay.Legacy16 = 31
large_of lay.Modern12 = 37

-- ---- the inline record

-- legacy: the record of function i that has these values, in the order in which both headers hold them
unfoldable pub legacy_by : ℕ → List ℕ → Legacy
legacy_by i vs = record {
  id = i;
  offset = get_or vs 0 0;
  param_count = get_or vs 1 0;
  size = get_or vs 2 0;
  name = get_or vs 3 0;
  info_offset = get_or vs 4 0;
  frame_size = get_or vs 5 0;
  environment_size = get_or vs 6 0;
  read = get_or vs 7 0;
  write = get_or vs 8 0;
  flags = get_or vs 9 0;
}

-- of the number of an inline header's bytes: its fields
unfoldable pub legacy_of : ℕ → ℕ → Legacy
legacy_of i n = legacy_by i (fields_of legacy_fields n)

-- modern: likewise; info_offset is not among them
unfoldable pub modern_by : ℕ → ℕ → List ℕ → Modern
modern_by i info vs = record {
  id = i;
  offset = get_or vs 0 0;
  param_count = get_or vs 1 0;
  loop_depth = get_or vs 2 0;
  size = get_or vs 3 0;
  name = get_or vs 4 0;
  number_reg = get_or vs 5 0;
  non_ptr_reg = get_or vs 6 0;
  frame_size = get_or vs 7 0;
  read_cache = get_or vs 8 0;
  write_cache = get_or vs 9 0;
  new_object = get_or vs 10 0;
  private_name = get_or vs 11 0;
  flags = get_or vs 12 0;
  info_offset = info;
}

-- inline, info_offset is 0
unfoldable pub modern_of : ℕ → ℕ → Modern
modern_of i n = modern_by i 0 (fields_of modern_fields n)

-- the record of function i by that number
unfoldable pub inline_of : Layout → ℕ → ℕ → Record
inline_of lay.Legacy16 i n = rec.Legacy (legacy_of i n)
inline_of lay.Modern12 i n = rec.Modern (modern_of i n)

-- ---- the large record

-- legacy: seven u32 and three bytes
unfoldable pub legacy_large : List ℕ → ℕ → ℕ → Legacy
legacy_large s at i = record {
  id = i;
  offset = le_at s at 4;
  param_count = le_at s (at + 4) 4;
  size = le_at s (at + 8) 4;
  name = le_at s (at + 12) 4;
  info_offset = le_at s (at + 16) 4;
  frame_size = le_at s (at + 20) 4;
  environment_size = le_at s (at + 24) 4;
  read = le_at s (at + 28) 1;
  write = le_at s (at + 29) 1;
  flags = le_at s (at + 30) 1;
}

-- modern: eight u32 and five bytes; info_offset is the place after it, rounded up to 4
unfoldable pub modern_large : List ℕ → ℕ → ℕ → Modern
modern_large s at i = record {
  id = i;
  offset = le_at s at 4;
  param_count = le_at s (at + 4) 4;
  loop_depth = le_at s (at + 8) 4;
  size = le_at s (at + 12) 4;
  name = le_at s (at + 16) 4;
  number_reg = le_at s (at + 20) 4;
  non_ptr_reg = le_at s (at + 24) 4;
  frame_size = le_at s (at + 28) 4;
  read_cache = le_at s (at + 32) 1;
  write_cache = le_at s (at + 33) 1;
  new_object = le_at s (at + 34) 1;
  private_name = le_at s (at + 35) 1;
  flags = le_at s (at + 36) 1;
  info_offset = (at + large_of lay.Modern12 + 3) / 4 * 4;
}

-- the record of function i whose large header is at a place
unfoldable pub large_at : List ℕ → Layout → ℕ → ℕ → Record
large_at s lay.Legacy16 at i = rec.Legacy (legacy_large s at i)
large_at s lay.Modern12 at i = rec.Modern (modern_large s at i)

-- as a call of its own: every field but id is 0 in a file of more than 2^30 bytes, and where its bytes are not all there
unfoldable pub large_in : List ℕ → Layout → ℕ → ℕ → Record
large_in s layout at i = below limit (length s) (inline_of layout i 0) (below (length s) (at + large_of layout) (inline_of layout i 0) (large_at s layout at i))

-- ---- what a header is flagged for

unfoldable pub flags_of : Record → ℕ
flags_of (rec.Legacy r) = r.flags
flags_of (rec.Modern r) = r.flags

-- the overflow flag is bit 5 of the flags
unfoldable pub overflowed : ℕ → Bool
overflowed flags = eqb (field 5 1 flags) 1

-- the packed place: info_offset times 65536, or-ed with offset
unfoldable pub legacy_place : Legacy → ℕ
legacy_place r = bit_or (r.info_offset * 65536) r.offset

-- name times 2^24, or-ed with the low 24 bits of offset
unfoldable pub modern_place : Modern → ℕ
modern_place r = bit_or (r.name * 2 ^ 24) (r.offset % 2 ^ 24)

unfoldable pub place_of : Record → ℕ
place_of (rec.Legacy r) = legacy_place r
place_of (rec.Modern r) = modern_place r

-- a large header at its packed place, or nothing but itself
unfoldable pub link_of : Record → Option ℕ
link_of r = choose (overflowed (flags_of r)) (Some (place_of r)) None
