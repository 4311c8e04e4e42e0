-- docs/FORMAT.md, section 7.2: the debug section at an offset, its header and its three parts.
use Rattle.std.specs.Prelude.{◌≡◌, ℕ, ◌+◌, ◌-◌, ◌*◌, List, Bool, true, cond, length, ltb, leb, eqb, Result}
use Rattle.std.specs.Borrow.{Bor}
use Rattle.hbc_io.specs.Outcome.{limit}
use Rattle.hbc_io.specs.Plain.{word_at, part_of, span_of, IsPart}
use Rattle.hbc_io.specs.Answer.{Answer, gives, refused_at}
use Rattle.hbc_io.specs.Answers.{answered}
use Rattle.hbc_io.specs.declared.Refusal.{Refusal}
use Rattle.hbc_io.specs.Lends.{below, choose}
use Rattle.hbc_debug_parts.specs.Places.{in_file, in_section}
use Rattle.hbc_debug_parts.specs.declared.InFile.{InFile}
use Rattle.hbc_debug_parts.specs.declared.InSection.{InSection}
use Rattle.hbc_debug_parts.specs.declared.InData.{InData}
use Rattle.hbc_debug_parts.specs.declared.Header.{Header}
use Rattle.hbc_debug_parts.specs.declared.Part.{Part}
use Rattle.hbc_debug_parts.specs.declared.Parts.{Parts}

-- the header is seven u32
abbrev pub header_size : ℕ
header_size = 28

-- the header's word k, from 0: the u32 at byte 4 k of the section
unfoldable pub header_word : List ℕ → InFile → ℕ → ℕ
header_word file section k = word_at 4 file (in_file section (record { 0 = 4 * k })).0

-- the seven words in their order
unfoldable pub header_at : List ℕ → InFile → Header
header_at file section =
    record {
      filename_count = header_word file section 0;
      filename_storage_size = header_word file section 1;
      file_region_count = header_word file section 2;
      scope_desc_offset = header_word file section 3;
      textified_callee_offset = header_word file section 4;
      string_table_offset = header_word file section 5;
      debug_data_size = header_word file section 6;
    }

-- data start: 28 + 8 × filenames + storage + 12 × regions
abbrev pub data_start : Header → InSection
data_start h = record { 0 = header_size + 8 * h.filename_count + h.filename_storage_size + 12 * h.file_region_count }

abbrev pub no_part : Part
no_part = record { start = record { 0 = 0 }; len = 0 }

abbrev pub no_parts : Parts
no_parts = record { scopes = no_part; callees = no_part; strings = no_part }

-- a part of the debug data by its bounds, where the data has an end; empty where they are reversed or outside
unfoldable pub part_at : InFile → InSection → InData → InData → InData → Part
part_at section blob end from to =
    cond (ltb to.0 from.0) no_part
    (cond (ltb end.0 to.0) no_part
    (record { start = in_file section (in_section blob from); len = to.0 - from.0 }))

-- the three offsets and the size count from the debug data
abbrev pub scopes_at : Header → InData
scopes_at h = record { 0 = h.scope_desc_offset }

abbrev pub callees_at : Header → InData
callees_at h = record { 0 = h.textified_callee_offset }

abbrev pub strings_at : Header → InData
strings_at h = record { 0 = h.string_table_offset }

abbrev pub data_end : Header → InData
data_end h = record { 0 = h.debug_data_size }

-- scopes, callees and strings by their offsets; data outside the section: empty
unfoldable pub parts_in : ℕ → InFile → Header → Parts
parts_in left section h =
    cond (ltb left (in_section (data_start h) (data_end h)).0) no_parts
    (record {
      scopes = part_at section (data_start h) (data_end h) (scopes_at h) (callees_at h);
      callees = part_at section (data_start h) (data_end h) (callees_at h) (strings_at h);
      strings = part_at section (data_start h) (data_end h) (strings_at h) (data_end h);
    })

-- the offset that stands for no section, as 0 does
abbrev pub no_section : ℕ
no_section = 4294967295

-- no section: offset 0, 2^32 - 1, or at or past the end
unfoldable pub is_empty : ℕ → ℕ → Bool
is_empty len offset = cond (eqb offset 0) true (cond (eqb offset no_section) true (leb len offset))

-- 1, then no section has empty parts, then 3 if the header is not all there
unfoldable pub parts_of : List ℕ → ℕ → Answer Parts
parts_of file offset =
    below limit (length file) (refused_at 1 0)
    (choose (is_empty (length file) offset) (gives no_parts)
    (below (length file - offset) header_size (refused_at 3 0)
    (gives (parts_in (length file - offset) (record { 0 = offset }) (header_at file (record { 0 = offset }))))))

-- the promise: the three parts of the section at an offset
abbrev pub FindParts : List ℕ → ℕ → Result Parts Refusal → Type 0
FindParts file offset r = answered r ≡ parts_of file offset

-- the bytes of a part
abbrev pub part_bytes : List ℕ → Part → List ℕ
part_bytes file p = part_of file (span_of p.start.0 p.len)

-- the promise: that part of the file itself
abbrev pub PartBytes : Bor (List ℕ) → Part → Bor (List ℕ) → Type 0
PartBytes file p = IsPart file (span_of p.start.0 p.len)
