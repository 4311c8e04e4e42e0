-- docs/FORMAT.md, section 3.1: the two inline headers, bit by bit; src/bit_layout.rt has the same two lists.
use Rattle.std.specs.Prelude.{ℕ, List, [], ◌∷◌}
use Rattle.hbc_function_record.specs.declared.Layout.{Layout}
use Rattle.hbc_function_record.specs.declared.Layout.TheVariants as lay
use Rattle.hbc_function_record.specs.declared.bit_layout.Field.{Field}
use Rattle.hbc_function_record.specs.declared.bit_layout.LegacyBits.{LegacyBits}
use Rattle.hbc_function_record.specs.declared.bit_layout.ModernBits.{ModernBits}

-- a field: its first bit and its width
abbrev pub at : ℕ → ℕ → Field
at first width = record { 0 = first; 1 = width }

-- legacy, bits 0 to 127
abbrev pub legacy_bits : LegacyBits
legacy_bits = record {
  offset = at 0 25;
  param_count = at 25 7;
  size = at 32 15;
  name = at 47 17;
  info_offset = at 64 25;
  frame_size = at 89 7;
  environment_size = at 96 8;
  read = at 104 8;
  write = at 112 8;
  flags = at 120 8;
}

-- modern, bits 0 to 95
abbrev pub modern_bits : ModernBits
modern_bits = record {
  offset = at 0 25;
  param_count = at 25 5;
  loop_depth = at 30 2;
  size = at 32 14;
  name = at 46 8;
  number_reg = at 54 5;
  non_ptr_reg = at 59 5;
  frame_size = at 64 8;
  read_cache = at 72 8;
  write_cache = at 80 6;
  new_object = at 86 1;
  private_name = at 87 1;
  flags = at 88 8;
}

-- the fields in the order in which a header holds them
abbrev pub legacy_in_order : LegacyBits → List Field
legacy_in_order b =
    b.offset ∷ b.param_count ∷ b.size ∷ b.name
    ∷ b.info_offset ∷ b.frame_size ∷ b.environment_size ∷ b.read ∷ b.write ∷ b.flags ∷ []

abbrev pub modern_in_order : ModernBits → List Field
modern_in_order b =
    b.offset ∷ b.param_count ∷ b.loop_depth ∷ b.size ∷ b.name ∷ b.number_reg ∷ b.non_ptr_reg
    ∷ b.frame_size ∷ b.read_cache ∷ b.write_cache ∷ b.new_object ∷ b.private_name ∷ b.flags ∷ []

-- each as (first bit, width)
abbrev pub pairs : List Field → List (ℕ × ℕ)
pairs [] = []
pairs (f ∷ fs) = (f.0, f.1) ∷ pairs fs

abbrev pub legacy_fields : List (ℕ × ℕ)
legacy_fields = pairs (legacy_in_order legacy_bits)

abbrev pub modern_fields : List (ℕ × ℕ)
modern_fields = pairs (modern_in_order modern_bits)

-- by layout
abbrev pub fields_in : Layout → List (ℕ × ℕ)
fields_in lay.Legacy16 = legacy_fields
fields_in lay.Modern12 = modern_fields
