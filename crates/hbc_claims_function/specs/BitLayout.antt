-- docs/FORMAT.md, section 3.1: the fields of an inline header cover its bits, each once; and each field of a record is what the bits of its name hold.
use Rattle.std.specs.Prelude.{ℕ, suc, ◌+◌, ◌≤◌, ◌<◌, ◌≡◌, List, length, get_or}
use Rattle.hbc_bits.specs.Bits.{field}
use Rattle.hbc_function_record.specs.declared.Legacy.{Legacy}
use Rattle.hbc_function_record.specs.declared.Modern.{Modern}
use Rattle.hbc_function_record.specs.declared.bit_layout.Field.{Field}
use Rattle.hbc_function_record.specs.BitLayout.{legacy_bits, modern_bits}
use Rattle.hbc_function_record.specs.Record.{legacy_of, modern_of}

-- of a list of (first bit, width): the first bit of field k, and the bit behind its last
abbrev pub first_of : List (ℕ × ℕ) → ℕ → ℕ
first_of fs k = (get_or fs k (0, 0)).0

abbrev pub end_of : List (ℕ × ℕ) → ℕ → ℕ
end_of fs k = first_of fs k + (get_or fs k (0, 0)).1

-- there is a field k, and bit b is one of its bits
pub record Has (fs : List (ℕ × ℕ)) (k b : ℕ) : Type 0 where
  pub listed : k < length fs
  pub from : first_of fs k ≤ b
  pub to : b < end_of fs k

-- the fields cover bits 0 to n - 1
pub record Covers (fs : List (ℕ × ℕ)) (n : ℕ) : Type 0 where
  -- they join without a gap: the first begins at bit 0, each other where the one before it ends, and the last ends at n
  pub begins : 0 < length fs → first_of fs 0 ≡ 0
  pub joins : (k : ℕ) → suc k < length fs → first_of fs (suc k) ≡ end_of fs k
  pub ends : (k : ℕ) → suc k ≡ length fs → end_of fs k ≡ n
  -- so every bit is one of a field, and of one alone, and no field has another
  pub each : (b : ℕ) → b < n → (k : ℕ) × Has fs k b
  pub once : (b j k : ℕ) → Has fs j b → Has fs k b → j ≡ k
  pub within : (b k : ℕ) → Has fs k b → b < n

-- the bits of a field, of a header's number
abbrev pub cut : Field → ℕ → ℕ
cut f n = field f.0 f.1 n

-- the record of function i that each name's bits make
abbrev pub legacy_cut : ℕ → ℕ → Legacy
legacy_cut i n = record {
  id = i;
  offset = cut legacy_bits.offset n;
  param_count = cut legacy_bits.param_count n;
  size = cut legacy_bits.size n;
  name = cut legacy_bits.name n;
  info_offset = cut legacy_bits.info_offset n;
  frame_size = cut legacy_bits.frame_size n;
  environment_size = cut legacy_bits.environment_size n;
  read = cut legacy_bits.read n;
  write = cut legacy_bits.write n;
  flags = cut legacy_bits.flags n;
}

-- in modern info_offset is no field, and 0
abbrev pub modern_cut : ℕ → ℕ → Modern
modern_cut i n = record {
  id = i;
  offset = cut modern_bits.offset n;
  param_count = cut modern_bits.param_count n;
  loop_depth = cut modern_bits.loop_depth n;
  size = cut modern_bits.size n;
  name = cut modern_bits.name n;
  number_reg = cut modern_bits.number_reg n;
  non_ptr_reg = cut modern_bits.non_ptr_reg n;
  frame_size = cut modern_bits.frame_size n;
  read_cache = cut modern_bits.read_cache n;
  write_cache = cut modern_bits.write_cache n;
  new_object = cut modern_bits.new_object n;
  private_name = cut modern_bits.private_name n;
  flags = cut modern_bits.flags n;
  info_offset = 0;
}

-- which are the records that the readers answer
pub record Named (i n : ℕ) : Type 0 where
  pub legacy : legacy_of i n ≡ legacy_cut i n
  pub modern : modern_of i n ≡ modern_cut i n
