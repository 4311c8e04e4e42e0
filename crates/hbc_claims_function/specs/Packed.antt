-- docs/FORMAT.md, section 10.1: the records that the worked cases speak of, of function 0, their fields in the order of section 3.1.
use Rattle.std.specs.Prelude.{ℕ}
use Rattle.hbc_function_record.specs.declared.Legacy.{Legacy}
use Rattle.hbc_function_record.specs.declared.Modern.{Modern}

-- offset, param_count, size, name, info_offset, frame_size, environment_size, read, write, flags
abbrev pub legacy : ℕ → ℕ → ℕ → ℕ → ℕ → ℕ → ℕ → ℕ → ℕ → ℕ → Legacy
legacy offset params size name info frame environment read write flags = record {
  id = 0;
  offset = offset;
  param_count = params;
  size = size;
  name = name;
  info_offset = info;
  frame_size = frame;
  environment_size = environment;
  read = read;
  write = write;
  flags = flags;
}

-- offset, param_count, loop_depth, size, name, number_reg, non_ptr_reg, frame_size, read_cache, write_cache, new_object, private_name, flags;
-- and info_offset, which an inline header has not
abbrev pub modern : ℕ → ℕ → ℕ → ℕ → ℕ → ℕ → ℕ → ℕ → ℕ → ℕ → ℕ → ℕ → ℕ → ℕ → Modern
modern offset params loop size name number non-ptr frame read write new private flags info = record {
  id = 0;
  offset = offset;
  param_count = params;
  loop_depth = loop;
  size = size;
  name = name;
  number_reg = number;
  non_ptr_reg = non-ptr;
  frame_size = frame;
  read_cache = read;
  write_cache = write;
  new_object = new;
  private_name = private;
  flags = flags;
  info_offset = info;
}
