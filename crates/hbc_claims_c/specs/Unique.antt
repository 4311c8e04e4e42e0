-- docs/FORMAT.md, section 1.6: each exported call's contract, as the checker has it, leaves one answer, and one value for every number and word that
-- was lent, in the order of its parameters; and so do `code`, by which they tell a refusal, `refused` and `moved`, by which the cursor comes back.
use Rattle.hbc_debug.specs.Debug.{tables}
use Rattle.hbc_c_function.specs.Function.{places}
use Rattle.hbc_c_debug.specs.Debug.{counts, lent}
use Rattle.hbc_claims_law.specs.Law.{One, Words, Both, Both2, Both3}
use Rattle.hbc_c_code.proofs.code.Reads as of_code
use Rattle.hbc_c_code.proofs.refused.Reads as of_refused
use Rattle.hbc_c_code.proofs.moved.Reads as of_moved
use Rattle.hbc_c.proofs.io.hbc_bits.Reads as of_bits
use Rattle.hbc_c.proofs.io.hbc_remaining.Reads as of_remaining
use Rattle.hbc_c.proofs.io.hbc_seek.Reads as of_seek
use Rattle.hbc_c.proofs.io.hbc_align.Reads as of_align
use Rattle.hbc_c.proofs.io.hbc_read_u8.Reads as of_read_u8
use Rattle.hbc_c.proofs.io.hbc_read_u16.Reads as of_read_u16
use Rattle.hbc_c.proofs.io.hbc_read_u32.Reads as of_read_u32
use Rattle.hbc_c.proofs.io.hbc_read_u64.Reads as of_read_u64
use Rattle.hbc_c.proofs.io.hbc_read_i8.Reads as of_read_i8
use Rattle.hbc_c.proofs.io.hbc_read_i32.Reads as of_read_i32
use Rattle.hbc_c.proofs.io.hbc_read_f64.Reads as of_read_f64
use Rattle.hbc_c.proofs.io.hbc_read_uleb128.Reads as of_read_uleb128
use Rattle.hbc_c.proofs.io.hbc_read_sleb128.Reads as of_read_sleb128
use Rattle.hbc_c.proofs.io.hbc_read_bytes.Reads as of_read_bytes
use Rattle.hbc_c.proofs.io.hbc_read_cstring.Reads as of_read_cstring
use Rattle.hbc_c.proofs.io.hbc_read_length_prefixed_string.Reads as of_read_length_prefixed_string
use Rattle.hbc_c.proofs.function.hbc_read_functions.Reads as of_read_functions
use Rattle.hbc_c.proofs.function.hbc_refresh_functions.Reads as of_refresh_functions
use Rattle.hbc_c.proofs.function.hbc_write_functions.Reads as of_write_functions
use Rattle.hbc_c.proofs.function.hbc_read_function.Reads as of_read_function
use Rattle.hbc_c.proofs.function.hbc_function_ground.Reads as of_function_ground
use Rattle.hbc_c.proofs.function.hbc_function_meets.Reads as of_function_meets
use Rattle.hbc_c.proofs.table.hbc_read_u32_table.Reads as of_read_u32_table
use Rattle.hbc_c.proofs.table.hbc_read_pair_table.Reads as of_read_pair_table
use Rattle.hbc_c.proofs.table.hbc_decode_strings.Reads as of_decode_strings
use Rattle.hbc_c.proofs.table.hbc_decode_strings_hermes.Reads as of_decode_strings_hermes
use Rattle.hbc_c.proofs.table.hbc_string_bytes.Reads as of_string_bytes
use Rattle.hbc_c.proofs.text.hbc_string_text.Reads as of_string_text
use Rattle.hbc_c.proofs.text.hbc_strings_json.Reads as of_strings_json
use Rattle.hbc_c.proofs.buffer.hbc_read_literal.Reads as of_read_literal
use Rattle.hbc_c.proofs.buffer.hbc_read_series.Reads as of_read_series
use Rattle.hbc_c.proofs.buffer.hbc_read_object.Reads as of_read_object
use Rattle.hbc_c.proofs.parsing.hbc_read_handlers.Reads as of_read_handlers
use Rattle.hbc_c.proofs.parsing.hbc_why_no_handlers.Reads as of_why_no_handlers
use Rattle.hbc_c.proofs.parsing.hbc_trailing_sections.Reads as of_trailing_sections
use Rattle.hbc_c.proofs.debug.hbc_read_debug.Reads as of_read_debug
use Rattle.hbc_c.proofs.clean.hbc_check_bundle.Reads as of_check_bundle

-- the calls by name
pub record Unique : Type 0 where
  pub code : One of_code.Learnt
  pub refused : Both of_refused.Learnt (λ s. s.1.0.now)
  pub moved : Both of_moved.Learnt (λ s. s.1.0.now)
  pub hbc_bits : One of_bits.Learnt
  pub hbc_remaining : One of_remaining.Learnt
  pub hbc_seek : Both of_seek.Learnt (λ s. s.1.0.now)
  pub hbc_align : Both of_align.Learnt (λ s. s.1.0.now)
  pub hbc_read_u8 : Both2 of_read_u8.Learnt (λ s. s.1.0.now) (λ s. s.1.1.0.now)
  pub hbc_read_u16 : Both2 of_read_u16.Learnt (λ s. s.1.0.now) (λ s. s.1.1.0.now)
  pub hbc_read_u32 : Both2 of_read_u32.Learnt (λ s. s.1.0.now) (λ s. s.1.1.0.now)
  pub hbc_read_u64 : Both2 of_read_u64.Learnt (λ s. s.1.0.now) (λ s. s.1.1.0.now)
  pub hbc_read_i8 : Both2 of_read_i8.Learnt (λ s. s.1.0.now) (λ s. s.1.1.0.now)
  pub hbc_read_i32 : Both2 of_read_i32.Learnt (λ s. s.1.0.now) (λ s. s.1.1.0.now)
  pub hbc_read_f64 : Both2 of_read_f64.Learnt (λ s. s.1.0.now) (λ s. s.1.1.0.now)
  pub hbc_read_uleb128 : Both3 of_read_uleb128.Learnt (λ s. s.1.0.now) (λ s. s.1.1.0.now) (λ s. s.1.1.1.0.now)
  pub hbc_read_sleb128 : Both3 of_read_sleb128.Learnt (λ s. s.1.0.now) (λ s. s.1.1.0.now) (λ s. s.1.1.1.0.now)
  pub hbc_read_bytes : Both3 of_read_bytes.Learnt (λ s. s.1.0.now) (λ s. s.1.1.1.0.now) (λ s. s.1.1.1.1.0.now)
  pub hbc_read_cstring : Both3 of_read_cstring.Learnt (λ s. s.1.0.now) (λ s. s.1.1.0.now) (λ s. s.1.1.1.0.now)
  pub hbc_read_length_prefixed_string :
      Both3 of_read_length_prefixed_string.Learnt (λ s. s.1.0.now) (λ s. s.1.1.0.now) (λ s. s.1.1.1.0.now)
      × Words of_read_length_prefixed_string.Learnt (λ s. s.1.1.1.1.0.now)
  pub hbc_read_functions : Both3 of_read_functions.Learnt (λ s. s.1.1.1.1.0.now) (λ s. s.1.1.1.1.1.0.now) (λ s. s.1.1.1.1.1.1.0.now)
  pub hbc_refresh_functions :
      Both3 of_refresh_functions.Learnt (λ s. s.1.1.1.1.1.1.0.now) (λ s. s.1.1.1.1.1.1.1.0.now) (λ s. s.1.1.1.1.1.1.1.1.0.now)
  pub hbc_write_functions : Both of_write_functions.Learnt (λ s. s.1.1.1.1.1.0.now)
  pub hbc_read_function : Both of_read_function.Learnt (λ s. s.1.1.1.1.0.now)
  pub hbc_function_ground : Both of_function_ground.Learnt (λ s. places s.1.1.1.1.0.now s.1.1.1.1.1.0.now)
  pub hbc_function_meets : One of_function_meets.Learnt
  pub hbc_read_u32_table : Both2 of_read_u32_table.Learnt (λ s. s.1.0.now) (λ s. s.1.1.1.0.now)
  pub hbc_read_pair_table : Both2 of_read_pair_table.Learnt (λ s. s.1.0.now) (λ s. s.1.1.1.0.now)
  pub hbc_decode_strings : Both of_decode_strings.Learnt (λ s. s.1.1.1.1.1.0.now)
  pub hbc_decode_strings_hermes : Both of_decode_strings_hermes.Learnt (λ s. s.1.1.1.1.1.0.now)
  pub hbc_string_bytes : Words of_string_bytes.Learnt (λ s. s.1.1.1.0.now) × Words of_string_bytes.Learnt (λ s. s.1.1.1.1.0.now)
  pub hbc_string_text : Both of_string_text.Learnt (λ s. s.1.1.1.0.now)
  pub hbc_strings_json : Both2 of_strings_json.Learnt (λ s. s.1.1.1.0.now) (λ s. s.1.1.1.1.0.now)
  pub hbc_read_literal :
      Both3 of_read_literal.Learnt (λ s. s.1.0.now) (λ s. s.1.1.1.0.now) (λ s. s.1.1.1.1.0.now)
      × Words of_read_literal.Learnt (λ s. s.1.1.1.1.1.0.now)
  pub hbc_read_series : Both2 of_read_series.Learnt (λ s. s.1.1.1.0.now) (λ s. s.1.1.1.1.0.now)
  pub hbc_read_object : Both2 of_read_object.Learnt (λ s. s.1.1.1.1.1.0.now) (λ s. s.1.1.1.1.1.1.0.now)
  pub hbc_read_handlers : Both2 of_read_handlers.Learnt (λ s. s.1.1.1.0.now) (λ s. s.1.1.1.1.0.now)
  pub hbc_why_no_handlers : Both of_why_no_handlers.Learnt (λ s. s.1.1.1.0.now)
  pub hbc_trailing_sections : Both of_trailing_sections.Learnt (λ s. s.1.1.1.1.1.1.1.0.now)
  pub hbc_read_debug :
      Both2 of_read_debug.Learnt
      (λ s. tables s.1.1.0.now s.1.1.1.0.now s.1.1.1.1.0.now s.1.1.1.1.1.0.now)
      (λ s. lent (counts s.1.1.1.1.1.1.0.now s.1.1.1.1.1.1.1.0.now s.1.1.1.1.1.1.1.1.0.now
      s.1.1.1.1.1.1.1.1.1.0.now) s.1.1.1.1.1.1.1.1.1.1.0.now)
  pub hbc_check_bundle : Both of_check_bundle.Learnt (λ s. s.1.1.1.1.1.1.1.1.1.1.1.1.0.now)
