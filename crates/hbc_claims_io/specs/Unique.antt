-- docs/FORMAT.md, section 1.6: each public call's contract, as the checker has it, leaves one answer: two outcomes that both meet it are equal.
use Rattle.hbc_bits.proofs.bits.Reads as of_bits
use Rattle.hbc_io.proofs.first.Reads as of_first
use Rattle.hbc_io.proofs.position.Reads as of_position
use Rattle.hbc_io.proofs.remaining.Reads as of_remaining
use Rattle.hbc_io.proofs.refuse.Reads as of_refuse
use Rattle.hbc_io.proofs.read_u8.Reads as of_read_u8
use Rattle.hbc_io.proofs.read_u16.Reads as of_read_u16
use Rattle.hbc_io.proofs.read_u32.Reads as of_read_u32
use Rattle.hbc_io.proofs.read_u64.Reads as of_read_u64
use Rattle.hbc_io.proofs.read_i8.Reads as of_read_i8
use Rattle.hbc_io.proofs.read_i32.Reads as of_read_i32
use Rattle.hbc_io.proofs.read_f64.Reads as of_read_f64
use Rattle.hbc_io.proofs.stop.Reads as of_stop
use Rattle.hbc_io.proofs.RefusalFromStopped.from.Reads as of_from
use Rattle.hbc_io.proofs.seek.Reads as of_seek
use Rattle.hbc_io.proofs.align.Reads as of_align
use Rattle.hbc_io.proofs.read_bytes.Reads as of_read_bytes
use Rattle.hbc_io.proofs.part.Reads as of_part
use Rattle.hbc_io.proofs.float_of.Reads as of_float_of
use Rattle.hbc_io.proofs.signed32.Reads as of_signed32
use Rattle.hbc_io.proofs.signed8.Reads as of_signed8
use Rattle.hbc_io.proofs.u8_at.Reads as of_u8_at
use Rattle.hbc_io.proofs.u16_at.Reads as of_u16_at
use Rattle.hbc_io.proofs.u32_at.Reads as of_u32_at
use Rattle.hbc_io.proofs.u64_at.Reads as of_u64_at
use Rattle.hbc_io_leb.proofs.read_sleb128_bits.Reads as of_read_sleb128_bits
use Rattle.hbc_io_leb.proofs.read_uleb128.Reads as of_read_uleb128
use Rattle.hbc_io_leb.proofs.read_sleb128.Reads as of_read_sleb128
use Rattle.hbc_io_leb.proofs.signed64.Reads as of_signed64
use Rattle.hbc_io_strings.proofs.read_cstring.Reads as of_read_cstring
use Rattle.hbc_io_strings.proofs.read_length_prefixed_string.Reads as of_read_length_prefixed_string
use Rattle.hbc_claims_law.specs.Law.{One, OnePart}

-- the calls by name
pub record Unique : Type 0 where
  pub bits : One of_bits.Learnt
  pub first : One of_first.Learnt
  pub position : One of_position.Learnt
  pub remaining : One of_remaining.Learnt
  pub refuse : One of_refuse.Learnt
  pub read_u8 : One of_read_u8.Learnt
  pub read_u16 : One of_read_u16.Learnt
  pub read_u32 : One of_read_u32.Learnt
  pub read_u64 : One of_read_u64.Learnt
  pub read_i8 : One of_read_i8.Learnt
  pub read_i32 : One of_read_i32.Learnt
  pub read_f64 : One of_read_f64.Learnt
  pub stop : One of_stop.Learnt
  pub from : One of_from.Learnt
  pub seek : One of_seek.Learnt
  pub align : One of_align.Learnt
  pub read_bytes : One of_read_bytes.Learnt
  pub part : OnePart of_part.Learnt
  pub float_of : One of_float_of.Learnt
  pub signed32 : One of_signed32.Learnt
  pub signed8 : One of_signed8.Learnt
  pub read_uleb128 : One of_read_uleb128.Learnt
  pub read_sleb128 : One of_read_sleb128.Learnt
  pub signed64 : One of_signed64.Learnt
  pub read_cstring : One of_read_cstring.Learnt
  pub read_length_prefixed_string : One of_read_length_prefixed_string.Learnt
  pub u8_at : One of_u8_at.Learnt
  pub u16_at : One of_u16_at.Learnt
  pub u32_at : One of_u32_at.Learnt
  pub u64_at : One of_u64_at.Learnt
  pub read_sleb128_bits : One of_read_sleb128_bits.Learnt
