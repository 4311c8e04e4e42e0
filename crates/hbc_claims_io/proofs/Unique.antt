-- Each call leaves one outcome: its promise fixes the answer and every lent word.
use Rattle.hbc_io.proofs.Alone.{one_read, one_moved, one_part}
use Rattle.hbc_claims_law.proofs.Law.{same}
use Rattle.hbc_claims_io.specs.Unique.{Unique}

pub unique : Unique
unique = record {
  bits = λ k a r q s u. same;
  first = λ k a r q s u. same;
  position = λ k a r q s u. same;
  remaining = λ k a r q s u. same;
  refuse = λ k a r q s u. same;
  stop = λ k a r q s u. same;
  from = λ k a r q s u. same;
  read_u8 = λ k a r q s u e f. one_read r q (same e f);
  read_u16 = λ k a r q s u e f. one_read r q (same e f);
  read_u32 = λ k a r q s u e f. one_read r q (same e f);
  read_u64 = λ k a r q s u e f. one_read r q (same e f);
  read_i8 = λ k a r q s u e f. one_read r q (same e f);
  read_i32 = λ k a r q s u e f. one_read r q (same e f);
  read_f64 = λ k a r q s u e f. one_read r q (same e f);
  seek = λ k a r q s u e f. one_moved r q (same e f);
  align = λ k a r q s u e f. one_moved r q (same e f);
  read_bytes = λ k a r q s u e f. one_read r q (same e f);
  part = λ k a r q s u. one_part;
  float_of = λ k a r q s u. same;
  signed32 = λ k a r q s u. same;
  signed8 = λ k a r q s u. same;
  read_uleb128 = λ k a r q s u e f. one_read r q (same e f);
  read_sleb128 = λ k a r q s u e f. one_read r q (same e f);
  signed64 = λ k a r q s u. same;
  read_cstring = λ k a r q s u e f. one_read r q (same e f);
  read_length_prefixed_string = λ k a r q s u e f. one_read r q (same e f);
  u8_at = λ k a r q s u. same;
  u16_at = λ k a r q s u. same;
  u32_at = λ k a r q s u. same;
  u64_at = λ k a r q s u. same;
  read_sleb128_bits = λ k a r q s u e f. one_read r q (same e f);
}
