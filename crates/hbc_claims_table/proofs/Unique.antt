-- Each call leaves one outcome: its promise fixes the answer and every lent word.
use Rattle.hbc_io.proofs.Alone.{one_moved, one_answer, one_part}
use Rattle.hbc_io.proofs.Exits.{alone}
use Rattle.hbc_claims_law.proofs.Law.{same}
use Rattle.hbc_claims_table.specs.Unique.{Unique}

pub unique : Unique
unique = record {
  word_of = λ k a r q s u. same;
  field_of = λ k a r q s u. same;
  put_row = λ k a r q s u. same;
  put_words = λ k a r q s u. same;
  read_u32_table = λ k a r q s u. alone one_moved;
  read_pair_table = λ k a r q s u. alone one_moved;
  decode_strings = λ k a r q s u. alone one_answer;
  judge_entry = λ k a r q s u. same;
  string_span = λ k a r q s u. same;
  string_bytes = λ k a r q s u. one_part;
}
