-- Each leaves one outcome: its promise fixes the answer, of a part its words and where they stand.
use Rattle.hbc_io.proofs.Alone.{one_part}
use Rattle.hbc_record.proofs.Alone.{one_front, one_given}
use Rattle.hbc_claims_law.proofs.Law.{same}
use Rattle.hbc_claims.specs.Records.{Unique}

pub unique : Unique
unique = record {
  field_at = λ k a r q s u. one_part;
  past = λ k a r q s u. same;
  field_of = λ k a r q s u. one_part;
  head = λ k a r q s u. same;
  are = λ k a r q s u. same;
  words_are = λ k a r q s u. same;
  bytes_are = λ k a r q s u. same;
  answers = λ k a r q s u. same;
  leaves = λ k a r q s u. same;
  same_float = λ k a r q s u. same;
  lent = λ k a r q s u. one_front;
  lent_longs = λ k a r q s u. one_front;
  lent_bytes = λ k a r q s u. one_front;
  given = λ k a r q s u. one_given;
  counted = λ k a r q s u. same;
  report = λ k a r q s u. same;
}
