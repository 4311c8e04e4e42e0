-- Each leaves one outcome: its promise fixes the answer.
use Rattle.hbc_io.proofs.Alone.{one_answer}
use Rattle.hbc_claims_law.proofs.Law.{same}
use Rattle.hbc_claims.specs.Unique.{Unique}

pub unique : Unique
unique = record {
  parse_job = λ k a r q s u e f. one_answer r q (same e f);
  list = λ k a r q s u e f. one_answer r q (same e f);
}
