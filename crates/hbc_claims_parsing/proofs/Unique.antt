-- Each call leaves one outcome: its promise fixes the answer and every lent word.
use Rattle.hbc_io.proofs.Alone.{one_answer}
use Rattle.hbc_io.proofs.Exits.{alone}
use Rattle.hbc_claims_law.proofs.Law.{same}
use Rattle.hbc_claims_parsing.specs.Unique.{Unique}

pub unique : Unique
unique = record {
  read_handlers = λ k a r q s u. alone one_answer;
  why_no_handlers = λ k a r q s u e f. one_answer r q (same e f);
  trailing_sections = λ k a r q s u e f. one_answer r q (same e f);
}
