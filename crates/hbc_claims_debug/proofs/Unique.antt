-- Each call leaves one outcome: its promise fixes the answer and every lent word.
use Rattle.hbc_io.proofs.Alone.{one_part, one_answer}
use Rattle.hbc_io.proofs.Exits.{alone}
use Rattle.hbc_debug_pairs.proofs.Alone.{one_pair}
use Rattle.hbc_claims_law.proofs.Law.{same}
use Rattle.hbc_claims_debug.specs.Unique.{Unique}

pub unique : Unique
unique = record {
  find_parts = λ k a r q s u e f. one_answer r q (same e f);
  part_bytes = λ k a r q s u. one_part;
  count_strings = λ k a r q s u e f. one_answer r q (same e f);
  write_strings = λ k a r q s u. alone one_answer;
  count_scopes = λ k a r q s u e f. one_answer r q (same e f);
  write_scopes = λ k a r q s u. alone one_answer;
  read_pair = λ k a r q s u e f. one_pair r q (same e.is f.is) (same e.mark f.mark);
  read_counter = λ k a r q s u e f. same e f;
  write_below = λ k a r q s u e f. (same e.end f.end, same e.is f.is);
  count_callees = λ k a r q s u e f. one_answer r q (same e f);
  write_callees = λ k a r q s u. alone one_answer;
  read_debug = λ k a r q s u. alone one_answer;
}
