-- Each call leaves one outcome: its promise fixes the answer and every lent byte.
use mathlib.Core.Path.{sym, ◌∙◌}
use Rattle.hbc_io.proofs.Exits.{alone}
use Rattle.hbc_io.proofs.Alone.{one_answer}
use Rattle.hbc_claims_json.specs.Unique.{Unique}

pub unique : Unique
unique = record {
  escaped_length = λ k a r q s u e f. one_answer r q (e ∙ sym f);
  escaped_text = λ k a r q s u. alone one_answer;
  strings_json = λ k a r q s u. alone one_answer;
}
