-- Each call leaves one outcome: its promise fixes the answer and every lent byte.
use mathlib.Core.Path.{sym, ◌∙◌}
use Rattle.hbc_io.proofs.Exits.{alone}
use Rattle.hbc_io.proofs.Alone.{one_answer}
use Rattle.hbc_claims_text.specs.Unique.{Unique}

pub unique : Unique
unique = record {
  utf8_text = λ k a r q s u. alone one_answer;
  utf16_text = λ k a r q s u. alone one_answer;
  utf8_length = λ k a r q s u e f. one_answer r q (e ∙ sym f);
  utf16_length = λ k a r q s u e f. one_answer r q (e ∙ sym f);
  is_marked = λ k a r q s u e f. e ∙ sym f;
  string_text = λ k a r q s u. alone one_answer;
}
