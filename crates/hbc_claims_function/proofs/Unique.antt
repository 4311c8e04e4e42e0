-- Each call leaves one outcome: its promise fixes the answer and every lent word.
use mathlib.Core.Path.{◌≡◌, sym, ap, ◌∙◌}
use Rattle.hbc_io.proofs.Alone.{one_answer}
use Rattle.hbc_io.proofs.Exits.{alone}
use Rattle.hbc_function.specs.Table.{Table}
use Rattle.hbc_claims_law.proofs.Law.{same}
use Rattle.hbc_claims_function.specs.Unique.{Unique}

-- a table is its rows and its two totals
pub table_parts : {A : Type 0} {t u : Table} → A × (t ≡ u) → A × (t.rows ≡ u.rows) × (t.totals.large ≡ u.totals.large) × (t.totals.sizes ≡ u.totals.sizes)
table_parts p = (p.0, ap (λ (x : Table). x.rows) p.1, ap (λ (x : Table). x.totals.large) p.1, ap (λ (x : Table). x.totals.sizes) p.1)

pub unique : Unique
unique = record {
  try_from = λ k a r q s u. same;
  header_size = λ k a r q s u. same;
  large_size = λ k a r q s u. same;
  legacy_bits = λ k a r q s u. same;
  modern_bits = λ k a r q s u. same;
  inline_record = λ k a r q s u. same;
  large_record = λ k a r q s u. same;
  header_link = λ k a r q s u. same;
  is_flagged = λ k a r q s u. same;
  legacy_row = λ k a r q s u. same;
  modern_row = λ k a r q s u. same;
  row_words = λ k a r q s u. same;
  read_function = λ k a r q s u e f. one_answer r q (same e f);
  check_function = λ k a r q s u e f. one_answer r q (same e f);
  function_row = λ k a r q s u. alone one_answer;
  function_ground = λ k a r q s u e f. one_answer r q (same e f);
  function_meets = λ k a r q s u e f. one_answer r q (same e f);
  share_of = λ k a r q s u. same;
  exchange = λ k a r q s u e f. one_answer r q (e ∙ sym f);
  read_functions = λ k a r q s u v w. table_parts (alone one_answer v w);
  refresh_functions = λ k a r q s u v w. table_parts (alone one_answer v w);
  row_is_right = λ k a r q s u. same;
  inline_words = λ k a r q s u. same;
  pointer_words = λ k a r q s u. same;
  put_header = λ k a r q s u. same;
  put_large = λ k a r q s u. same;
  write_functions = λ k a r q s u. alone one_answer;
}
