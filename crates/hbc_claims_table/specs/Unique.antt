-- docs/FORMAT.md, section 1.6: each public call's contract, as the checker has it, leaves one answer, and one value for every lent word.
use Rattle.hbc_rows.proofs.word_of.Reads as of_word_of
use Rattle.hbc_rows.proofs.field_of.Reads as of_field_of
use Rattle.hbc_rows.proofs.put_row.Reads as of_put_row
use Rattle.hbc_rows.proofs.put_words.Reads as of_put_words
use Rattle.hbc_table.proofs.read_u32_table.Reads as of_read_u32_table
use Rattle.hbc_table.proofs.read_pair_table.Reads as of_read_pair_table
use Rattle.hbc_table_strings.proofs.decode_strings.Reads as of_decode_strings
use Rattle.hbc_table_strings.proofs.judge_entry.Reads as of_judge_entry
use Rattle.hbc_table_bytes.proofs.string_span.Reads as of_string_span
use Rattle.hbc_table_bytes.proofs.string_bytes.Reads as of_string_bytes
use Rattle.hbc_claims_law.specs.Law.{One, OnePart, Words, Both}

-- the calls by name
pub record Unique : Type 0 where
  pub word_of : One of_word_of.Learnt
  pub field_of : One of_field_of.Learnt
  pub put_row : Words of_put_row.Learnt (λ s. s.0.now)
  pub put_words : Words of_put_words.Learnt (λ s. s.0.now)
  pub read_u32_table : Both of_read_u32_table.Learnt (λ s. s.1.1.1.0.now)
  pub read_pair_table : Both of_read_pair_table.Learnt (λ s. s.1.1.1.0.now)
  pub decode_strings : Both of_decode_strings.Learnt (λ s. s.1.1.1.1.1.1.0.now)
  pub judge_entry : One of_judge_entry.Learnt
  pub string_span : One of_string_span.Learnt
  pub string_bytes : OnePart of_string_bytes.Learnt
