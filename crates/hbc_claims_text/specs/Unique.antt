-- docs/FORMAT.md, section 1.6: each public call's contract, as the checker has it, leaves one answer, and one value for every lent byte.
use Rattle.hbc_text_utf8.proofs.utf8_text.Reads as of_utf8_text
use Rattle.hbc_text_utf16.proofs.utf16_text.Reads as of_utf16_text
use Rattle.hbc_text_utf8.proofs.utf8_length.Reads as of_utf8_length
use Rattle.hbc_text_utf16.proofs.utf16_length.Reads as of_utf16_length
use Rattle.hbc_text.proofs.is_marked.Reads as of_is_marked
use Rattle.hbc_text.proofs.string_text.Reads as of_string_text
use Rattle.hbc_claims_law.specs.Law.{One, Both}

-- the calls by name
pub record Unique : Type 0 where
  pub utf8_text : Both of_utf8_text.Learnt (λ s. s.1.0.now)
  pub utf16_text : Both of_utf16_text.Learnt (λ s. s.1.0.now)
  pub utf8_length : One of_utf8_length.Learnt
  pub utf16_length : One of_utf16_length.Learnt
  pub is_marked : One of_is_marked.Learnt
  pub string_text : Both of_string_text.Learnt (λ s. s.1.1.1.0.now)
