-- docs/FORMAT.md, section 1.6: each public call's contract, as the checker has it, leaves one answer, and one value for every lent word.
use Rattle.hbc_parsing_handlers.proofs.read_handlers.Reads as of_read_handlers
use Rattle.hbc_parsing_handlers.proofs.why_no_handlers.Reads as of_why_no_handlers
use Rattle.hbc_parsing_sections.proofs.trailing_sections.Reads as of_trailing_sections
use Rattle.hbc_claims_law.specs.Law.{One, Both}

-- the calls by name
pub record Unique : Type 0 where
  pub read_handlers : Both of_read_handlers.Learnt (λ s. s.1.1.1.0.now)
  pub why_no_handlers : One of_why_no_handlers.Learnt
  pub trailing_sections : One of_trailing_sections.Learnt
