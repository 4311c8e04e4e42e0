-- docs/FORMAT.md, section 1.6: each public call's contract, as the checker has it, leaves one answer, and one value for every lent byte.
use Rattle.hbc_json_text.proofs.escaped_length.Reads as of_escaped_length
use Rattle.hbc_json_text.proofs.escaped_text.Reads as of_escaped_text
use Rattle.hbc_json.proofs.strings_json.Reads as of_strings_json
use Rattle.hbc_claims_law.specs.Law.{One, Both}

-- the calls by name
pub record Unique : Type 0 where
  pub escaped_length : One of_escaped_length.Learnt
  pub escaped_text : Both of_escaped_text.Learnt (λ s. s.1.1.0.now)
  pub strings_json : Both of_strings_json.Learnt (λ s. s.1.1.1.0.now)
