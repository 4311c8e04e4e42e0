-- docs/FORMAT.md, section 1.6: each public call's contract, as the checker has it, leaves one answer.
use Rattle.hbc_clean_large.proofs.check_large.Reads as of_check_large
use Rattle.hbc_clean_series.proofs.check_series.Reads as of_check_series
use Rattle.hbc_clean.proofs.check_bundle.Reads as of_check_bundle
use Rattle.hbc_claims_law.specs.Law.{One}

-- the calls by name
pub record Unique : Type 0 where
  pub check_large : One of_check_large.Learnt
  pub check_series : One of_check_series.Learnt
  pub check_bundle : One of_check_bundle.Learnt
