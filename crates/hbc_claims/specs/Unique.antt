-- docs/FORMAT.md, section 1.6: the listing's two calls: one answer each. The other public calls stand in the claims of their layer (hbc_claims_io,
-- _function, _table, _text, _buffer, _parsing, _debug, _clean), the exported ones in hbc_claims_c.
use Rattle.hbc_claims_law.specs.Law.{One}
use Rattle.hbc_job.proofs.parse_job.Reads as of_parse_job
use Rattle.hbc_job.proofs.show.list.Reads as of_list

pub record Unique : Type 0 where
  pub parse_job : One of_parse_job.Learnt
  pub list : One of_list.Learnt
