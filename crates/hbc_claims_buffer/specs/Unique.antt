-- docs/FORMAT.md, section 1.6: each public call's contract, as the checker has it, leaves one answer, and one value for every lent word.
use Rattle.hbc_buffer_literal.proofs.width.Reads as of_width
use Rattle.hbc_buffer_literal.proofs.kind.Reads as of_kind
use Rattle.hbc_buffer_literal.proofs.read_payload.Reads as of_read_payload
use Rattle.hbc_buffer_literal.proofs.read_literal.Reads as of_read_literal
use Rattle.hbc_buffer.proofs.read_series.Reads as of_read_series
use Rattle.hbc_buffer_object.proofs.object_part.Reads as of_object_part
use Rattle.hbc_buffer_object.proofs.object_in.Reads as of_object_in
use Rattle.hbc_buffer_object.proofs.read_object.Reads as of_read_object
use Rattle.hbc_claims_law.specs.Law.{One, OnePart, Both2}

-- the calls by name
pub record Unique : Type 0 where
  pub width : One of_width.Learnt
  pub kind : One of_kind.Learnt
  pub read_payload : One of_read_payload.Learnt
  pub read_literal : One of_read_literal.Learnt
  pub read_series : Both2 of_read_series.Learnt (λ s. s.1.1.1.0.now) (λ s. s.1.1.1.1.0.now)
  pub read_object : Both2 of_read_object.Learnt (λ s. s.1.1.1.1.1.0.now) (λ s. s.1.1.1.1.1.1.0.now)
  pub object_part : OnePart of_object_part.Learnt
  pub object_in : One of_object_in.Learnt
