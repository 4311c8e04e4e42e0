-- docs/FORMAT.md, section 1.6: each public call's contract, as the checker has it, leaves one answer, and one value for every lent word.
use Rattle.hbc_function_record.proofs.LayoutTryFromU32.try_from.Reads as of_try_from
use Rattle.hbc_function_record.proofs.header_size.Reads as of_header_size
use Rattle.hbc_function_record.proofs.large_size.Reads as of_large_size
use Rattle.hbc_function_record.proofs.bit_layout.legacy_bits.Reads as of_legacy_bits
use Rattle.hbc_function_record.proofs.bit_layout.modern_bits.Reads as of_modern_bits
use Rattle.hbc_function_record.proofs.inline_record.Reads as of_inline_record
use Rattle.hbc_function_record.proofs.large_record.Reads as of_large_record
use Rattle.hbc_function_record.proofs.header_link.Reads as of_header_link
use Rattle.hbc_function_record.proofs.is_flagged.Reads as of_is_flagged
use Rattle.hbc_function_record.proofs.legacy_row.Reads as of_legacy_row
use Rattle.hbc_function_record.proofs.modern_row.Reads as of_modern_row
use Rattle.hbc_function_record.proofs.row_words.Reads as of_row_words
use Rattle.hbc_function_header.proofs.read_function.Reads as of_read_function
use Rattle.hbc_function_header.proofs.check_function.Reads as of_check_function
use Rattle.hbc_function_header.proofs.function_row.Reads as of_function_row
use Rattle.hbc_function_header.proofs.function_ground.Reads as of_function_ground
use Rattle.hbc_function_header.proofs.function_meets.Reads as of_function_meets
use Rattle.hbc_function_totals.proofs.share_of.Reads as of_share_of
use Rattle.hbc_function_totals.proofs.exchange.Reads as of_exchange
use Rattle.hbc_function.proofs.read_functions.Reads as of_read_functions
use Rattle.hbc_function.proofs.refresh_functions.Reads as of_refresh_functions
use Rattle.hbc_function_bytes.proofs.row_is_right.Reads as of_row_is_right
use Rattle.hbc_function_bytes.proofs.inline_words.Reads as of_inline_words
use Rattle.hbc_function_bytes.proofs.pointer_words.Reads as of_pointer_words
use Rattle.hbc_function_put.proofs.put_header.Reads as of_put_header
use Rattle.hbc_function_put.proofs.put_large.Reads as of_put_large
use Rattle.hbc_function_write.proofs.write_functions.Reads as of_write_functions
use Rattle.hbc_claims_law.specs.Law.{One, Words, Both, Both3}

-- the calls by name
pub record Unique : Type 0 where
  pub try_from : One of_try_from.Learnt
  pub header_size : One of_header_size.Learnt
  pub large_size : One of_large_size.Learnt
  pub legacy_bits : One of_legacy_bits.Learnt
  pub modern_bits : One of_modern_bits.Learnt
  pub inline_record : One of_inline_record.Learnt
  pub large_record : One of_large_record.Learnt
  pub header_link : One of_header_link.Learnt
  pub is_flagged : One of_is_flagged.Learnt
  pub legacy_row : One of_legacy_row.Learnt
  pub modern_row : One of_modern_row.Learnt
  pub row_words : One of_row_words.Learnt
  pub read_function : One of_read_function.Learnt
  pub check_function : One of_check_function.Learnt
  pub function_row : Both of_function_row.Learnt (λ s. s.1.1.1.1.0.now)
  pub function_ground : One of_function_ground.Learnt
  pub function_meets : One of_function_meets.Learnt
  pub share_of : One of_share_of.Learnt
  pub exchange : One of_exchange.Learnt
  pub read_functions : Both3 of_read_functions.Learnt (λ s. s.1.1.1.1.0.now) (λ s. s.1.1.1.1.1.0.now) (λ s. s.1.1.1.1.1.1.0.now)
  pub refresh_functions : Both3 of_refresh_functions.Learnt (λ s. s.1.1.1.1.1.1.0.now) (λ s. s.1.1.1.1.1.1.1.0.now)
      (λ s. s.1.1.1.1.1.1.1.1.0.now)
  pub row_is_right : One of_row_is_right.Learnt
  pub inline_words : One of_inline_words.Learnt
  pub pointer_words : One of_pointer_words.Learnt
  pub put_header : Words of_put_header.Learnt (λ s. s.0.now)
  pub put_large : Words of_put_large.Learnt (λ s. s.0.now)
  pub write_functions : Both of_write_functions.Learnt (λ s. s.1.1.1.1.1.0.now)
