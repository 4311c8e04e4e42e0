-- docs/FORMAT.md, section 1.6: each public call's contract, as the checker has it, leaves one answer, and one value for every lent word.
use Rattle.std.specs.Prelude.{List, ℕ}
use Rattle.hbc_debug.specs.Debug.{tables}
use Rattle.hbc_debug_parts.proofs.find_parts.Reads as of_find_parts
use Rattle.hbc_debug_parts.proofs.part_bytes.Reads as of_part_bytes
use Rattle.hbc_debug_strings.proofs.count_strings.Reads as of_count_strings
use Rattle.hbc_debug_strings.proofs.write_strings.Reads as of_write_strings
use Rattle.hbc_debug_scopes.proofs.count_scopes.Reads as of_count_scopes
use Rattle.hbc_debug_scopes.proofs.write_scopes.Reads as of_write_scopes
use Rattle.hbc_debug_pairs.proofs.read_pair.Reads as of_read_pair
use Rattle.hbc_debug_pairs.proofs.read_counter.Reads as of_read_counter
use Rattle.hbc_debug_rising.proofs.write_below.Reads as of_write_below
use Rattle.hbc_debug_callees.proofs.count_callees.Reads as of_count_callees
use Rattle.hbc_debug_callees.proofs.write_callees.Reads as of_write_callees
use Rattle.hbc_debug.proofs.read_debug.Reads as of_read_debug
use Rattle.hbc_claims_law.specs.Law.{One, OnePart, Both}

-- the calls by name
pub record Unique : Type 0 where
  pub find_parts : One of_find_parts.Learnt
  pub part_bytes : OnePart of_part_bytes.Learnt
  pub count_strings : One of_count_strings.Learnt
  pub write_strings : Both of_write_strings.Learnt (λ s. s.1.1.1.0.now)
  pub count_scopes : One of_count_scopes.Learnt
  pub write_scopes : Both of_write_scopes.Learnt {W = List ℕ × List ℕ} (λ s. (s.1.1.1.0.now, s.1.1.1.1.0.now))
  pub read_pair : One of_read_pair.Learnt
  pub read_counter : One of_read_counter.Learnt
  pub write_below : Both of_write_below.Learnt (λ s. s.1.1.1.0.now)
  pub count_callees : One of_count_callees.Learnt
  pub write_callees : Both of_write_callees.Learnt (λ s. s.1.1.1.0.now)
  pub read_debug : Both of_read_debug.Learnt (λ s. tables s.1.1.0.now s.1.1.1.0.now s.1.1.1.1.0.now s.1.1.1.1.1.0.now)
