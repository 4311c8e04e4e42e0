-- Each call leaves one outcome: its promise fixes the answer and every lent word.
use mathlib.Core.Path.{◌≡◌}
use Prim.Native.Nat.{ℕ}
use mathlib.Core.List.{List}
use Rattle.hbc_io.proofs.Alone.{one_read, one_answer, one_part}
use Rattle.hbc_io.proofs.Exits.{alone}
use Rattle.hbc_buffer.proofs.Exits.{apart}
use Rattle.hbc_claims_law.proofs.Law.{same}
use Rattle.hbc_claims_buffer.specs.Unique.{Unique}

-- one answer, and one value for each of two tables
pub both : {R : Type 0} {r q : R} {a b c d : List ℕ} → (r ≡ q) × (◌≡◌ {A = List ℕ × List ℕ} (a, b) (c, d)) → (r ≡ q) × (a ≡ c) × (b ≡ d)
both e = let t = apart e.1 in (e.0, t.0, t.1)

pub unique : Unique
unique = record {
  width = λ k a r q s u. same;
  kind = λ k a r q s u. same;
  read_payload = λ k a r q s u e f. one_read r q (same e f);
  read_literal = λ k a r q s u e f. one_read r q (same e f);
  read_series = λ k a r q s u e f. both (alone one_answer e f);
  read_object = λ k a r q s u e f. both (alone one_answer e f);
  object_part = λ k a r q s u. one_part;
  object_in = λ k a r q s u. same;
}
