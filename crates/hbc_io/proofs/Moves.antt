-- How far a read goes.
use mathlib.Core.Path.{◌≡◌}
use Prim.Native.Nat.{ℕ, ◌≤◌, ◌<◌}
use Rattle.hbc_io.specs.Outcome.{Outcome, got, refused}
use Rattle.hbc_io.specs.declared.Cursor.{Cursor}
use Rattle.hbc_io.specs.declared.Refusal.{Refusal}

-- a read that takes at least a byte where it succeeds, and goes neither back nor past the end where it does not
pub record Moves {A : Type 0} (m : ℕ) (f : Cursor → Outcome A) : Type 0 where
  pub on : (c : Cursor) (v : A) (n : Cursor) → f c ≡ got v n → (c.at < n.at) × (n.at ≤ m)
  pub off : (c : Cursor) (r : Refusal) (n : Cursor) → c.at ≤ m → f c ≡ refused r n → (c.at ≤ n.at) × (n.at ≤ m)
