-- docs/FORMAT.md, section 3.8: a refreshed table is a fresh one.
use Rattle.std.specs.Prelude.{ℕ, ◌≡◌, Result, Ok, Err}
use Rattle.hbc_io.specs.declared.Refusal.{Refusal}
use Rattle.hbc_function.specs.Table.{Table}

-- r and t₂ are a fresh read's of b, q and t₃ the refresh's, t₁ the table that was refreshed, each with its totals
pub record AsFresh (r : Result (Unit {0}) Refusal) (t₂ t₁ : Table) (q : Result ℕ Refusal) (t₃ : Table) : Type 0 where
  -- where the fresh read is accepted the refresh is, and leaves the fresh table
  -- where it refuses, the refresh refuses with its number and place and leaves the table
  pub when_read : r ≡ Ok tt → (n : ℕ) × (q ≡ Ok n) × (t₃ ≡ t₂)
  pub when_refused : (x : Refusal) → r ≡ Err x → (q ≡ Err x) × (t₃ ≡ t₁)
  -- and the other way round
  pub only_read : (n : ℕ) → q ≡ Ok n → r ≡ Ok tt
  pub only_refused : (x : Refusal) → q ≡ Err x → r ≡ Err x
