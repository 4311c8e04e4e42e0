-- What the ways out of `read_series` need besides the laws of the promise.
use Prim.Native.Nat.{ℕ}
use mathlib.Core.Path.{◌≡◌, refl, ap}
use mathlib.Core.List.{List}
use native.Mathlib.Omega.{arith}
use Rattle.hbc_io.specs.Outcome.{Outcome, got, refused, cursor_at}
use Rattle.hbc_io.specs.Answer.{gives}
use Rattle.hbc_rows.specs.Rows.{filled}
use Rattle.hbc_buffer.specs.Series.{Run, after, used_of}
use Rattle.hbc_buffer.specs.Private.{Whole}

-- a series that answers bytes is whole
whole_by : {n : ℕ} {s : List ℕ} {offset used : ℕ} (o : Outcome Run) → after n s (cursor_at offset) ≡ o → used_of offset o ≡ gives used → Whole n s (cursor_at offset)
whole_by (got t m) e h = record { run = t; next = m; is = e }
whole_by (refused r m) e h = let z : ◌≡◌ {A = ℕ} 0 1 = cc in absurd (omega arith)

pub whole_used : {n : ℕ} {s : List ℕ} {offset used : ℕ} → used_of offset (after n s (cursor_at offset)) ≡ gives used → Whole n s (cursor_at offset)
whole_used {n} {s} {offset} h = whole_by (after n s (cursor_at offset)) refl h

-- two tables as one value, and each by itself
module _ {A : Type 0} {a b c d : A} where
  pub pair : a ≡ c → b ≡ d → ◌≡◌ {A = A × A} (a, b) (c, d)
  pair e f = rw (e, f)

  pub apart : ◌≡◌ {A = A × A} (a, b) (c, d) → (a ≡ c) × (b ≡ d)
  apart e = (ap (λ (p : A × A). p.0) e, ap (λ (p : A × A). p.1) e)

-- no values: the tables filled with none are as they were
pub as_were : (f : ℕ → ℕ) (t : List ℕ) {count : ℕ} → count ≡ 0 → t ≡ filled f count t
unfolding filled
as_were f t e = rw e
