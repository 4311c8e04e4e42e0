-- How far reads go until one fails.
use mathlib.Core.Path.{◌≡◌, refl, ap}
use Prim.Native.Nat.{ℕ, zero, suc, ◌+◌, ◌≤◌}
use native.Mathlib.Omega.{arith}
use lib.ListN.{length}
use Rattle.hbc_io.specs.Outcome.{Outcome, got, refused}
use Rattle.hbc_io.specs.declared.Cursor.{Cursor}
use Rattle.hbc_io.proofs.Moves.{Moves}
use Rattle.hbc_rows.specs.Until.{until, after}
use Rattle.hbc_rows.proofs.Untils.{until_none, until_more, until_stop, after_none, after_more, after_stop}

pub record Far {A : Type 0} (m : ℕ) (f : Cursor → Outcome A) (k : ℕ) (c : Cursor) : Type 0 where
  pub low : c.at + length (until f k c) ≤ (after f k c).at
  pub high : (after f k c).at ≤ m

-- many of them
module _ {A : Type 0} (m : ℕ) (f : Cursor → Outcome A) (moves : Moves m f) where
  far_step : (k : ℕ) (c : Cursor) (o : Outcome A) → f c ≡ o → c.at ≤ m → ((n : Cursor) → n.at ≤ m → Far m f k n) → Far m f (suc k) c
  far_step k c (got v n) e h go =
      let g = moves.on c v n e in
      let w = go n g.1 in
      let a = ap length (until_more f k c v n e) in
      let b = ap (λ (d : Cursor). d.at) (after_more f k c v n e) in
      record { low = omega (arith, w.low); high = omega (arith, w.high) }
  far_step k c (refused r n) e h go =
      let g = moves.off c r n h e in
      let a = ap length (until_stop f (suc k) c r n e) in
      let b = ap (λ (d : Cursor). d.at) (after_stop f k c r n e) in
      record { low = omega arith; high = omega arith }

  pub far : (k : ℕ) (c : Cursor) → c.at ≤ m → Far m f k c
  far zero c h =
      let a = ap length (until_none f c) in
      let b = ap (λ (d : Cursor). d.at) (after_none f c) in
      record { low = omega arith; high = omega arith }
  far (suc k) c h = far_step k c (f c) refl h (λ n l. far k n l)
