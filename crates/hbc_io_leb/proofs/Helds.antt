-- The bits that were read, and the number that they are of.
use mathlib.Core.Path.{◌≡◌, ap}
use mathlib.Core.List.{List}
use Prim.Native.Nat.{ℕ, ◌≤◌, ◌<◌}
use lib.ListN.{length}
use mir.Syntax.{w64}
use mir.Val.{SFits}
use Rattle.hbc_io.specs.Outcome.{got, refused, valued}
use Rattle.hbc_io.specs.declared.Cursor.{Cursor}
use Rattle.hbc_io.specs.declared.Refusal.{Refusal}
use Rattle.hbc_io.proofs.Reading.{valued_got, valued_refused}
use Rattle.hbc_io_leb.specs.Signed.{sleb_at, bits_of, held_of}
use Rattle.hbc_io_leb.specs.declared.Held.{Held}
use Rattle.hbc_io_leb.specs.declared.Sleb.{Sleb}
use Rattle.hbc_io_leb.proofs.Signed.{sleb_fits}
use Rattle.hbc_io_leb.proofs.Moves.{sleb_moves}

pub record Bits (s : List ℕ) (c : Cursor) (b : Held) (n : Cursor) : Type 0 where
  pub z : Sleb
  pub is : sleb_at s c ≡ got z n
  pub bits : b.bits ≡ bits_of z.value
  pub fits : SFits w64 z.value

pub bits_got : (s : List ℕ) (c : Cursor) (b : Held) (n : Cursor) → valued held_of (sleb_at s c) ≡ got b n → Bits s c b n
bits_got s c b n e = let w = valued_got held_of (sleb_at s c) b n e in record { z = w.0; is = w.1; bits = ap (λ (x : Held). x.bits) w.2; fits = sleb_fits s c w.0 n w.1 }

pub bits_refused : (s : List ℕ) (c : Cursor) (r : Refusal) (n : Cursor) → valued held_of (sleb_at s c) ≡ refused r n → sleb_at s c ≡ refused r n
bits_refused s c r n e = valued_refused held_of (sleb_at s c) r n e

pub bits_inside : {s : List ℕ} {c : Cursor} {b : Held} {n : Cursor} → Bits s c b n → (c.at < n.at) × (n.at ≤ length s)
bits_inside {s} {c} {b} {n} g = (sleb_moves s).on c g.z n g.is
