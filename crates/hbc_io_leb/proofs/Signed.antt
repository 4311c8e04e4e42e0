-- Tests of a signed number as tests of its bits.
use mathlib.Core.Path.{◌≡◌, refl, ap}
use mathlib.Core.Bool.{Bool, true, false, cond}
use mathlib.Core.List.{List}
use Prim.Native.Nat.{ℕ, suc, ◌-◌, ◌%◌, ◌^◌, ◌≤◌, ◌<◌}
use native.Mathlib.Omega.{arith}
use native.Mathlib.Nat.{mod-eq_of_lt}
use borrow.Author.Tests.{ltb-true, ltb-false, leb-true, lt-leb}
use lib.Dec.{ltb, leb}
use lib.IntN.{ℤ, pos, negsuc}
use mir.Syntax.{w64}
use mir.Val.{SFits}
use Rattle.hbc_io.specs.Outcome.{got, twos}
use Rattle.hbc_io_leb.specs.Leb.{leb_bytes, low64, dwarf_signed}
use Rattle.hbc_io_leb.specs.Answers.{sleb_of}
use Rattle.hbc_io_leb.specs.declared.Sleb.{Sleb}
use Rattle.hbc_io.specs.declared.Cursor.{Cursor}
use Rattle.hbc_io.proofs.Reading.{valued_got}
use Rattle.hbc_io_leb.specs.Signed.{sleb_at, bits_of, up_to, natural, low32}

twos_fits : (v : ℕ) → v < 2 ^ 64 → SFits w64 (twos 64 v)
twos_fits v h = go (ltb v (2 ^ 63)) refl
  where
    go : (b : Bool) → ltb v (2 ^ 63) ≡ b → SFits w64 (cond b (pos v) (negsuc (2 ^ 64 - suc v)))
    go true e = record { sfits = omega (arith, ltb-true v (2 ^ 63) e) }
    go false e = record { sfits = omega (arith, ltb-false v (2 ^ 63) e) }

low_fits : (z : ℤ) → SFits w64 (low64 z)
low_fits (pos n) = twos_fits (n % 2 ^ 64) (omega arith)
low_fits (negsuc n) = twos_fits (2 ^ 64 - suc (n % 2 ^ 64)) (omega arith)

-- what is read fits 64 bits
pub sleb_fits : (s : List ℕ) (c : Cursor) (z : Sleb) (n : Cursor) → sleb_at s c ≡ got z n → SFits w64 z.value
unfolding sleb_at
sleb_fits s c z n e =
    let w = valued_got sleb_of (leb_bytes s c) z n e in
    let d : z.value ≡ low64 (dwarf_signed w.0) = ap (λ (x : Sleb). x.value) w.2 in
    rw d (low_fits (dwarf_signed w.0))

-- a number from 0 up is its own bits; one below 0 lacks as much of 2^64
pub bits_pos : (n : ℕ) → SFits w64 (pos n) → bits_of (pos n) ≡ n
unfolding bits_of
bits_pos n h = mod-eq_of_lt (omega (arith, h.sfits))

pub bits_neg : (n : ℕ) → SFits w64 (negsuc n) → bits_of (negsuc n) ≡ 2 ^ 64 - suc n
unfolding bits_of
bits_neg n h = ap (λ (k : ℕ). 2 ^ 64 - suc k) (mod-eq_of_lt (omega (arith, h.sfits)))

pub bits_up_to : (m : ℕ) (z : ℤ) → SFits w64 z → m < 2 ^ 63 → leb (bits_of z) m ≡ up_to m z
unfolding up_to
bits_up_to m (pos n) h k = rw (bits_pos n h)
bits_up_to m (negsuc n) h k = rw (bits_neg n h) (lt-leb (2 ^ 64 - suc n) m (omega (arith, h.sfits)))

pub bits_low : (z : ℤ) → bits_of z % 2 ^ 32 ≡ low32 z
unfolding bits_of low32
bits_low (pos n) = omega arith
bits_low (negsuc n) = omega arith

pub natural_bits : (m : ℕ) (z : ℤ) → SFits w64 z → up_to m z ≡ true → natural z ≡ bits_of z
unfolding up_to
natural_bits m (pos n) h e = rw (bits_pos n h)
natural_bits m (negsuc n) h e = let z : ◌≡◌ {A = ℕ} 0 1 = cc in absurd (omega arith)

pub natural_le : (m : ℕ) (z : ℤ) → up_to m z ≡ true → natural z ≤ m
unfolding up_to
natural_le m (pos n) h = leb-true n m h
natural_le m (negsuc n) h = omega arith
