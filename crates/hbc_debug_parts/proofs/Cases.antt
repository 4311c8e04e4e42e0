-- What a test of the section's offset says.
use mathlib.Core.Path.{◌≡◌}
use mathlib.Core.Bool.{Bool, true, false, cond}
use Prim.Native.Nat.{ℕ, ◌<◌}
use native.Mathlib.Omega.{arith}
use borrow.Author.Tests.{leb-false}
use lib.Dec.{leb, eqb}
use Rattle.hbc_debug_parts.specs.Parts.{no_section, is_empty}

-- an offset that is not for no section lies in the file
pub inside_of : (len offset : ℕ) → is_empty len offset ≡ false → offset < len
unfolding is_empty
inside_of len offset e = go (eqb offset 0) (eqb offset no_section) e
  where
    go : (a b : Bool) → cond a true (cond b true (leb len offset)) ≡ false → offset < len
    go false false h = leb-false len offset h
    go true b h = let z : ◌≡◌ {A = ℕ} 0 1 = cc in absurd (omega arith)
    go false true h = let z : ◌≡◌ {A = ℕ} 0 1 = cc in absurd (omega arith)
