-- That a section ends where it starts or later, so that its size is a difference.
use Prim.Native.Nat.{ℕ, ◌+◌, ◌-◌, ◌%◌, ◌≤◌}
use mathlib.Core.Path.{◌≡◌, ap}
use mathlib.Core.List.{List}
use mathlib.Core.Bool.{Bool, true, false, cond}
use native.Mathlib.Omega.{arith}
use lib.Dec.{eqb}
use Rattle.hbc_io.specs.Outcome.{got}
use Rattle.hbc_io.specs.Plain.{bytes_at, align_to}
use Rattle.hbc_io.specs.declared.Cursor.{Cursor}
use Rattle.hbc_io.specs.declared.Span.{Span}
use Rattle.hbc_io.proofs.Plains.{bytes_got}
use Rattle.hbc_io.proofs.Aligns.{aligned}

either_on : (b : Bool) (at more : ℕ) → at ≤ cond b at (at + more)
either_on true at more = omega arith
either_on false at more = omega arith

-- an align never goes back
aligned_on : (a : ℕ) (s : List ℕ) (c end : Cursor) → align_to s c a ≡ got tt end → c.at ≤ end.at
aligned_on a s c end e = rw (aligned a s c end e).0 (either_on (eqb (c.at % a) 0) c.at (a - c.at % a))

-- and so the bytes with their padding end at their start or later
pub section_on : (n a : ℕ) (s : List ℕ) (c next end : Cursor) (p : Span) → bytes_at n s c ≡ got p next → align_to s next a ≡ got tt end → c.at ≤ end.at
section_on n a s c next end p e f =
    let z : next.at ≡ c.at + n = ap (λ (d : Cursor). d.at) (bytes_got n s c p next e).1.next in
    let y : next.at ≤ end.at = aligned_on a s next end f in
    omega arith
