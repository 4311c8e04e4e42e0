-- Where an align went.
use mathlib.Core.Path.{◌≡◌, sym, ap}
use mathlib.Core.List.{List}
use Prim.Native.Nat.{ℕ, ◌≤◌}
use borrow.Author.Tests.{ltb-false}
use lib.ListN.{length}
use lib.Dec.{ltb, eqb}
use Rattle.hbc_io.specs.Outcome.{got, cursor_at, refusal, limit}
use Rattle.hbc_io.specs.Plain.{align_to, aligned_up}
use Rattle.hbc_io.specs.declared.Cursor.{Cursor}
use Rattle.hbc_io.proofs.Reading.{past_test, same_got}

-- to the place rounded up, and it is in the input
pub aligned : (a : ℕ) (s : List ℕ) (c end : Cursor) → align_to s c a ≡ got tt end → (end.at ≡ aligned_up a c.at) × (end.at ≤ length s)
unfolding align_to
aligned a s c end e =
    let p = past_test (ltb limit (length s)) (refusal 1) c _ tt end e in
    let q = past_test (eqb a 0) (refusal 6) c _ tt end p.1 in
    let r = past_test (ltb (length s) c.at) (refusal 2) c _ tt end q.1 in
    let u = past_test (ltb (length s) (aligned_up a c.at)) (refusal 2) c _ tt end r.1 in
    let z : aligned_up a c.at ≡ end.at = ap (λ (k : Cursor). k.at) (same_got tt tt (cursor_at _) end u.1).1 in
    let y : aligned_up a c.at ≤ length s = ltb-false (length s) (aligned_up a c.at) u.0 in
    (sym z, rw z at y)
