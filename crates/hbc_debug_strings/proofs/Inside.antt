-- A string lies inside its part.
use mathlib.Core.Path.{◌≡◌, ap}
use mathlib.Core.List.{List}
use Prim.Native.Nat.{ℕ, ◌+◌, ◌≤◌}
use native.Mathlib.Omega.{arith}
use lib.ListN.{length}
use Rattle.hbc_io.specs.Outcome.{valued, got}
use Rattle.hbc_io.specs.Plain.{bytes_at}
use Rattle.hbc_io.specs.declared.Cursor.{Cursor}
use Rattle.hbc_io.specs.declared.Span.{Span}
use Rattle.hbc_io.proofs.Reading.{then_got}
use Rattle.hbc_io.proofs.Plains.{bytes_got}
use Rattle.hbc_io_leb.specs.Leb.{leb_bytes}
use Rattle.hbc_io_leb.specs.Answers.{uleb_of}
use Rattle.hbc_io_strings.specs.Strings.{prefixed}

pub inside : (s : List ℕ) (c : Cursor) (p : Span) (n : Cursor) → prefixed s c ≡ got p n → p.start + p.len ≤ length s
unfolding prefixed
inside s c p n e =
    let w = then_got (valued uleb_of (leb_bytes s c)) (λ u m. bytes_at u.value s m) p n e in
    let b = bytes_got w.0.value s w.1 p n w.3 in
    let x : p.start ≡ w.1.at = ap (λ (q : Span). q.start) b.0 in
    let y : p.len ≡ w.0.value = ap (λ (q : Span). q.len) b.0 in
    omega (arith, b.1.room)
