-- How far the bytes before the first zero go, and how a string ends.
use mathlib.Core.Path.{◌≡◌, refl, sym, ap, ◌∙◌}
use mathlib.Core.List.{List}
use Prim.Native.Nat.{ℕ, ◌+◌, ◌≤◌, ◌<◌}
use native.Mathlib.Omega.{arith}
use lib.ListN.{length}
use Rattle.hbc_io.specs.Outcome.{Outcome, got, refused, valued, and_then}
use Rattle.hbc_io.specs.Plain.{bytes_at}
use Rattle.hbc_io.specs.declared.Cursor.{Cursor}
use Rattle.hbc_io.specs.declared.Refusal.{Refusal}
use Rattle.hbc_io.specs.declared.Span.{Span}
use Rattle.hbc_io.proofs.Reading.{valued_got, valued_refused, then_got}
use Rattle.hbc_io.proofs.Plains.{bytes_got}
use Rattle.hbc_io_leb.specs.Leb.{leb_bytes, exact_unsigned}
use Rattle.hbc_io_leb.specs.Answers.{uleb_of}
use Rattle.hbc_io_leb.specs.declared.Uleb.{Uleb}
use Rattle.hbc_io_leb.proofs.Lebs.{leb_got}
use Rattle.hbc_io_strings.specs.Strings.{prefixed, string_of, marked_at}
use Rattle.hbc_io_strings.specs.declared.Prefixed.{Prefixed}

module _ (s : List ℕ) (c : Cursor) where
  pub prefix_got : {u : Uleb} {n : Cursor} → valued uleb_of (leb_bytes s c) ≡ got u n → {o : Outcome Span} → bytes_at u.value s n ≡ o
      → marked_at s c ≡ valued (string_of u) o
  unfolding marked_at
  prefix_got {u} {n} e f = ap (λ (p : Outcome Uleb). and_then p (λ u n. valued (string_of u) (bytes_at u.value s n))) e ∙ ap (valued (string_of u)) f

  pub prefix_refused : {r : Refusal} {n : Cursor} → valued uleb_of (leb_bytes s c) ≡ refused r n → marked_at s c ≡ refused r n
  unfolding marked_at
  prefix_refused e = rw e

  without : (o : Outcome Uleb) → valued (λ (p : Prefixed). p.span) (and_then o (λ u n. valued (string_of u) (bytes_at u.value s n))) ≡ and_then o (λ u n. bytes_at u.value s n)
  without (got u n) = same (bytes_at u.value s n)
    where
      same : (o : Outcome Span) → valued (λ (p : Prefixed). p.span) (valued (string_of u) o) ≡ o
      same (got p m) = refl
      same (refused r m) = refl
  without (refused r n) = refl

  -- without its mark it is the string
  pub span_of_lem : valued (λ (p : Prefixed). p.span) (marked_at s c) ≡ prefixed s c
  unfolding marked_at prefixed
  span_of_lem = without (valued uleb_of (leb_bytes s c))

  pub span_got : {p : Prefixed} {n : Cursor} → marked_at s c ≡ got p n → prefixed s c ≡ got p.span n
  span_got e = sym span_of_lem ∙ ap (valued (λ (p : Prefixed). p.span)) e

  pub span_refused : {r : Refusal} {n : Cursor} → marked_at s c ≡ refused r n → prefixed s c ≡ refused r n
  span_refused e = sym span_of_lem ∙ ap (valued (λ (p : Prefixed). p.span)) e

  pub mark_refused : {r : Refusal} {n : Cursor} → prefixed s c ≡ refused r n → marked_at s c ≡ refused r n
  mark_refused {r} {n} e = valued_refused (λ (p : Prefixed). p.span) (marked_at s c) r n (span_of_lem ∙ e)

  -- its mark is that of its length
  pub mark_got : {p : Prefixed} {n : Cursor} → marked_at s c ≡ got p n → (bs : List ℕ) × (m : Cursor) × (leb_bytes s c ≡ got bs m) × (p.exact ≡ exact_unsigned bs)
  unfolding marked_at
  mark_got {p} {n} e =
      let w = then_got (valued uleb_of (leb_bytes s c)) (λ u m. valued (string_of u) (bytes_at u.value s m)) p n e in
      let u = valued_got uleb_of (leb_bytes s c) w.0 w.1 w.2 in
      let b = valued_got (string_of w.0) (bytes_at w.0.value s w.1) p n w.3 in
      (u.0, w.1, u.1, ap (λ (x : Prefixed). x.exact) b.2 ∙ ap (λ (x : Uleb). x.exact) u.2)

-- a string with its length in front takes at least a byte, and ends in the input
pub prefix_moves : (s : List ℕ) (c : Cursor) (p : Span) (n : Cursor) → prefixed s c ≡ got p n → (c.at < n.at) × (n.at ≤ length s)
unfolding prefixed
prefix_moves s c p n e =
    let w = then_got (valued uleb_of (leb_bytes s c)) (λ u m. bytes_at u.value s m) p n e in
    let u = valued_got uleb_of (leb_bytes s c) w.0 w.1 w.2 in
    let k = leb_got s c u.0 w.1 u.1 in
    let b = bytes_got w.0.value s w.1 p n w.3 in
    let a : w.1.at ≡ c.at + length u.0 = ap (λ (d : Cursor). d.at) k.next in
    let d : n.at ≡ w.1.at + w.0.value = ap (λ (x : Cursor). x.at) b.1.next in
    (omega (arith, k.some), omega (arith, b.1.room))
