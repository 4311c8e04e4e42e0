-- Two answers that say the same are the same: no case hides anything.
use mathlib.Core.Path.{◌≡◌, ap, sym, ◌∙◌}
use mathlib.Core.List.{List}
use Prim.Native.Nat.{ℕ}
use denote.Ref.{Bor}
use Rattle.std.specs.Prelude.{Result, Ok, Err}
use Rattle.hbc_io.specs.Answers.{says, says_moved, answered}
use Rattle.hbc_io.specs.Plain.{IsPart}
use Rattle.hbc_io.specs.declared.Cursor.{Cursor}
use Rattle.hbc_io.specs.declared.Refusal.{Refusal}
use Rattle.hbc_io.specs.declared.Stopped.{Stopped}
use Rattle.hbc_io.specs.declared.Span.{Span}

pub one_stopped : {a b : Stopped} → a.refusal ≡ b.refusal → a.cursor ≡ b.cursor → a ≡ b
one_stopped {a} {b} p q = ap (λ (r : Refusal). stopped r a.cursor) p ∙ ap (λ (c : Cursor). stopped b.refusal c) q
  where
    stopped : Refusal → Cursor → Stopped
    stopped r c = record { refusal = r; cursor = c }

pub one_read : {A : Type 0} (r q : Result (A × Cursor) Stopped) → says r ≡ says q → r ≡ q
one_read (Ok (v, n)) (Ok (w, m)) e = cc
one_read (Err a) (Err b) e = let p : a ≡ b = one_stopped (cc) (cc) in cc
one_read (Ok (v, n)) (Err b) e = absurd (cc)
one_read (Err a) (Ok (w, m)) e = absurd (cc)

pub one_moved : (r q : Result Cursor Stopped) → says_moved r ≡ says_moved q → r ≡ q
one_moved (Ok n) (Ok m) e = cc
one_moved (Err a) (Err b) e = let p : a ≡ b = one_stopped (cc) (cc) in cc
one_moved (Ok n) (Err b) e = absurd (cc)
one_moved (Err a) (Ok m) e = absurd (cc)

pub one_answer : {A : Type 0} (r q : Result A Refusal) → answered r ≡ answered q → r ≡ q
one_answer (Ok v) (Ok w) e = cc
one_answer (Err a) (Err b) e = cc
one_answer (Ok v) (Err b) e = absurd (cc)
one_answer (Err a) (Ok w) e = absurd (cc)

-- and two parts that a span names are one, in their bytes and in memory
pub one_part : {s : Bor (List ℕ)} {p : Span} {r q : Bor (List ℕ)} → IsPart s p r → IsPart s p q → (r.now ≡ q.now) × (r.ref_ptr ≡ q.ref_ptr)
one_part a b = (a.bytes ∙ sym b.bytes, a.place ∙ sym b.place)
