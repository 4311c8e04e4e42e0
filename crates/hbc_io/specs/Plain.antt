-- docs/FORMAT.md, section 2.2: plain reads, seek, align and spans, with the refusals in their order. A refused one leaves the cursor.
use Rattle.std.specs.Prelude.{ℕ, ◌+◌, ◌-◌, ◌%◌, ◌≡◌, List, cond, length, take, drop, ltb, eqb}
use Rattle.std.specs.Borrow.{Bor}
use Rattle.hbc_bits.specs.Bits.{le_at}
use Rattle.hbc_io.specs.Outcome.{Outcome, got, refused, cursor_at, refusal, limit, left}
use Rattle.hbc_io.specs.declared.Cursor.{Cursor}
use Rattle.hbc_io.specs.declared.Span.{Span}

-- 1: the input is longer than 2^30 bytes; else what follows
abbrev pub within : {A : Type 0} → List ℕ → Cursor → Outcome A → Outcome A
within s c o = cond (ltb limit (length s)) (refused (refusal 1) c) o

-- 2: a place goes past the end; else what follows
abbrev pub reaching : {A : Type 0} → List ℕ → Cursor → ℕ → Outcome A → Outcome A
reaching s c to o = cond (ltb (length s) to) (refused (refusal 2) c) o

-- 3: a read needs n bytes and fewer are left; else what follows
abbrev pub needing : {A : Type 0} → ℕ → List ℕ → Cursor → Outcome A → Outcome A
needing n s c o = cond (ltb (left s c) n) (refused (refusal 3) c) o

-- every read but a seek: 1, then a cursor past the end is a start past it
abbrev pub started : {A : Type 0} → List ℕ → Cursor → Outcome A → Outcome A
started s c o = within s c (reaching s c c.at o)

-- the little-endian number of the next w bytes
unfoldable pub plain_at : ℕ → List ℕ → Cursor → Outcome ℕ
plain_at w s c = started s c (needing w s c (got (le_at s c.at w) (cursor_at (c.at + w))))

-- the number of the w bytes at a place, with no cursor and no refusal: 0 where they are not all there
unfoldable pub word_at : ℕ → List ℕ → ℕ → ℕ
word_at w s at = cond (ltb (length s) (at + w)) 0 (le_at s at w)

abbrev pub span_of : ℕ → ℕ → Span
span_of start len = record { start = start; len = len }

-- the span of the next n bytes
unfoldable pub bytes_at : ℕ → List ℕ → Cursor → Outcome Span
bytes_at n s c = started s c (needing n s c (got (span_of c.at n) (cursor_at (c.at + n))))

-- the span if it lies within the input, else the empty beginning
abbrev pub span_in : List ℕ → Span → Span
span_in s p = cond (ltb (length s) p.start) (span_of 0 0) (cond (ltb (length s - p.start) p.len) (span_of 0 0) p)

-- the bytes that a span names, none where it leaves the input
abbrev pub part_of : List ℕ → Span → List ℕ
part_of s p = take (span_in s p).len (drop (span_in s p).start s)

-- r is the part of the input s that a span names, itself and not one with the same bytes: a pointer is a block of memory and a place in it
pub record IsPart (s : Bor (List ℕ)) (p : Span) (r : Bor (List ℕ)) : Type 0 where
  pub bytes : r.now ≡ part_of s.now p
  pub place : r.ref_ptr ≡ (s.ref_ptr.0, s.ref_ptr.1 + (span_in s.now p).start)

-- the cursor is set to a place; where it stood before is not looked at
unfoldable pub seek_to : List ℕ → Cursor → ℕ → Outcome (Unit {0})
seek_to s c to = within s c (reaching s c to (got tt (cursor_at to)))

-- the least multiple of a from a place up, a not 0
abbrev pub aligned_up : ℕ → ℕ → ℕ
aligned_up a at = cond (eqb (at % a) 0) at (at + (a - at % a))

-- the cursor is moved up to a multiple of a; 6 comes before 2
unfoldable pub align_to : List ℕ → Cursor → ℕ → Outcome (Unit {0})
align_to s c a =
    within s c
    (cond (eqb a 0) (refused (refusal 6) c)
    (reaching s c c.at (reaching s c (aligned_up a c.at) (got tt (cursor_at (aligned_up a c.at))))))
