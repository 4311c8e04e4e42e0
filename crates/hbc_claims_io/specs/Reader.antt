-- docs/FORMAT.md, section 2.6: of a reader's calls too, two outcomes that both meet a call's contract are one: the answer, and the reader as it is left.
-- Each contract of a method over a reader is set out here as one fact, and the page of hbc_claims says that the contract's clause is that fact and
-- nothing else (`reader`).
use Rattle.std.specs.Prelude.{◌≡◌, List, ℕ, Result}
use Rattle.std.specs.Borrow.{Bor, MutBor}
use denote.Triple.Both.{Both}
use Rattle.hbc_io.specs.Outcome.{left, valued}
use Rattle.hbc_io.specs.Plain.{plain_at, seek_to, bytes_at, IsPart}
use Rattle.hbc_io.specs.Answers.{says, says_moved}
use Rattle.hbc_io.specs.declared.Cursor.{Cursor}
use Rattle.hbc_io.specs.declared.Stopped.{Stopped}
use Rattle.hbc_io.specs.declared.Span.{Span}
use Rattle.hbc_io_leb.specs.Leb.{leb_bytes}
use Rattle.hbc_io_leb.specs.Answers.{uleb_of}
use Rattle.hbc_io_leb.specs.declared.Uleb.{Uleb}
use Rattle.hbc_reader.specs.Reader.{bytes_of, cursor_of, fresh, Reads}
use Rattle.hbc_reader.specs.declared.ByteReader.{ByteReader}
use Rattle.hbc_reader.proofs.read_u32_at.Reads as of_read_u32_at
use Rattle.hbc_claims_law.specs.Law.{One}

-- a reader that is lent to a call: as it is given, and as it is left
abbrev pub Lent : Type 0
Lent = Both (Bor ByteReader) (Bor ByteReader)

-- the same, by `&mut`
abbrev pub LentMut : Type 0
LentMut = Both (MutBor ByteReader) (MutBor ByteReader)

-- ---- the facts

abbrev pub New : Bor (List ℕ) → ByteReader → Type 0
New s r = r ≡ fresh s

abbrev pub Position : ByteReader → ℕ → Type 0
Position d r = r ≡ d.pos

abbrev pub Remaining : ByteReader → ℕ → Type 0
Remaining d r = r ≡ left (bytes_of d) (cursor_of d)

-- what a read answers, and a move
abbrev pub Read : Type 0 → Type 0
Read A = Result (A × Cursor) Stopped

abbrev pub Move : Type 0
Move = Result Cursor Stopped

-- of a call that is lent the reader by `&mut`: before, the answer, after
abbrev pub Seek : ℕ → ByteReader → Move → ByteReader → Type 0
Seek to d r e = Reads (λ s c. seek_to s c to) d (says_moved r) e

abbrev pub U32 : ByteReader → Read ℕ → ByteReader → Type 0
U32 d r e = Reads (plain_at 4) d (says r) e

abbrev pub Uleb128 : ByteReader → Read Uleb → ByteReader → Type 0
Uleb128 d r e = Reads (λ s c. valued uleb_of (leb_bytes s c)) d (says r) e

abbrev pub Bytes : ℕ → ByteReader → Read Span → ByteReader → Type 0
Bytes n d r e = Reads (bytes_at n) d (says r) e

abbrev pub Part : Span → ByteReader → Bor (List ℕ) → Type 0
Part p d = IsPart d.«data» p

-- ---- each fact leaves one outcome

-- one answer and one reader left
abbrev pub OneLeft : {R : Type 0} → (ByteReader → R → ByteReader → Type 0) → Type 0
OneLeft {R} L = (d : ByteReader) (r q : R) (e f : ByteReader) → L d r e → L d q f → (r ≡ q) × (e ≡ f)

pub record Unique : Type 0 where
  pub new : (s : Bor (List ℕ)) (r q : ByteReader) → New s r → New s q → r ≡ q
  pub position : (d : ByteReader) (r q : ℕ) → Position d r → Position d q → r ≡ q
  pub remaining : (d : ByteReader) (r q : ℕ) → Remaining d r → Remaining d q → r ≡ q
  pub seek : (to : ℕ) → OneLeft (Seek to)
  pub read_u32 : OneLeft U32
  pub read_uleb128 : OneLeft Uleb128
  pub read_bytes : (n : ℕ) → OneLeft (Bytes n)
  pub part : (p : Span) (d : ByteReader) (r q : Bor (List ℕ)) → Part p d r → Part p d q → (r.now ≡ q.now) × (r.ref_ptr ≡ q.ref_ptr)
  pub read_u32_at : One of_read_u32_at.Learnt
