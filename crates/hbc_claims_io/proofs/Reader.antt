-- Each clause of a reader's contract is its fact, by computation, and each fact leaves one outcome.
use mathlib.Core.Path.{◌≡◌, refl}
use mathlib.Core.List.{List}
use Prim.Native.Nat.{ℕ}
use seplogic.Ra.Ura.{Ura}
use base.Logic.{SProp}
use prog.Memory.{Memory}
use prog.Routine.{Routine}
use types.Logic.{Logic}
use contract.Lifetimes.{Lfts}
use contract.Monad.{Fun, fact}
use Rattle.std.specs.Borrow.{Bor, MutBor}
use denote.Triple.Both.{Both}
use Rattle.hbc_io.specs.declared.Span.{Span}
use Rattle.hbc_io_leb.specs.declared.Uleb.{Uleb}
use Rattle.hbc_reader.specs.declared.ByteReader.{ByteReader}
use Rattle.hbc_reader.specs.contracts.ByteReader.new as of_new
use Rattle.hbc_reader.specs.contracts.ByteReader.position as of_position
use Rattle.hbc_reader.specs.contracts.ByteReader.remaining as of_remaining
use Rattle.hbc_reader.specs.contracts.ByteReader.seek as of_seek
use Rattle.hbc_reader.specs.contracts.ByteReader.read_u32 as of_read_u32
use Rattle.hbc_reader.specs.contracts.ByteReader.read_uleb128 as of_read_uleb128
use Rattle.hbc_reader.specs.contracts.ByteReader.read_bytes as of_read_bytes
use Rattle.hbc_reader.specs.contracts.ByteReader.part as of_part
use Rattle.hbc_io.proofs.Alone.{one_read, one_moved, one_part}
use Rattle.hbc_claims_law.proofs.Law.{same}
use Rattle.hbc_claims_io.specs.Reader.{Lent, LentMut, Read, Move, New, Position, Remaining, Seek, U32, Uleb128, Bytes, Part, Unique}

-- ---- each clause is its fact

module _ {M : Type 1} {𝓤 : Ura M} (𝓛 : Logic 𝓤) (mem : Memory → SProp 𝓤) (run : Routine → Fun 𝓤) where
  pub new_clause : (κs : Lfts 1) (a : Bor (List ℕ)) (b : Both (Bor (List ℕ)) (Bor (List ℕ))) (r : ByteReader) → of_new.ensures-1 𝓛 κs mem run a b r ≡ fact 𝓤 (New b.entry r)
  new_clause κs a b r = refl

  pub position_clause : (κs : Lfts 2) (a : Bor ByteReader) (b : Lent) (r : ℕ) → of_position.ensures-1 𝓛 κs mem run a b r ≡ fact 𝓤 (Position b.entry.now r)
  position_clause κs a b r = refl

  pub remaining_clause : (κs : Lfts 2) (a : Bor ByteReader) (b : Lent) (r : ℕ) → of_remaining.ensures-1 𝓛 κs mem run a b r ≡ fact 𝓤 (Remaining b.entry.now r)
  remaining_clause κs a b r = refl

  pub seek_clause : (κs : Lfts 2) (a : MutBor ByteReader) (to : ℕ) (b : LentMut) (t : Both ℕ ℕ) (r : Move)
      → of_seek.ensures-1 𝓛 κs mem run a to b t r ≡ fact 𝓤 (Seek to b.entry.now r b.exit.now)
  seek_clause κs a to b t r = refl

  pub read_u32_clause : (κs : Lfts 2) (a : MutBor ByteReader) (b : LentMut) (r : Read ℕ) → of_read_u32.ensures-1 𝓛 κs mem run a b r ≡ fact 𝓤 (U32 b.entry.now r b.exit.now)
  read_u32_clause κs a b r = refl

  pub read_uleb128_clause : (κs : Lfts 2) (a : MutBor ByteReader) (b : LentMut) (r : Read Uleb)
      → of_read_uleb128.ensures-1 𝓛 κs mem run a b r ≡ fact 𝓤 (Uleb128 b.entry.now r b.exit.now)
  read_uleb128_clause κs a b r = refl

  pub read_bytes_clause : (κs : Lfts 2) (a : MutBor ByteReader) (n : ℕ) (b : LentMut) (t : Both ℕ ℕ) (r : Read Span)
      → of_read_bytes.ensures-1 𝓛 κs mem run a n b t r ≡ fact 𝓤 (Bytes n b.entry.now r b.exit.now)
  read_bytes_clause κs a n b t r = refl

  pub part_clause : (κs : Lfts 2) (a : Bor ByteReader) (p : Span) (b : Lent) (t : Both Span Span) (r : Bor (List ℕ)) → of_part.ensures-1 𝓛 κs mem run a p b t r ≡ fact 𝓤 (Part p b.entry.now r)
  part_clause κs a p b t r = refl

-- ---- each fact leaves one outcome

pub unique : Unique
unique = record {
  new = λ s r q. same;
  position = λ d r q. same;
  remaining = λ d r q. same;
  seek = λ to d r q e f g h. (one_moved r q (same g.says h.says), same g.leaves h.leaves);
  read_u32 = λ d r q e f g h. (one_read r q (same g.says h.says), same g.leaves h.leaves);
  read_uleb128 = λ d r q e f g h. (one_read r q (same g.says h.says), same g.leaves h.leaves);
  read_bytes = λ n d r q e f g h. (one_read r q (same g.says h.says), same g.leaves h.leaves);
  part = λ p d r q. one_part;
  read_u32_at = λ k a r q s u e f. one_read r q (same e f);
}
