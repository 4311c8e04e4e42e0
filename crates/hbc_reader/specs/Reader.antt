-- docs/FORMAT.md, section 2.6: a reader is a slice and a place in it: what its calls answer is what the cursor's calls answer of those bytes
-- at that place.
use Rattle.std.specs.Prelude.{ℕ, ◌≡◌, List}
use Rattle.std.specs.Borrow.{Bor}
use Rattle.hbc_io.specs.Outcome.{Outcome, got, refused, cursor_at, and_then}
use Rattle.hbc_io.specs.Plain.{plain_at, seek_to}
use Rattle.hbc_io.specs.declared.Cursor.{Cursor}
use Rattle.hbc_reader.specs.declared.ByteReader.{ByteReader}

-- the reader's bytes, and its place as a cursor
abbrev pub bytes_of : ByteReader → List ℕ
bytes_of r = r.«data».now

abbrev pub cursor_of : ByteReader → Cursor
cursor_of r = cursor_at r.«pos»

-- the same bytes, at another place
abbrev pub moved_to : ByteReader → ℕ → ByteReader
moved_to r at = record { «data» = r.«data»; «pos» = at }

-- where an outcome leaves the cursor
abbrev pub after : {A : Type 0} → Outcome A → ℕ
after (got v n) = n.at
after (refused r n) = n.at

-- a reader made of these bytes: they are its own, and it stands at the first
abbrev pub fresh : Bor (List ℕ) → ByteReader
fresh s = record { «data» = s; «pos» = 0 }

-- a call of a reader: what the cursor's call f finds at its place; the reader keeps its bytes, and stands where f leaves the cursor
pub record Reads {A : Type 0} (f : List ℕ → Cursor → Outcome A) (before : ByteReader) (o : Outcome A) (left : ByteReader) : Type 0 where
  pub says : o ≡ f (bytes_of before) (cursor_of before)
  pub leaves : left ≡ moved_to before (after (f (bytes_of before) (cursor_of before)))

-- a reader of these bytes is sought to a place, and reads a u32 there
abbrev pub sought_u32 : List ℕ → ℕ → Outcome ℕ
sought_u32 s to = and_then (seek_to s (cursor_at 0) to) (λ _ c. plain_at 4 s c)
