-- docs/FORMAT.md, sections 1 to 7: the terms that the theorems are stated in and no promise cites, by layers; hbc_claims has the statements.
use Rattle.std.specs.Prelude.{ℕ, zero, suc, ◌+◌, ◌*◌, ◌^◌, ◌≤◌, ◌<◌, ◌≡◌, List, Bool, true, false, cond, ℤ, pos, negsuc, length, get_or, eqb}
use Rattle.std.specs.Prelude.{Option, Some, None}
use Rattle.hbc_bits.specs.Bits.{le_at, field}
use Rattle.hbc_io.specs.Outcome.{got, refused, cursor_at, and_then}
use Rattle.hbc_io.specs.Answer.{gives}
use Rattle.hbc_io.specs.Plain.{plain_at, aligned_up}
use Rattle.hbc_io.specs.declared.Cursor.{Cursor}
use Rattle.hbc_io.specs.declared.Refusal.{Refusal}
use Rattle.hbc_io_leb.specs.Leb.{leb_bytes}
use Rattle.hbc_function_record.specs.declared.Layout.{Layout}
use Rattle.hbc_function_record.specs.declared.Record.{Record}
use Rattle.hbc_function_record.specs.declared.Found.{Found}
use Rattle.hbc_function_record.specs.Record.{size_of, inline_of, flags_of, overflowed, place_of}
use Rattle.hbc_function_record.specs.Row.{row_words}
use Rattle.hbc_function_header.specs.Header.{function_at}
use Rattle.hbc_buffer_literal.specs.Literal.{width_of, literal_of, kind_of}
use Rattle.hbc_buffer.specs.Series.{Run, run_at, after}
use Rattle.hbc_parsing_handlers.specs.Why.{shown}
use Rattle.hbc_parsing_handlers.specs.Handlers.{total}
use Rattle.hbc_parsing_sections.specs.declared.Section.{Section}

-- ---- of every layer

pub data Either (A B : Type 0) : Type 0 where
  left : A → Either A B
  right : B → Either A B

-- a mark is true exactly when something holds
pub record Exactly (mark : Bool) (A : Type 0) : Type 0 where
  pub holds : mark ≡ true → A
  pub only : A → mark ≡ true

-- how many numbers below n are chosen
unfoldable pub count_of : (ℕ → Bool) → ℕ → ℕ
count_of chosen zero = 0
count_of chosen (suc n) = cond (chosen n) (count_of chosen n + 1) (count_of chosen n)

-- t' is as long as t, and from word n on the same
pub record Behind (n : ℕ) (t t' : List ℕ) : Type 0 where
  pub rest : (j : ℕ) → n ≤ j → get_or t' j 0 ≡ get_or t j 0
  pub long : length t' ≡ length t

-- ---- bits and the cursor

-- bit b of n is set
abbrev pub Bit : ℕ → ℕ → Type 0
Bit b n = field b 1 n ≡ 1

-- bit b of p is set exactly when it is set in one of x and y
pub record OrBit (b p x y : ℕ) : Type 0 where
  pub set : Either (Bit b x) (Bit b y) → Bit b p
  pub only : Bit b p → Either (Bit b x) (Bit b y)

-- from -2^63 to 2^63 - 1
abbrev pub Fits64 : ℤ → Type 0
Fits64 (pos n) = n < 2 ^ 63
Fits64 (negsuc n) = n < 2 ^ 63

-- where a refused read leaves the cursor: where it was
abbrev pub stays : Cursor → Refusal → Cursor
stays c k = c

-- a refused LEB128 read: after the tenth byte (5), at the end of the input (3), else where it was
abbrev pub leb_left : List ℕ → Cursor → Refusal → Cursor
leb_left s c k = cond (eqb k.number 5) (cursor_at (c.at + 10)) (cond (eqb k.number 3) (cursor_at (length s)) c)

-- a string that no zero ends: at the end of the input (9), else where it was
abbrev pub text_left : List ℕ → Cursor → Refusal → Cursor
text_left s c k = cond (eqb k.number 9) (cursor_at (length s)) c

-- a string with its length in front: the length itself was refused, or it was read and the cursor stays after it
pub data PrefixLeft (s : List ℕ) (c : Cursor) (k : Refusal) (n : Cursor) : Type 0 where
  no_length : leb_bytes s c ≡ refused k n → n ≡ leb_left s c k → PrefixLeft s c k n
  no_bytes : (bs : List ℕ) → leb_bytes s c ≡ got bs n → PrefixLeft s c k n

-- ---- function tables

-- a and b are as long, and the same outside the bytes from low up to high
pub record Same (a b : List ℕ) (low high : ℕ) : Type 0 where
  pub long : length a ≡ length b
  pub out : (j : ℕ) → (low ≤ j → j < high → ⊥) → get_or a j 0 ≡ get_or b j 0

-- what the inline header at a place says; whether it is flagged, and the packed place that it names then
abbrev pub header_in : List ℕ → Layout → ℕ → Record
header_in s layout at = inline_of layout 0 (le_at s at (size_of layout))

abbrev pub flagged : List ℕ → Layout → ℕ → Bool
flagged s layout at = overflowed (flags_of (header_in s layout at))

abbrev pub packed_at : List ℕ → Layout → ℕ → ℕ
packed_at s layout at = place_of (header_in s layout at)

-- byte j is one of the n from a, and of the span
pub record Shared (a n low high j : ℕ) : Type 0 where
  pub from : a ≤ j
  pub to : j < a + n
  pub low_on : low ≤ j
  pub before_high : j < high

-- a word that is word c of the row of what function i is read as: its record's, or the place
pub record RowWord (s : List ℕ) (layout : Layout) (start i c word : ℕ) : Type 0 where
  pub read_as : Found
  pub found : function_at s layout start i ≡ gives read_as
  pub is : word ≡ get_or (row_words read_as) c 0

-- ---- literals

-- value i of the series at c: the run that it is of stands at a place, the payload is the number of its bytes there, the kind that of its literal
pub record Value (s : List ℕ) (c : Cursor) (i kind payload : ℕ) : Type 0 where
  pub run : Run
  pub place : Cursor
  pub next : Cursor
  pub stands : and_then (after i s c) (run_at s) ≡ got run place
  pub reads : plain_at (width_of run.tag) s place ≡ got payload next
  pub is : kind ≡ kind_of (literal_of run.tag payload)

-- ---- handlers and sections

-- row k of those of n functions is handler j of function i
pub record Whose (s functions : List ℕ) (n k : ℕ) : Type 0 where
  pub i : ℕ
  pub j : ℕ
  pub before : i < n
  pub own : j < (shown s functions i).count
  pub place : k ≡ total s functions i + j

-- a section with so many entries and so many bytes, which its size pads to a multiple of 4 of the place in the file
pub record Sized (p : Section) (entries bytes : ℕ) : Type 0 where
  pub has : p.entries ≡ entries
  pub ends : p.start + p.size ≡ aligned_up 4 (p.start + bytes)

-- sources: given, a section of so many entries, 8 bytes each; not given, absent
abbrev pub SourcesSized : Bool → ℕ → Option Section → Type 0
SourcesSized given n (Some p) = (given ≡ true) × Sized p n (8 * n)
SourcesSized given n None = given ≡ false
