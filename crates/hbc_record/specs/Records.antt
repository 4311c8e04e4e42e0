-- docs/FORMAT.md, section 11: the fields of a record, the numbers of a list, and whether what came is what they list. What is cut reads as nothing.
use Rattle.std.specs.Prelude.{◌≡◌, ℕ, zero, suc, ◌+◌, ◌*◌, ◌/◌, ◌%◌, ◌^◌, Bool, true, false, cond, not, ◌&&◌, ◌||◌}
use Rattle.std.specs.Prelude.{List, [], ◌∷◌, length, take, ◌==◌, from_bits, slice_index, Float}
use Rattle.std.specs.Float.{binary64}
use Rattle.std.specs.Float.Ieee.{div, eq, ne}
use Rattle.std.specs.Borrow.{MutBor}
use Rattle.hbc_io.specs.Outcome.{Outcome, got, refused, valued, cursor_at}
use Rattle.hbc_io.specs.Plain.{span_of, part_of, word_at}
use Rattle.hbc_io.specs.declared.Span.{Span}
use Rattle.hbc_io_leb.specs.Leb.{leb_bytes}
use Rattle.hbc_io_leb.specs.Answers.{uleb_of}
use Rattle.hbc_io_leb.specs.declared.Uleb.{Uleb}
use Rattle.hbc_io_strings.specs.Strings.{prefixed}
use Rattle.hbc_rows.specs.Rows.{filled}
use Rattle.hbc_record.specs.declared.Number.{Number}
use Rattle.hbc_record.specs.declared.Judged.{Judged}
use Rattle.hbc_record.specs.declared.Asked.{Asked}
use Rattle.hbc_record.specs.declared.Tally.{Tally}

-- ---- fields

-- the span that was got, or none
abbrev pub span_got : Outcome Span → Span
span_got (got p c) = p
span_got (refused r c) = span_of 0 0

-- where the cursor stands after what was got, or the end
abbrev pub past_got : ℕ → Outcome Span → ℕ
past_got end (got p c) = c.at
past_got end (refused r c) = end

-- a field is how many bytes it has, and they: the span of the one at a place
unfoldable pub span_at : List ℕ → ℕ → Span
span_at s at = span_got (prefixed s (cursor_at at))

-- where the field after it stands
unfoldable pub past_at : List ℕ → ℕ → ℕ
past_at s at = past_got (length s) (prefixed s (cursor_at at))

-- where field k stands
unfoldable pub place_of : List ℕ → ℕ → ℕ
place_of s zero = 0
place_of s (suc k) = past_at s (place_of s k)

-- the span of field k
abbrev pub span_of_field : List ℕ → ℕ → Span
span_of_field s k = span_at s (place_of s k)

-- its bytes
abbrev pub field_of : List ℕ → ℕ → List ℕ
field_of s k = part_of s (span_of_field s k)

-- ---- numbers

abbrev pub numbered : ℕ → ℕ → Number
numbered v n = record { value = v; next = n }

-- a number and where the next one stands; what is not listed is told by the caller
abbrev pub number_got : ℕ → ℕ → Outcome Uleb → Number
number_got at unlisted (got u c) = numbered u.value c.at
number_got at unlisted (refused r c) = numbered unlisted at

-- the ULEB128 number at a place of a list; behind the last one, what all are that are not listed
unfoldable pub listed_at : List ℕ → ℕ → ℕ → Number
listed_at l at unlisted = number_got at unlisted (valued uleb_of (leb_bytes l (cursor_at at)))

-- the number after one, 0 where there is none
abbrev pub after : List ℕ → Number → Number
after l n = listed_at l n.next 0

-- number k of a list, 0 where there is none
unfoldable pub nth : List ℕ → ℕ → Number
nth l zero = listed_at l 0 0
nth l (suc k) = after l (nth l k)

-- the low 32 bits
abbrev pub low_of : ℕ → ℕ
low_of v = v % 2 ^ 32

-- which call, and what it is asked: four numbers and four of 32 bits
unfoldable pub asked_of : List ℕ → Asked
asked_of l = record {
  call = (nth l 0).value;
  a = (nth l 1).value;
  b = (nth l 2).value;
  c = (nth l 3).value;
  d = (nth l 4).value;
  p = low_of (nth l 5).value;
  q = low_of (nth l 6).value;
  r = low_of (nth l 7).value;
  s = low_of (nth l 8).value;
}

-- ---- comparisons

-- what words and numbers hold that a call leaves, and that a list leaves out at its end
abbrev pub fill : ℕ
fill = 2779096485

abbrev pub fill_long : ℕ
fill_long = 11936128518282651045

abbrev pub judged : Bool → ℕ → Judged
judged b n = record { same = b; next = n }

-- the number listed is the one that came; the fill itself is listed only where that may be
unfoldable pub is_listed : Bool → ℕ → ℕ → Number → ℕ → Bool
is_listed may f at n came = n.value == came && (may || (not (n.value == f) || n.next == at))

-- as before, and the next number of the list is the one that came
unfoldable pub judged_on : Bool → List ℕ → ℕ → Judged → ℕ → Judged
judged_on may l f j came = judged (j.same && is_listed may f j.next (listed_at l j.next f) came) (listed_at l j.next f).next

-- the first i numbers that came are the ones listed
unfoldable pub judged_to : Bool → List ℕ → ℕ → List ℕ → ℕ → Judged
judged_to may l f t zero = judged true 0
judged_to may l f t (suc i) = judged_on may l f (judged_to may l f t i) (slice_index t i)

-- all of them are, and no more is listed
unfoldable pub are_listed : Bool → List ℕ → ℕ → List ℕ → Bool
are_listed may l f t = (judged_to may l f t (length t)).same && (judged_to may l f t (length t)).next == length l

-- a call answers these numbers, in field 2
abbrev pub answered : List ℕ → List ℕ → Bool
answered s t = are_listed false (field_of s 2) fill_long t

-- a call answers two numbers, and leaves its table as field 3 lists it
abbrev pub left_as : List ℕ → ℕ → ℕ → List ℕ → Bool
left_as s code more t = answered s (code ∷ more ∷ fill_long ∷ fill_long ∷ fill_long ∷ []) && are_listed true (field_of s 3) fill t

-- two lists have one length, and the same first i bytes
unfoldable pub same_to : List ℕ → List ℕ → ℕ → Bool
same_to a b zero = length a == length b
same_to a b (suc i) = same_to a b i && word_at 1 a i == word_at 1 b i

-- the same bytes
unfoldable pub same_bytes : List ℕ → List ℕ → Bool
same_bytes a b = same_to a b (length a)

-- two floats are the same: equal and, as one divided by them tells, of one sign where they are 0; or both are no number
unfoldable pub same_float : Float → Float → Bool
same_float v w = (eq v w && eq (div binary64 one v) (div binary64 one w)) || (ne v v && ne w w)
  where
    one : Float
    one = from_bits binary64 4607182418800017408

-- ---- what a call is lent and given

-- r is the first k words of a table, or all of them, where they stand
pub record IsFront (t : MutBor (List ℕ)) (k : ℕ) (r : MutBor (List ℕ)) : Type 0 where
  pub words : r.now ≡ take k t.now
  pub place : r.ref_ptr ≡ t.ref_ptr

-- word i of bytes, of four each, 0 behind the last
abbrev pub words_of : List ℕ → ℕ → ℕ
words_of s i = word_at 4 s (4 * i)

-- r is the words of a field, as many as a table has room for, where the table stands
pub record IsGiven (s : List ℕ) (t : MutBor (List ℕ)) (r : MutBor (List ℕ)) : Type 0 where
  pub words : r.now ≡ take (length s / 4) (filled (words_of s) (length t.now) t.now)
  pub place : r.ref_ptr ≡ t.ref_ptr

-- ---- counts

abbrev pub tally : ℕ → ℕ → Tally
tally all bad = record { all = all; bad = bad }

-- one record more, and one more that differs unless it is the same; in 64 bits
unfoldable pub counted_on : Tally → Bool → Tally
counted_on t same = tally ((t.all + 1) % 2 ^ 64) ((t.bad + cond same 0 1) % 2 ^ 64)
