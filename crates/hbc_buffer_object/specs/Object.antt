-- docs/FORMAT.md, section 5.4: an object's series, read from one of two lent buffers.
use Rattle.std.specs.Prelude.{ℕ, List, Bool, Result, Ok, Err, cond, length, eqb}
use Rattle.std.specs.Borrow.{Bor}
use Rattle.hbc_io.specs.Answer.{Answer, gives, and_then}
use Rattle.hbc_io.specs.Answers.{answered}
use Rattle.hbc_io.specs.Lends.{Lends}
use Rattle.hbc_io.specs.Plain.{span_of, part_of, IsPart}
use Rattle.hbc_io.specs.declared.Refusal.{Refusal}
use Rattle.hbc_buffer.specs.Series.{series_answer, series_tables}
use Rattle.hbc_buffer_object.specs.declared.Object.{Object}

-- the caller names one by a yes or no: yes means keys
abbrev pub named : {A : Type 0} → Bool → A → A → A
named b keys values = cond b keys values

-- n bytes from a place, none where they leave the buffer
abbrev pub bytes_of : List ℕ → ℕ → ℕ → List ℕ
bytes_of s start n = part_of s (span_of start n)

-- the bytes that an answer speaks of, in the buffer that was named
abbrev pub object_part : List ℕ → List ℕ → Object → List ℕ
object_part keys values o = bytes_of (named o.«yes» keys values) o.start o.len

-- the promise: that part of the named buffer itself, not of the other
abbrev pub ObjectPart : Bor (List ℕ) → Bor (List ℕ) → Object → Bor (List ℕ) → Type 0
ObjectPart keys values o = IsPart (named o.«yes» keys values) (span_of o.start o.len)

-- the object of an answer; refused, that of no bytes, at the beginning of the buffer that was named
abbrev pub object_in : Bool → Result Object Refusal → Object
object_in b (Ok o) = o
object_in b (Err r) = record { «yes» = b; start = 0; len = 0 }

-- for count 0, its empty beginning
abbrev pub start_of : ℕ → ℕ → ℕ
start_of offset count = cond (eqb count 0) 0 offset

-- the object of a series of n bytes: where they are
abbrev pub object_of : Bool → ℕ → ℕ → ℕ → Object
object_of b offset count n = record { «yes» = b; start = start_of offset count; len = n }

-- the object of a series' answer; refused, there is none
abbrev pub object_answer : Bool → ℕ → ℕ → Answer ℕ → Answer Object
object_answer b offset count a = and_then a (λ n. gives (object_of b offset count n))

-- the promise: the object of the series in the buffer s that was named, and every word of both tables
abbrev pub ObjectIn : List ℕ → Bool → ℕ → ℕ → List ℕ → List ℕ → Result Object Refusal → List ℕ → List ℕ → Type 0
ObjectIn s b offset count kinds payloads r kinds' payloads' =
    Lends {W = List ℕ × List ℕ} answered (object_answer b offset count (series_answer s offset count (length kinds) (length payloads)))
    (series_tables s offset count kinds payloads) (kinds, payloads) r (kinds', payloads')

abbrev pub ReadObject : List ℕ → List ℕ → Bool → ℕ → ℕ → List ℕ → List ℕ → Result Object Refusal → List ℕ → List ℕ → Type 0
ReadObject keys values b = ObjectIn (named b keys values) b
