-- docs/FORMAT.md, section 5.3: a literal series, runs of values behind tags.
use Rattle.std.specs.Prelude.{Result, ℕ, zero, suc, ◌+◌, ◌-◌, ◌*◌, List, cond, length, leb, eqb}
use Rattle.hbc_bits.specs.Bits.{field}
use Rattle.hbc_io.specs.Outcome.{Outcome, got, refused, valued, and_then, cursor_at, refusal, refusal_at, limit}
use Rattle.hbc_io.specs.Answers.{answered}
use Rattle.hbc_io.specs.Answer.{Answer, gives, refuses, refused_at}
use Rattle.hbc_io.specs.Lends.{below, choose, Lends}
use Rattle.hbc_io.specs.Plain.{plain_at}
use Rattle.hbc_io.specs.declared.Cursor.{Cursor}
use Rattle.hbc_io.specs.declared.Refusal.{Refusal}
use Rattle.hbc_rows.specs.Rows.{filled}
use Rattle.hbc_buffer_literal.specs.Literal.{width_of, literal_of, kind_of}

-- values of one sort: bits 4 to 6 of their tag, and how many are left
pub record Run : Type 0 where
  pub tag : ℕ
  pub left : ℕ

abbrev pub run_of : ℕ → ℕ → Run
run_of tag left = record { tag = tag; left = left }

-- with bit 7 the length is 12 bits, the low nibble times 256 plus a second byte; else the low nibble
abbrev pub length_at : List ℕ → ℕ → Cursor → Outcome ℕ
length_at s b n = cond (eqb (field 7 1 b) 0) (got (field 0 4 b) n) (valued (λ (low : ℕ). field 0 4 b * 256 + low) (plain_at 1 s n))

-- a tag byte: bits 4 to 6 give what its values are
unfoldable pub tag_at : List ℕ → Cursor → Outcome Run
tag_at s c = and_then (plain_at 1 s c) (λ b n. valued (run_of (field 4 3 b)) (length_at s b n))

-- length 0 is skipped: the next tag that has values, of at most f tags
unfoldable pub head_at : ℕ → List ℕ → Cursor → Outcome Run
head_at zero s c = refused (refusal 3) c
head_at (suc f) s c = and_then (tag_at s c) (λ t n. cond (eqb t.left 0) (head_at f s n) (got t n))

-- the run that the next value is of: the one at hand, or when it is spent the next
unfoldable pub run_at : List ℕ → Run → Cursor → Outcome Run
run_at s t c = cond (eqb t.left 0) (head_at (length s) s c) (got t c)

-- past one value: the run has one fewer
unfoldable pub step : List ℕ → Run → Cursor → Outcome Run
step s t c = and_then (run_at s t c) (λ u n. valued (λ (v : ℕ). run_of u.tag (u.left - 1)) (plain_at (width_of u.tag) s n))

-- a refusal's place is the count of values before it
abbrev pub placed : {A : Type 0} → ℕ → Outcome A → Outcome A
placed k (got v n) = got v n
placed k (refused r n) = refused (refusal_at r.number k) n

-- past k values
unfoldable pub after : ℕ → List ℕ → Cursor → Outcome Run
after zero s c = got (run_of 0 0) c
after (suc k) s c = and_then (after k s c) (λ t n. placed k (step s t n))

-- a number of value k of the series at c, made from bits 4 to 6 of its tag and the number of its bytes
abbrev pub number_in : Outcome ℕ → ℕ
number_in (got v n) = v
number_in (refused r n) = 0

unfoldable pub value_at : (ℕ → ℕ → ℕ) → List ℕ → Cursor → ℕ → ℕ
value_at f s c k = number_in (and_then (and_then (after k s c) (run_at s)) (λ u n. valued (f u.tag) (plain_at (width_of u.tag) s n)))

-- kind: that of the literal
abbrev pub kind_at : List ℕ → Cursor → ℕ → ℕ
kind_at = value_at (λ t v. kind_of (literal_of t v))

-- 64-bit payload: float bits, string number, integer as 32-bit two's complement, else 0, which is the number of its bytes
abbrev pub payload_at : List ℕ → Cursor → ℕ → ℕ
payload_at = value_at (λ t v. v)

-- the bytes that the series at `offset` used, or its refusal
abbrev pub used_of : ℕ → Outcome Run → Answer ℕ
used_of offset (got t n) = gives (n.at - offset)
used_of offset (refused r n) = refuses r

-- the answer: 1, count 0 is accepted at any offset, 7, 4, then 3 from the data
unfoldable pub series_answer : List ℕ → ℕ → ℕ → ℕ → ℕ → Answer ℕ
series_answer s offset count kinds payloads =
    below limit (length s) (refused_at 1 0)
    (choose (eqb count 0) (gives 0)
    (choose (leb (length s) offset) (refused_at 7 0)
    (below kinds count (refused_at 4 0)
    (below payloads count (refused_at 4 0)
    (used_of offset (after count s (cursor_at offset)))))))

-- both tables with the values of the series in front: the kinds, and the payloads
abbrev pub series_tables : List ℕ → ℕ → ℕ → List ℕ → List ℕ → List ℕ × List ℕ
series_tables s offset count kinds payloads =
    (filled (kind_at s (cursor_at offset)) count kinds, filled (payload_at s (cursor_at offset)) count payloads)

-- the promise: the answer, and every word of both tables
abbrev pub ReadSeries : List ℕ → ℕ → ℕ → List ℕ → List ℕ → Result ℕ Refusal → List ℕ → List ℕ → Type 0
ReadSeries s offset count kinds payloads r kinds' payloads' =
    Lends {W = List ℕ × List ℕ} answered (series_answer s offset count (length kinds) (length payloads))
    (series_tables s offset count kinds payloads) (kinds, payloads) r (kinds', payloads')
