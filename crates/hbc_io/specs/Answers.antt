-- docs/FORMAT.md, section 2.2: what an answer of src/ says, whatever the type of its value: the value, or the refusal, and the cursor.
use Rattle.std.specs.Prelude.{ℕ, Result, Ok, Err}
use Rattle.hbc_io.specs.Answer.{Answer, gives, refuses}
use Rattle.hbc_io.specs.Outcome.{Outcome, got, refused, refusal}
use Rattle.hbc_io.specs.declared.Cursor.{Cursor}
use Rattle.hbc_io.specs.declared.Reason.{Reason}
use Rattle.hbc_io.specs.declared.Reason.TheVariants as reason
use Rattle.hbc_io.specs.declared.Refusal.{Refusal}
use Rattle.hbc_io.specs.declared.Stopped.{Stopped}

-- the numbers of section 1.1
abbrev pub number_of : Reason → ℕ
number_of reason.TooLong = 1
number_of reason.PastEnd = 2
number_of reason.Cut = 3
number_of reason.TooFewRows = 4
number_of reason.Leb128TooLong = 5
number_of reason.ZeroAlignment = 6
number_of reason.SeriesPastEnd = 7
number_of reason.NoOverflowPair = 8
number_of reason.NoZero = 9
number_of reason.BadSpan = 10
number_of reason.TooFewToRead = 11
number_of reason.NoSuchLayout = 12
number_of reason.BadRow = 13
number_of reason.BadInfoOffset = 14
number_of reason.LargeBeforeEnd = 15
number_of reason.BadTotals = 16

abbrev pub says : {A : Type 0} → Result (A × Cursor) Stopped → Outcome A
says (Ok (v, n)) = got v n
says (Err e) = refused e.refusal e.cursor

-- a move has no value but the cursor
abbrev pub says_moved : Result Cursor Stopped → Outcome (Unit {0})
says_moved (Ok n) = got tt n
says_moved (Err e) = refused e.refusal e.cursor

-- what a call with no cursor answers
abbrev pub answered : {A : Type 0} → Result A Refusal → Answer A
answered (Ok v) = gives v
answered (Err r) = refuses r

-- a refusal of this layer, and the cursor that it leaves
abbrev pub stopped_at : ℕ → Cursor → Stopped
stopped_at k c = record { refusal = refusal k; cursor = c }
