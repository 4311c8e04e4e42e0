-- docs/FORMAT.md, section 8.1: an answer as one number of 64 bits.
use Rattle.std.specs.Prelude.{ℕ, ◌+◌, ◌*◌, ◌^◌, Bool, true, false}
use Rattle.hbc_io.specs.Answer.{Answer, gives, refuses}
use Rattle.hbc_io.specs.declared.Refusal.{Refusal}

-- a refusal: its number above its place
abbrev pub code_of : Refusal → ℕ
code_of r = r.number * 2 ^ 32 + r.place

-- an answer: the refusal, or the count that what was asked for is told as
abbrev pub code_in : {A : Type 0} → (A → ℕ) → Answer A → ℕ
code_in count (gives a) = count a
code_in count (refuses r) = code_of r

-- a yes or no: 1 or 0
abbrev pub truth : Bool → ℕ
truth true = 1
truth false = 0

-- accepted, the number is the same whatever was given: 0 where nothing is counted
abbrev pub always : {A : Type 0} → ℕ → A → ℕ
always n a = n

-- a number lent for what was asked for: that, or what was there
abbrev pub value_in : {A : Type 0} → Answer A → A → A
value_in (gives a) before = a
value_in (refuses r) before = before
