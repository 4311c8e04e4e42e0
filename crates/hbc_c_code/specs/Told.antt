-- docs/FORMAT.md, section 8: what an exported call promises: what the call behind it promises, its answer told as a number.
use Rattle.std.specs.Prelude.{ℕ, ◌≡◌}
use Rattle.hbc_io.specs.Outcome.{Outcome, got, refused}
use Rattle.hbc_io.specs.Answer.{Answer, told}
use Rattle.hbc_c_code.specs.Code.{code_in, always, value_in}

-- r is the number of an answer, and answer and words are what the call behind it promises
pub record Told {A R W : Type 0} (count : A → ℕ) (of : R → Answer A) (Promised : R → W → Type 0) (r : ℕ) (after : W) : Type 0 where
  pub answer : R
  pub promised : Promised answer after
  pub says : r ≡ code_in count (of answer)

-- the same, and a number or numbers lent for what is given: accepted, the answer is 0, and they hold it; refused, they hold what they did
pub record ToldValue {A R W : Type 0} (of : R → Answer A) (Promised : R → W → Type 0) (before : A) (r : ℕ) (after : W) (value : A) : Type 0 where
  pub answer : R
  pub promised : Promised answer after
  pub says : r ≡ code_in (always 0) (of answer)
  pub holds : value ≡ value_in (of answer) before

-- ---- a read from a cursor, which goes in and comes back as a number

abbrev pub cursor_in : {A : Type 0} → Outcome A → ℕ
cursor_in (got v n) = n.at
cursor_in (refused r n) = n.at

-- the answer, 0 or a refusal, and the cursor
pub record Moves {A : Type 0} (o : Outcome A) (r at : ℕ) : Type 0 where
  pub says : r ≡ code_in (always 0) (told o)
  pub moves : at ≡ cursor_in o

-- and the value; a refused read leaves what was there
pub record Reads {A : Type 0} (o : Outcome A) (before : A) (r at : ℕ) (value : A) : Type 0 where
  pub tells : Moves o r at
  pub leaves : value ≡ value_in (told o) before

-- and words
pub record ToldFrom {A R W : Type 0} (of : R → Outcome A) (Promised : R → W → Type 0) (r at : ℕ) (after : W) : Type 0 where
  pub answer : R
  pub promised : Promised answer after
  pub tells : Moves (of answer) r at
