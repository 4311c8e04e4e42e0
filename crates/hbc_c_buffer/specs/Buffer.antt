-- docs/FORMAT.md, section 8.2: what the calls of the literal layer hand back through numbers and tables that the caller lends.
use Rattle.std.specs.Prelude.{ℕ, ◌≡◌, List, Bool, not, eqb, Float}
use Rattle.hbc_bits.specs.Bits.{field}
use Rattle.hbc_io.specs.Outcome.{Outcome, cursor_at, valued, low_bits}
use Rattle.hbc_io.specs.Answer.{told}
use Rattle.hbc_io.specs.Answers.{answered}
use Rattle.hbc_buffer_literal.specs.declared.Literal.{Literal}
use Rattle.hbc_buffer_literal.specs.declared.Literal.TheVariants.{Null, Bool as Truth, Number, String, Integer}
use Rattle.hbc_buffer_literal.specs.Literal.{kind_of, literal_at}
use Rattle.hbc_buffer.specs.Series.{ReadSeries}
use Rattle.hbc_buffer_object.specs.declared.Object.{Object}
use Rattle.hbc_buffer_object.specs.Object.{ReadObject}
use Rattle.hbc_c_code.specs.Code.{value_in}
use Rattle.hbc_c_code.specs.Told.{Told, Moves}

-- a float goes where floats go; a string number or an integer where words go; what is not said stays
abbrev pub float_of : Float → Literal → Float
float_of before Null = before
float_of before (Truth b) = before
float_of before (Number x) = x
float_of before (String n) = before
float_of before (Integer z) = before

abbrev pub word_of : ℕ → Literal → ℕ
word_of before Null = before
word_of before (Truth b) = before
word_of before (Number x) = before
word_of before (String n) = n
word_of before (Integer z) = low_bits 32 z

-- a literal, told as the answer, the cursor, the kind, the float and the word
pub record LiteralTold (o : Outcome Literal) (kind : ℕ) (number : Float) (word : ℕ) (r at kind' : ℕ) (number' : Float) (word' : ℕ) : Type 0 where
  pub tells : Moves o r at
  pub kind_left : kind' ≡ value_in (told (valued kind_of o)) kind
  pub number_left : number' ≡ value_in (told (valued (float_of number) o)) number
  pub word_left : word' ≡ value_in (told (valued (word_of word) o)) word

-- the literal of a tag at a cursor
abbrev pub ToldLiteral : ℕ → List ℕ → ℕ → ℕ → Float → ℕ → ℕ → ℕ → ℕ → Float → ℕ → Type 0
ToldLiteral tag s at = LiteralTold (literal_at (field 4 3 tag) s (cursor_at at))

-- a series: the answer is the bytes used
abbrev pub ToldSeries : List ℕ → ℕ → ℕ → List ℕ → List ℕ → ℕ → List ℕ → List ℕ → Type 0
ToldSeries s offset count kinds payloads r kinds' payloads' =
    Told {W = List ℕ × List ℕ} (λ n. n) answered (λ a w. ReadSeries s offset count kinds payloads a w.0 w.1) r (kinds', payloads')

-- the yes or no as a number: 0 is no
abbrev pub yes_of : ℕ → Bool
yes_of n = not (eqb n 0)

-- an object: the answer is the bytes used
abbrev pub ToldObject : List ℕ → List ℕ → ℕ → ℕ → ℕ → List ℕ → List ℕ → ℕ → List ℕ → List ℕ → Type 0
ToldObject keys values n offset count kinds payloads r kinds' payloads' =
    Told {W = List ℕ × List ℕ} (λ (o : Object). o.len) answered (λ a w. ReadObject keys values (yes_of n) offset count kinds payloads a w.0 w.1)
    r (kinds', payloads')
