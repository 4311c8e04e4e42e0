-- docs/FORMAT.md, section 4.8: what a call answers and leaves that writes a text.
use Rattle.std.specs.Prelude.{ℕ, List, ◌++◌, length, drop, Result}
use Rattle.hbc_io.specs.Outcome.{limit}
use Rattle.hbc_io.specs.Answer.{Answer, gives, refused_at}
use Rattle.hbc_io.specs.Lends.{below, Lends}
use Rattle.hbc_io.specs.Answers.{answered}
use Rattle.hbc_io.specs.declared.Refusal.{Refusal}

-- a text's length, or 4 if the room is less
unfoldable pub text_answer : List ℕ → ℕ → Answer ℕ
text_answer text room = below room (length text) (refused_at 4 0) (gives (length text))

-- the text in front, and what stood behind it
unfoldable pub over : List ℕ → List ℕ → List ℕ
over text before = text ++ drop (length text) before

-- 1 for the bytes that are read, then 4
unfoldable pub put_answer : List ℕ → List ℕ → ℕ → Answer ℕ
put_answer text s room = below limit (length s) (refused_at 1 0) (text_answer text room)

-- the promise of a call that writes the text of bytes
abbrev pub PutText : List ℕ → List ℕ → List ℕ → Result ℕ Refusal → List ℕ → Type 0
PutText text s before = Lends answered (put_answer text s (length before)) (over text before) before
