-- What only private contracts cite: no promise rests on it.
-- docs/FORMAT.md, section 3.5: one row, whose function was found at its header's place.
use Rattle.std.specs.Prelude.{ℕ, List, Result}
use Rattle.hbc_io.specs.Answer.{Answer, asked}
use Rattle.hbc_io.specs.Answers.{answered}
use Rattle.hbc_io.specs.Lends.{Lends}
use Rattle.hbc_io.specs.declared.Refusal.{Refusal}
use Rattle.hbc_function_record.specs.declared.Found.{Found}
use Rattle.hbc_function_header.specs.Header.{row_of}

abbrev pub RowBy : Answer Found → List ℕ → Result (Unit {0}) Refusal → List ℕ → Type 0
RowBy a before = Lends answered (asked a) (row_of a before) before
