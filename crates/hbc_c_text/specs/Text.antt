-- docs/FORMAT.md, section 8.2: what the calls on texts hand back through bytes that the caller lends.
use Rattle.std.specs.Prelude.{ℕ, List}
use Rattle.hbc_io.specs.Answers.{answered}
use Rattle.hbc_text.specs.StringText.{StringText}
use Rattle.hbc_json.specs.StringsJson.{StringsJson}
use Rattle.hbc_c_code.specs.Told.{Told, ToldValue}

-- a string's text: accepted, the answer is its length
abbrev pub ToldText : List ℕ → List ℕ → ℕ → List ℕ → ℕ → List ℕ → Type 0
ToldText storage rows index before = Told (λ n. n) answered (StringText storage rows index before)

-- strings as JSON: accepted, the answer is 0 and the array's length is in a number of its own
abbrev pub ToldStringsJson : List ℕ → List ℕ → ℕ → List ℕ → ℕ → ℕ → List ℕ → ℕ → Type 0
ToldStringsJson storage rows count before = ToldValue answered (StringsJson storage rows count before)
