-- What the private contracts of this crate cite: no promise does.
use Rattle.std.specs.Prelude.{ℕ, List}
use Rattle.hbc_text.specs.StringText.{string_text}
use Rattle.hbc_json_forms.specs.Json.{escaped}

-- one string, between its quotes
unfoldable pub inside : List ℕ → List ℕ → ℕ → List ℕ
inside s t k = escaped (string_text s t k)
