-- docs/FORMAT.md, section 4.9: what the JSON of texts is by the RFC.
use Rattle.std.specs.Prelude.{ℕ, ◌≡◌, List, [], ◌∷◌}
use Rattle.hbc_text_forms.specs.Utf8.{WellFormed}
use Rattle.hbc_json_forms.specs.Json.{array}
use Rattle.hbc_claims_json.specs.Rfc8259.{Reads}

-- every text is well-formed UTF-8
pub data Texts : List (List ℕ) → Type 0 where
  none : Texts []
  more : {t : List ℕ} {ts : List (List ℕ)} → WellFormed t → Texts ts → Texts (t ∷ ts)

-- the RFC reads any bytes in one way at most, and what it reads are texts
pub record Reading : Type 0 where
  pub one : (bytes : List ℕ) (ts us : List (List ℕ)) → Reads bytes ts → Reads bytes us → ts ≡ us
  pub formed : (bytes : List ℕ) (ts : List (List ℕ)) → Reads bytes ts → WellFormed bytes
  pub texts : (bytes : List ℕ) (ts : List (List ℕ)) → Reads bytes ts → Texts ts

-- the output of texts ts
pub record OfTexts (ts : List (List ℕ)) : Type 0 where
  -- it is read, as these and no others
  pub reads : Reads (array ts) ts
  pub only : (us : List (List ℕ)) → Reads (array ts) us → us ≡ ts
  -- it is well-formed UTF-8
  pub formed : WellFormed (array ts)
  -- no other texts have it
  pub apart : (us : List (List ℕ)) → Texts us → array us ≡ array ts → us ≡ ts
