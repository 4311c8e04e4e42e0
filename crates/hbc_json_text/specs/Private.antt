-- What the private contracts of this crate cite: no promise does. A string's bytes from a place on, up to the next thing that is escaped.
use Rattle.std.specs.Prelude.{ℕ, ◌+◌, ◌-◌, ◌%◌, ◌≤◌, ◌<◌, ◌≡◌, List, ◌++◌, Bool, false, cond, length, take, drop, get_or}
use Rattle.hbc_json_forms.specs.Json.{is_escaped, escape, escaped, text_in}

-- a byte, or a unit of UTF-16, has so many bytes
abbrev pub step_of : Bool → ℕ
step_of wide = cond wide 2 1

-- no half unit
abbrev pub Even : Bool → ℕ → Type 0
Even wide n = n % step_of wide ≡ 0

-- what is written for the bytes from a place on
unfoldable pub rest : Bool → List ℕ → ℕ → List ℕ
rest wide s at = escaped (text_in wide (drop at s))

-- the text of the bytes from a place to another
unfoldable pub piece : Bool → List ℕ → ℕ → ℕ → List ℕ
piece wide s at e = text_in wide (take (e - at) (drop at s))

-- k bytes from a place on are not escaped
abbrev pub AllClear : List ℕ → ℕ → ℕ → Type 0
AllClear s at k = (j : ℕ) → j < k → is_escaped (get_or s (at + j) 0) ≡ false

-- none from a place to another is
pub record Passed (s : List ℕ) (at e : ℕ) : Type 0 where
  pub from : at ≤ e
  pub inside : e ≤ length s
  pub clear : AllClear s at (e - at)

-- at e stands what is written by itself, escaped or not: in front of it a piece that is text alone, behind it the rest
pub record Stands (wide : Bool) (s : List ℕ) (at e : ℕ) : Type 0 where
  pub room : e + step_of wide ≤ length s
  pub even : Even wide (e + step_of wide)
  pub same : rest wide s at ≡ piece wide s at e ++ (escape (get_or s e 0) ++ rest wide s (e + step_of wide))

-- the next of what is written by itself, from a place on, is at e; or e is the end, and all is text alone
pub record Next (wide : Bool) (s : List ℕ) (at e : ℕ) : Type 0 where
  pub from : at ≤ e
  pub inside : e ≤ length s
  pub last : length s ≤ e → rest wide s at ≡ piece wide s at e
  pub more : e < length s → Stands wide s at e
