-- docs/FORMAT.md, section 3.11: two refreshes of one file, each over a span of its own.
use Rattle.std.specs.Prelude.{ℕ, ◌≤◌, ◌<◌, ◌≡◌, List, Bool, true, false, cond, length, get_or, Result as Res}
use Rattle.hbc_io.specs.declared.Refusal.{Refusal}
use Rattle.hbc_io.specs.Answer.{Answer, gives, refuses}
use Rattle.hbc_function_record.specs.declared.Layout.{Layout}
use Rattle.hbc_function.specs.Table.{Table}
use Rattle.hbc_function.specs.Refresh.{RefreshFunctions}
use Rattle.hbc_claims_law.specs.Terms.{Either}

-- what a refresh answers, and the table, rows and totals, that it leaves
pub record Result : Type 0 where
  pub answer : Res ℕ Refusal
  pub table : Table

-- a refresh of the table t over a span, by the call's promise
abbrev pub Over : List ℕ → Layout → ℕ → ℕ → ℕ → ℕ → Table → Result → Type 0
Over s layout start count low high t r = RefreshFunctions s layout start count low high t r.answer r.table

-- an answer z that is given exactly where two others, x and y, both are; else it is refused as one of them is, and neither is refused at a lower place
pub record OfBoth {A : Type 0} (x y : Answer ℕ) (z : Answer A) : Type 0 where
  pub given : (k m : ℕ) → x ≡ gives k → y ≡ gives m → (v : A) × (z ≡ gives v)
  pub only : (v : A) → z ≡ gives v → ((k : ℕ) × (x ≡ gives k)) × ((m : ℕ) × (y ≡ gives m))
  pub refused : (r : Refusal) → z ≡ refuses r → Either (x ≡ refuses r) (y ≡ refuses r)
  pub lowest : (r q : Refusal) → z ≡ refuses r → Either (x ≡ refuses q) (y ≡ refuses q) → r.place ≤ q.place

-- a function is chosen by one of two at least; by both
abbrev pub either : (ℕ → Bool) → (ℕ → Bool) → ℕ → Bool
either c d i = cond (c i) true (d i)

abbrev pub both : (ℕ → Bool) → (ℕ → Bool) → ℕ → Bool
both c d i = cond (c i) (d i) false

-- a and b are as long, and the same outside two spans
pub record SameBut (a b : List ℕ) (low₁ high₁ low₂ high₂ : ℕ) : Type 0 where
  pub long : length a ≡ length b
  pub out : (j : ℕ) → (low₁ ≤ j → j < high₁ → ⊥) → (low₂ ≤ j → j < high₂ → ⊥) → get_or a j 0 ≡ get_or b j 0
