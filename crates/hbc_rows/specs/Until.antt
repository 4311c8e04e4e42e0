-- docs/FORMAT.md, sections 7.3 to 7.5: things read one after the other until one fails.
use Rattle.std.specs.Prelude.{ℕ, zero, suc, ◌+◌, ◌≡◌, List, [], ◌∷◌, ◌++◌, length}
use Rattle.hbc_io.specs.Outcome.{Outcome, got, refused}
use Rattle.hbc_io.specs.declared.Cursor.{Cursor}

-- what was got in front of those after it, or none
abbrev pub and_more : {A : Type 0} → Outcome A → (Cursor → List A) → List A
and_more (got v n) f = v ∷ f n
and_more (refused r n) f = []

-- what the reader f gets from c on until it fails, at most k of them
unfoldable pub until : {A : Type 0} → (Cursor → Outcome A) → ℕ → Cursor → List A
until f zero c = []
until f (suc k) c = and_more (f c) (until f k)

abbrev pub and_on : {A : Type 0} → Outcome A → (Cursor → Cursor) → Cursor
and_on (got v n) f = f n
and_on (refused r n) f = n

-- where that ends: after the last one, or where the failed one was left
unfoldable pub after : {A : Type 0} → (Cursor → Outcome A) → ℕ → Cursor → Cursor
after f zero c = c
after f (suc k) c = and_on (f c) (after f k)

-- what a pass over them answers: how many they are, and where they end
pub record Ended {A : Type 0} (f : Cursor → Outcome A) (k : ℕ) (c : Cursor) (n : ℕ) (m : Cursor) : Type 0 where
  pub count : n ≡ length (until f k c)
  pub place : m ≡ after f k c

-- the rows of things, one after the other
abbrev pub flat : {A : Type 0} → (A → List ℕ) → List A → List ℕ
flat row [] = []
flat row (v ∷ vs) = row v ++ flat row vs

-- the sum of a number of each
abbrev pub sum : {A : Type 0} → (A → ℕ) → List A → ℕ
sum weight [] = 0
sum weight (v ∷ vs) = weight v + sum weight vs

-- rows that hold the sum of a number of those before them
abbrev pub flat_from : {A : Type 0} → (ℕ → A → List ℕ) → (A → ℕ) → ℕ → List A → List ℕ
flat_from row weight first [] = []
flat_from row weight first (v ∷ vs) = row first v ++ flat_from row weight (first + weight v) vs
