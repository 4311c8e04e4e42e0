-- docs/FORMAT.md, section 7.5: "one row an address, rising, the last one winning", as what it means of the entries: no order of looking, no algorithm.
use Rattle.std.specs.Prelude.{◌≡◌, Some, List, [], ◌∷◌, ℕ, suc, ◌≤◌, ◌<◌}
use Rattle.hbc_debug_pairs.specs.Pairs.{addresses}
use Rattle.hbc_debug_pairs.specs.declared.Pair.{Pair}
use Rattle.hbc_debug_rising.specs.Rising.{Callee}
use Rattle.hbc_debug_callees.specs.Callees.{callees_of, pairs_of}
use Rattle.hbc_claims_law.specs.Terms.{Either}

-- rows from lo up and below hi, each address above the one before: sorted, and one row an address
abbrev pub Between : ℕ → ℕ → List Callee → Type 0
Between lo hi [] = lo ≤ hi
Between lo hi (x ∷ xs) = (lo ≤ x.address) × Between (suc x.address) hi xs

-- x is one of the rows
abbrev pub Row : Callee → List Callee → Type 0
Row x [] = ⊥
Row x (y ∷ ys) = Either (x ≡ y) (Row x ys)

-- no entry with a known name has the address
abbrev pub Silent : ℕ → List Pair → Type 0
Silent a [] = Unit {0}
Silent a (p ∷ ps) = ((k : ℕ) → p.name ≡ Some k → p.address ≡ a → ⊥) × Silent a ps

-- an entry with this address and this known name
pub record Names (a k : ℕ) (p : Pair) : Type 0 where
  pub address : p.address ≡ a
  pub name : p.name ≡ Some k

-- the last entry with the address and a known name has the name k
abbrev pub Last : ℕ → ℕ → List Pair → Type 0
Last a k [] = ⊥
Last a k (p ∷ ps) = Either (Names a k p × Silent a ps) (Last a k ps)

-- the rows that entries have
pub record Rows (ps : List Pair) (xs : List Callee) : Type 0 where
  pub rising : Between 0 addresses xs
  pub named : (x : Callee) → Row x xs → Last x.address x.name ps
  pub all : (a k : ℕ) → a < addresses → Last a k ps → Row (record { address = a; name = k }) xs

-- the rows of a part are those that its entries have, where there are n strings, and nothing else is so
pub record CalleesRead (n : ℕ) (s : List ℕ) : Type 0 where
  pub rows : Rows (pairs_of n s) (callees_of n s)
  pub one : (xs : List Callee) → Rows (pairs_of n s) xs → xs ≡ callees_of n s
