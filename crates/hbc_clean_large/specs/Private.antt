-- What only private contracts cite: no promise rests on it.
-- docs/FORMAT.md, section 12.2: how the lowest function is found, in one pass or by windows of slots.
use Rattle.std.specs.Prelude.{ℕ, ◌+◌, ◌/◌, ◌≤◌, ◌<◌, ◌≡◌, Bool, true, false, List, Option, Some, None, length}
use Rattle.hbc_rows.specs.Rows.{entry_at}
use Rattle.hbc_function_record.specs.declared.Layout.{Layout}
use Rattle.hbc_function_record.specs.Record.{size_of, large_of}
use Rattle.hbc_function_header.specs.declared.Ground.{Ground}
use Rattle.hbc_function_header.specs.declared.Ground.TheVariants as ground
use Rattle.hbc_function_header.specs.Header.{header_at, ground_at}

-- ---- a function that can be read

abbrev pub spot_of : Option Ground → Option ℕ
spot_of None = None
spot_of (Some (ground.Inline at)) = None
spot_of (Some (ground.Large at place)) = Some place

-- whether there is a large header, and its place, 0 where there is none
abbrev pub is_large : Option ℕ → Bool
is_large None = false
is_large (Some place) = true

abbrev pub place_in : Option ℕ → ℕ
place_in None = 0
place_in (Some place) = place

-- where function i's large header is, if it has one
unfoldable pub spot_at : List ℕ → Layout → ℕ → ℕ → Option ℕ
spot_at s layout start i = spot_of (ground_at s layout start i)

-- its header is in the file, and so is its large header
pub record Here (s : List ℕ) (layout : Layout) (start i : ℕ) : Type 0 where
  pub own : header_at layout start i + size_of layout ≤ length s
  pub large : is_large (spot_at s layout start i) ≡ true → place_in (spot_at s layout start i) + large_of layout ≤ length s

-- so are those of functions 0 to count - 1
pub record Readable (s : List ℕ) (layout : Layout) (start count : ℕ) : Type 0 where
  pub each : (i : ℕ) → i < count → Here s layout start i

-- ---- large headers of n bytes each; f i is where that of function i is

-- n bytes from p and n bytes from q have one in common
pub record Touch (n p q : ℕ) : Type 0 where
  pub left : p < q + n
  pub right : q < p + n

-- the large headers of functions i and j share a byte
pub record Share (n : ℕ) (f : ℕ → Option ℕ) (i j : ℕ) : Type 0 where
  pub one : is_large (f i) ≡ true
  pub other : is_large (f j) ≡ true
  pub touch : Touch n (place_in (f i)) (place_in (f j))

-- the slot of a place
abbrev pub slot : ℕ → ℕ → ℕ
slot n p = p / n

-- how many slots a window has
abbrev pub slots : ℕ
slots = 65536

-- function i's large header starts in slot k
pub record Starts (n : ℕ) (f : ℕ → Option ℕ) (k i : ℕ) : Type 0 where
  pub large : is_large (f i) ≡ true
  pub slot : slot n (place_in (f i)) ≡ k

-- r is best, or a lower function that is kept and whose large header shares a byte with the one at a place; kept is 0, or one more than a function
pub record Nearer (n : ℕ) (f : ℕ → Option ℕ) (kept place best r : ℕ) : Type 0 where
  pub less : r ≤ best
  pub real : r < best → (kept ≡ r + 1) × Touch n (place_in (f r)) place
  pub found : (v : ℕ) → kept ≡ v + 1 → Touch n (place_in (f v)) place → r ≤ v

-- word k of a window is one more than the first of functions 0 to i - 1 whose large header starts in slot first + k, 0 if none does
pub record Filled (n : ℕ) (f : ℕ → Option ℕ) (first i : ℕ) (t : List ℕ) : Type 0 where
  pub long : length t ≡ slots
  pub free : (k : ℕ) → k < slots → entry_at t k ≡ 0 → (j : ℕ) → j < i → Starts n f (first + k) j → ⊥
  pub kept : (k v : ℕ) → entry_at t k ≡ v + 1 → (v < i) × Starts n f (first + k) v
  pub lowest : (k v : ℕ) → entry_at t k ≡ v + 1 → (j : ℕ) → j < v → Starts n f (first + k) j → ⊥

-- the large header at p starts in a slot of the window from slot `first` on
pub record Within (n first p : ℕ) : Type 0 where
  pub from : first ≤ slot n p
  pub to : slot n p < first + slots

-- one of functions 0 to i - 1, later than r, with which r shares a byte
pub record Later (n : ℕ) (f : ℕ → Option ℕ) (i r : ℕ) : Type 0 where
  pub index : ℕ
  pub after : r < index
  pub below : index < i
  pub share : Share n f r index

-- r is best, or a lower function that shares a byte with a later one
pub record Real (n : ℕ) (f : ℕ → Option ℕ) (i best r : ℕ) : Type 0 where
  pub less : r ≤ best
  pub other : r < best → Later n f i r

-- and no function below r shares a byte with a later one of them, both in the window
pub record Least (n : ℕ) (f : ℕ → Option ℕ) (first i best r : ℕ) : Type 0 where
  pub real : Real n f i best r
  pub all : (a b : ℕ) → a < b → b < i → Share n f a b → Within n first (place_in (f a)) → Within n first (place_in (f b)) → r ≤ a

-- one function more of a window
pub record Looked (n : ℕ) (f : ℕ → Option ℕ) (first i low r : ℕ) (t' : List ℕ) : Type 0 where
  pub fills : Filled n f first (i + 1) t'
  pub least : (best : ℕ) → Least n f first i best low → Least n f first (i + 1) best r

-- the same for all slots from `from` on, as far as one of the two is below slot `to`
pub record Swept (n : ℕ) (f : ℕ → Option ℕ) (from to count best r : ℕ) : Type 0 where
  pub real : Real n f count best r
  pub all : (a b : ℕ) → a < b → b < count → Share n f a b → from ≤ slot n (place_in (f a)) → from ≤ slot n (place_in (f b))
      → ((to ≤ slot n (place_in (f a))) → to ≤ slot n (place_in (f b)) → ⊥) → r ≤ a

-- whatever was swept below slot `first` is swept below slot `to`
pub record SweptOn (n : ℕ) (f : ℕ → Option ℕ) (first to count low r : ℕ) : Type 0 where
  pub on : (from best : ℕ) → Swept n f from first count best low → Swept n f from to count best r

-- ---- one pass

-- each large header of functions 0 to count - 1 starts at or after the end, and none shares a byte with a later one
pub record Tidy (n : ℕ) (f : ℕ → Option ℕ) (end count : ℕ) : Type 0 where
  pub late : (i : ℕ) → i < count → is_large (f i) ≡ true → end ≤ place_in (f i)
  pub apart : (a b : ℕ) → a < b → b < count → Share n f a b → ⊥

-- r is the first of them that starts before the end, count if none does
pub record Early (f : ℕ → Option ℕ) (end count r : ℕ) : Type 0 where
  pub most : r ≤ count
  pub so : r < count → (is_large (f r) ≡ true) × (place_in (f r) < end)
  pub not : (i : ℕ) → i < r → is_large (f i) ≡ true → end ≤ place_in (f i)
