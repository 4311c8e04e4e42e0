-- docs/FORMAT.md, sections 1.3 and 2.2: what a read finds, whatever the type of its value, and the words that every read is described in.
use Rattle.std.specs.Prelude.{ℕ, suc, ◌-◌, ◌%◌, ◌^◌, List, cond, ℤ, pos, negsuc, length, ltb}
use Rattle.hbc_io.specs.declared.Cursor.{Cursor}
use Rattle.hbc_io.specs.declared.Refusal.{Refusal}

-- the value and the cursor after it, or the refusal and the cursor as it is left
pub data Outcome (A : Type 0) : Type 0 where
  got : A → Cursor → Outcome A
  refused : Refusal → Cursor → Outcome A

abbrev pub cursor_at : ℕ → Cursor
cursor_at n = record { at = n }

abbrev pub refusal_at : ℕ → ℕ → Refusal
refusal_at k place = record { number = k; place = place }

-- a refusal of this layer: "else 0"
abbrev pub refusal : ℕ → Refusal
refusal k = refusal_at k 0

-- the longest input that is read: 2^30 bytes
abbrev pub limit : ℕ
limit = 2 ^ 30

-- the bytes from the cursor to the end, none for a cursor past it
abbrev pub left : List ℕ → Cursor → ℕ
left s c = length s - c.at

-- the outcome with its value taken by f
abbrev pub valued : {A B : Type 0} → (A → B) → Outcome A → Outcome B
valued f (got v n) = got (f v) n
valued f (refused r n) = refused r n

-- one read after another: the second starts where the first left the cursor
abbrev pub and_then : {A B : Type 0} → Outcome A → (A → Cursor → Outcome B) → Outcome B
and_then (got v n) f = f v n
and_then (refused r n) f = refused r n

-- the number that k bits stand for in two's complement
abbrev pub twos : ℕ → ℕ → ℤ
twos k v = cond (ltb v (2 ^ (k - 1))) (pos v) (negsuc (2 ^ k - suc v))

-- and the low k bits of a number in two's complement: the number modulo 2^k
abbrev pub low_bits : ℕ → ℤ → ℕ
low_bits k (pos n) = n % 2 ^ k
low_bits k (negsuc n) = 2 ^ k - suc (n % 2 ^ k)
