-- docs/FORMAT.md, section 6.1: what each reason says of the file, and what the call that names one answers.
use Rattle.hbc_io.specs.declared.Refusal.{Refusal}
use Rattle.std.specs.Prelude.{Result, Ok, Err, ℕ, ◌+◌, ◌*◌, ◌%◌, ◌≤◌, ◌<◌, ◌≡◌, List, Bool, length, eqb}
use Rattle.hbc_bits.specs.Bits.{le_at, field}
use Rattle.hbc_io.specs.Outcome.{limit, refusal_at}
use Rattle.hbc_rows.specs.Rows.{rows, entry_at}
use Rattle.hbc_function_record.specs.Row.{width}
use Rattle.hbc_parsing_handlers.specs.declared.Table.{Table}
use Rattle.hbc_parsing_handlers.specs.declared.Reason.{Reason}
use Rattle.hbc_parsing_handlers.specs.declared.Reason.TheVariants as r
use Rattle.hbc_parsing_handlers.specs.Why.{info_in, flags_in, reason_number}
use Rattle.hbc_parsing_handlers.specs.Handlers.{handler_width}
use Rattle.hbc_claims_law.specs.Terms.{Bit, count_of}

-- ---- of a file s and a function with this info_offset and these flags

-- the place of its count: the first multiple of 4 at or behind info_offset
pub record Rounded (info at : ℕ) : Type 0 where
  pub multiple : at % 4 ≡ 0
  pub up : info ≤ at
  pub first : at < info + 4

-- its count: the four bytes at that place are in the file, and n is their number, the least byte first
pub record Counts (s : List ℕ) (info at n : ℕ) : Type 0 where
  pub place : Rounded info at
  pub there : at + 4 ≤ length s
  pub is : n ≡ le_at s at 4

-- what each reason says
abbrev pub Says : List ℕ → ℕ → ℕ → Reason → Type 0
-- bit 3 of the flags is clear
Says s info flags r.FlagClear = field 3 1 flags ≡ 0
-- info_offset is 0
Says s info flags r.InfoZero = info ≡ 0
-- info_offset is at or past the end of the file
Says s info flags r.InfoPast = length s ≤ info
-- the four bytes at the count's place go past the end
Says s info flags r.NoRoom = (at : ℕ) × Rounded info at × (length s < at + 4)
-- the count is 0
Says s info flags r.CountZero = (at : ℕ) × Counts s info at 0
-- the count is above 1000
Says s info flags r.CountHigh = (at : ℕ) × (n : ℕ) × Counts s info at n × (1000 < n)
-- one of its triples, 12 bytes each from behind the count on, goes past the end
Says s info flags r.Cut = (at : ℕ) × (n : ℕ) × (j : ℕ) × Counts s info at n × (j < n) × (length s < at + 4 + 12 * j + 12)

-- x is true of the file, and none before it in their order is
pub record First (s : List ℕ) (info flags : ℕ) (x : Reason) : Type 0 where
  pub holds : Says s info flags x
  pub none : (y : Reason) → reason_number y < reason_number x → Says s info flags y → ⊥

-- handlers are shown: no reason is true, the flag is set, and info_offset lies in the file; they are as many as the count, 1 to 1000, the first of them
-- behind it, and all in the file
pub record Shows (s : List ℕ) (info flags : ℕ) (t : Table) : Type 0 where
  pub none : (x : Reason) → Says s info flags x → ⊥
  pub flag : Bit 3 flags
  pub inside : (0 < info) × (info < length s)
  pub at : ℕ
  pub count : Counts s info at t.count
  pub few : (1 ≤ t.count) × (t.count ≤ 1000)
  pub behind : t.place ≡ at + 4
  pub room : t.place + 12 * t.count ≤ length s

-- ---- of the call that is asked for function id, and answers r

-- the file is not too long, and the function has a row
abbrev pub Asked : List ℕ → List ℕ → ℕ → Type 0
Asked s functions id = (length s ≤ limit) × (id < rows width functions)

pub record Explains (s functions : List ℕ) (id : ℕ) (r : Result (Result Table Reason) Refusal) : Type 0 where
  -- refused exactly where the file is too long or the function has no row, and 1 comes before 11
  pub accepted : Asked s functions id → (v : Result Table Reason) × (r ≡ Ok v)
  pub only : (v : Result Table Reason) → r ≡ Ok v → Asked s functions id
  pub too_long : limit < length s → r ≡ Err (refusal_at 1 0)
  pub no_row : length s ≤ limit → rows width functions ≤ id → r ≡ Err (refusal_at 11 0)
  -- a reason exactly where it is the first that is true
  pub reason : (x : Reason) → r ≡ Ok (Err x) → First s (info_in functions id) (flags_in functions id) x
  pub first : Asked s functions id → (x : Reason) → First s (info_in functions id) (flags_in functions id) x → r ≡ Ok (Err x)
  -- handlers shown exactly where none is
  pub shown : (t : Table) → r ≡ Ok (Ok t) → Shows s (info_in functions id) (flags_in functions id) t
  pub none : Asked s functions id → ((x : Reason) → Says s (info_in functions id) (flags_in functions id) x → ⊥) → (t : Table) × (r ≡ Ok (Ok t))

-- ---- beside the n rows that the handlers' reader lists in t

-- row k is a handler of function id, by its first word
abbrev pub is_of : List ℕ → ℕ → ℕ → Bool
is_of t id k = eqb (entry_at t (k * handler_width)) id

pub record Lists (id : ℕ) (r : Result (Result Table Reason) Refusal) (n : ℕ) (t : List ℕ) : Type 0 where
  -- the call is not refused; shown with so many handlers, the function has exactly so many rows, and at least one; it is shown where the function has a
  -- row; for a reason the function has none
  pub accepted : (v : Result Table Reason) × (r ≡ Ok v)
  pub shown : (w : Table) → r ≡ Ok (Ok w) → count_of (is_of t id) n ≡ w.count
  pub some : (w : Table) → r ≡ Ok (Ok w) → 0 < count_of (is_of t id) n
  pub only : 0 < count_of (is_of t id) n → (w : Table) × (r ≡ Ok (Ok w))
  pub none : (x : Reason) → r ≡ Ok (Err x) → count_of (is_of t id) n ≡ 0
