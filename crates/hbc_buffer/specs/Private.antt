-- What only private contracts cite: no promise rests on it.
-- What both passes go by: a tag's bytes, the words of one run, a series that is known to be whole, where a pass stands and how it goes on.
use Rattle.std.specs.Prelude.{ℕ, zero, suc, ◌+◌, ◌*◌, ◌≤◌, ◌<◌, ◌≡◌, List, cond, eqb, length, set}
use Rattle.hbc_io.specs.Outcome.{got, cursor_at}
use Rattle.hbc_io.specs.declared.Cursor.{Cursor}
use Rattle.hbc_bits.specs.Bits.{field, le_at}
use Rattle.hbc_io.specs.Plain.{plain_at}
use Rattle.hbc_rows.specs.Rows.{filled}
use Rattle.hbc_buffer_literal.specs.Literal.{width_of}
use Rattle.hbc_buffer.specs.Series.{Run, head_at, after, number_in}

-- a byte, 0 past the end
unfoldable pub byte_at : List ℕ → ℕ → ℕ
byte_at s at = number_in (plain_at 1 s (cursor_at at))

-- the length that a tag byte and the byte after it give
unfoldable pub length_of : ℕ → ℕ → ℕ
length_of b second = cond (eqb (field 7 1 b) 0) (field 0 4 b) (field 0 4 b * 256 + second)

-- n entries from entry k on are g's
unfoldable pub filled_from : ℕ → ℕ → (ℕ → ℕ) → List ℕ → List ℕ
filled_from k zero g t = t
filled_from k (suc n) g t = set (filled_from k n g t) (k + n) (g n)

-- n kinds, all k, from entry `first` on
abbrev pub kinds_from : ℕ → ℕ → ℕ → List ℕ → List ℕ
kinds_from k first n t = filled_from first n (λ _. k) t

-- and the payloads of n values of w bytes each, the bytes of the first at `at`
abbrev pub payloads_from : List ℕ → ℕ → ℕ → ℕ → ℕ → List ℕ → List ℕ
payloads_from s at w first n t = filled_from first n (λ i. le_at s (at + i * w) w) t

-- the first n values are there
pub record Whole (n : ℕ) (s : List ℕ) (c : Cursor) : Type 0 where
  pub run : Run
  pub next : Cursor
  pub is : after n s c ≡ got run next

-- `done` of `count` values are read, the run is spent, and only empty tags stand between its end and `at`
pub record Passed (s : List ℕ) (from count done at : ℕ) : Type 0 where
  pub run : Run
  pub back : Cursor
  pub is : after done s (cursor_at from) ≡ got run back
  pub spent : done < count → run.left ≡ 0
  pub tags : ℕ
  pub enough : length s ≤ tags + at
  pub skip : head_at (length s) s back ≡ head_at tags s (cursor_at at)
  pub here : (done < count → ⊥) → back ≡ cursor_at at
  pub below : done ≤ count
  pub up : from ≤ at
  pub within : at ≤ length s

-- what is kept of the last run: its tag byte, and the length and width that are that byte's own if it has one byte and values are left
pub record Known (count done last size wide : ℕ) : Type 0 where
  pub is : done < count → last < 128 → (size ≡ field 0 4 last) × (wide ≡ width_of (field 4 3 last))
  pub small : size < 4294967296
  pub narrow : wide ≤ 8

-- the tags from `at` up to `next` have one byte each, and no values
pub record Empties (s : List ℕ) (at next : ℕ) : Type 0 where
  pub all : (i : ℕ) → at ≤ i → i < next → (byte_at s i < 128) × (field 0 4 (byte_at s i) ≡ 0)
  pub up : at ≤ next
  pub within : next ≤ length s

-- a pass that has read `done` values and stands at `at` has read `done'` of them at `at'`
pub record Goes (s : List ℕ) (count done at done' at' : ℕ) : Type 0 where
  pub on : (from : ℕ) → Passed s from count done at → Passed s from count done' at'
  pub up : at ≤ at'
  pub within : at' ≤ length s

-- and a table that has the first `done` of what g says of each value has then the first `done'`
pub record Writes (g : List ℕ → Cursor → ℕ → ℕ) (s : List ℕ) (count done at done' : ℕ) (t t' : List ℕ) : Type 0 where
  pub on : (from : ℕ) (t₀ : List ℕ) → Passed s from count done at → t ≡ filled (g s (cursor_at from)) done t₀ → t' ≡ filled (g s (cursor_at from)) done' t₀
