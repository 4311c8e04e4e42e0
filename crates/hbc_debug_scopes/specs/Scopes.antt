-- docs/FORMAT.md, section 7.4: the scopes of a part, their names, and their rows.
use Rattle.std.specs.Prelude.{ℕ, ◌*◌, ◌-◌, List, [], ◌∷◌, ◌++◌, cond, length, ℤ, Result}
use Rattle.hbc_io.specs.Outcome.{Outcome, got, refused, and_then, cursor_at, refusal}
use Rattle.hbc_io.specs.declared.Cursor.{Cursor}
use Rattle.hbc_io_leb.specs.declared.Sleb.{Sleb}
use Rattle.hbc_io.specs.Answer.{Answer, gives}
use Rattle.hbc_io.specs.Answers.{answered}
use Rattle.hbc_io.specs.declared.Refusal.{Refusal}
use Rattle.hbc_io.specs.Lends.{Lends}
use Rattle.hbc_rows.specs.Rows.{rows}
use Rattle.hbc_rows.specs.Until.{until, after, flat, flat_from, sum}
use Rattle.hbc_debug_parts.specs.Lists.{in_limit, with_room, in_front}
use Rattle.hbc_debug_parts.specs.Along.{along, onward, every}
use Rattle.hbc_debug_scopes.specs.declared.ScopeCounts.{ScopeCounts}
use Rattle.hbc_io_leb.specs.Leb.{leb_bytes}
use Rattle.hbc_io_leb.specs.Numbers.{Number, signed, exact, and_next, no_more}
use Rattle.hbc_io_leb.specs.Signed.{sleb_at, up_to, under, natural, low32}

-- what stands before the names
pub record Front : Type 0 where
  pub parent : ℤ
  pub flags : ℤ
  pub count : ℕ

-- parent, flags, name count as SLEB128; it fails if any fails or the count is negative or above the bytes left
unfoldable pub front_at : List ℕ → Cursor → Outcome Front
front_at s c =
    and_then (sleb_at s c) (λ parent c₁.
    and_then (sleb_at s c₁) (λ flags c₂.
    and_then (sleb_at s c₂) (λ count c₃.
    cond (up_to (length s - c₃.at) count.value)
    (got (record { parent = parent.value; flags = flags.value; count = natural count.value }) c₃)
    (refused (refusal 3) c₃))))

pub record Scope : Type 0 where
  pub offset : ℕ
  pub front : Front
  pub names : List Sleb

-- a name that fails ends the list; the scope is kept and reading goes on there
unfoldable pub scope_at : List ℕ → Cursor → Outcome Scope
scope_at s c =
    and_then (front_at s c) (λ h n.
    got (record { offset = c.at; front = h; names = until (sleb_at s) h.count n }) (after (sleb_at s) h.count n))

-- each takes a byte, so that a part has at most as many as it has bytes
unfoldable pub scopes_of : List ℕ → List Scope
scopes_of s = until (scope_at s) (length s) (cursor_at 0)

-- none, or out of range
abbrev pub absent : ℕ
absent = 4294967295

-- the number, if it is from 0 to below m
unfoldable pub word_below : ℕ → ℤ → ℕ
word_below m z = cond (under m z) (natural z) absent

-- below 0 or from 2^32 - 1 up: none
abbrev pub parent_word : ℤ → ℕ
parent_word z = word_below absent z

-- the string number, of n strings
abbrev pub name_word : ℕ → ℤ → ℕ
name_word n z = word_below n z

unfoldable pub name_count : Scope → ℕ
name_count x = length x.names

-- the words of a scope's row, and the place of each
abbrev pub scope_width : ℕ
scope_width = 5

abbrev pub offset_place : ℕ
offset_place = 0

abbrev pub parent_place : ℕ
parent_place = 1

abbrev pub flags_place : ℕ
flags_place = 2

abbrev pub first_place : ℕ
first_place = 3

abbrev pub count_place : ℕ
count_place = 4

-- offset in the scope part, parent, flags, first name, name count
unfoldable pub scope_row : ℕ → Scope → List ℕ
scope_row first x = x.offset ∷ parent_word x.front.parent ∷ low32 x.front.flags ∷ first ∷ name_count x ∷ []

abbrev pub scope_words : List Scope → List ℕ
scope_words xs = flat_from scope_row name_count 0 xs

abbrev pub name_cell : ℕ → Sleb → List ℕ
name_cell n v = name_word n v.value ∷ []

-- the names of a scope as string numbers, of n strings
unfoldable pub name_row : ℕ → Scope → List ℕ
name_row n x = flat (name_cell n) x.names

abbrev pub name_words : ℕ → List Scope → List ℕ
name_words n xs = flat (name_row n) xs

abbrev pub names_in : List Scope → ℕ
names_in xs = sum name_count xs

-- ---- the numbers that are read, in file order

-- parent, flags, name count, as far as they are read; a count that is refused is one of them
unfoldable pub front_numbers : List ℕ → Cursor → List Number
front_numbers s c =
    and_next signed (leb_bytes s c) (λ c₁.
    and_next signed (leb_bytes s c₁) (λ c₂.
    and_next signed (leb_bytes s c₂) no_more))

-- a name, if it is read
unfoldable pub name_number : List ℕ → Cursor → List Number
name_number s c = and_next signed (leb_bytes s c) no_more

-- the front's, and the names' where the scope is not given up
unfoldable pub numbers_at : List ℕ → Cursor → List Number
numbers_at s c = front_numbers s c ++ onward (front_at s c) (λ h n. along (sleb_at s) (name_number s) h.count n)

-- those of a part, with those of the scope that is given up
unfoldable pub scope_numbers : List ℕ → List Number
scope_numbers s = along (scope_at s) (numbers_at s) (length s) (cursor_at 0)

-- ---- the calls

-- how many rows each of the two tables takes, and whether every number that was read is exact; 1 for a part of more than 2^30 bytes
unfoldable pub count_scopes : List ℕ → Answer ScopeCounts
count_scopes s = in_limit (length s) (gives (record { scopes = length (scopes_of s); names = names_in (scopes_of s); exact = every exact (scope_numbers s) }))

-- 1, then 4 where fewer scopes or names are lent than are counted
abbrev pub scopes_answer : List ℕ → ScopeCounts → List ℕ × List ℕ → Answer (Unit {0})
scopes_answer s counts before =
    in_limit (length s) (with_room (rows scope_width before.0) counts.scopes (with_room (length before.1) counts.names (gives tt)))

-- the rows of the first scopes and the words of the first names, as many as are counted, of all where there are fewer
abbrev pub WriteScopes : List ℕ → ℕ → ScopeCounts → List ℕ × List ℕ → Result (Unit {0}) Refusal → List ℕ × List ℕ → Type 0
WriteScopes s strings counts before =
    Lends answered (scopes_answer s counts before)
    (in_front (counts.scopes * scope_width) (scope_words (scopes_of s)) before.0, in_front counts.names (name_words strings (scopes_of s)) before.1) before
