-- docs/FORMAT.md, section 7.3: the strings of a part, and their rows.
use Rattle.std.specs.Prelude.{ℕ, ◌+◌, ◌*◌, List, [], ◌∷◌, length, Result}
use Rattle.hbc_io.specs.Outcome.{cursor_at}
use Rattle.hbc_io.specs.Answer.{Answer, gives}
use Rattle.hbc_io.specs.Answers.{answered}
use Rattle.hbc_io.specs.Lends.{Lends}
use Rattle.hbc_io.specs.declared.Cursor.{Cursor}
use Rattle.hbc_io.specs.declared.Refusal.{Refusal}
use Rattle.hbc_io.specs.declared.Span.{Span}
use Rattle.hbc_io_leb.specs.Leb.{leb_bytes}
use Rattle.hbc_io_leb.specs.Numbers.{Number, unsigned, exact, and_next, no_more}
use Rattle.hbc_io_strings.specs.Strings.{prefixed}
use Rattle.hbc_debug_parts.specs.declared.InFile.{InFile}
use Rattle.hbc_debug_parts.specs.Lists.{in_limit, with_room, in_front}
use Rattle.hbc_debug_parts.specs.Along.{along, every}
use Rattle.hbc_rows.specs.Rows.{rows}
use Rattle.hbc_rows.specs.Until.{until, flat}
use Rattle.hbc_debug_strings.specs.declared.StringCount.{StringCount}

-- length-prefixed until one fails; each takes a byte, so that a part has at most as many as it has bytes
unfoldable pub strings_of : List ℕ → List Span
strings_of s = until (prefixed s) (length s) (cursor_at 0)

-- a place of the part that begins there, in the file
abbrev pub part_to_file : InFile → ℕ → InFile
part_to_file base at = record { 0 = base.0 + at }

abbrev pub string_width : ℕ
string_width = 2

-- a string's row: start in the file, after its prefix, and byte length
abbrev pub string_row : InFile → Span → List ℕ
string_row base p = (part_to_file base p.start).0 ∷ p.len ∷ []

abbrev pub string_words : InFile → List Span → List ℕ
string_words base ps = flat (string_row base) ps

-- ---- the numbers that are read, in file order

-- the length in front of a string
unfoldable pub prefix_number : List ℕ → Cursor → List Number
prefix_number s c = and_next unsigned (leb_bytes s c) no_more

-- that of each string, and that of one whose bytes are cut
unfoldable pub string_numbers : List ℕ → List Number
string_numbers s = along (prefixed s) (prefix_number s) (length s) (cursor_at 0)

-- ---- the calls

-- how many strings there are, and whether every number read was exact; 1 for a part of more than 2^30 bytes
unfoldable pub count_strings : List ℕ → Answer StringCount
count_strings s = in_limit (length s) (gives (record { strings = length (strings_of s); exact = every exact (string_numbers s) }))

-- the rows of the first count strings, of all where there are fewer; 1 where no file of 2^30 bytes holds the part there, 4 where fewer rows are lent
abbrev pub WriteStrings : List ℕ → InFile → ℕ → List ℕ → Result (Unit {0}) Refusal → List ℕ → Type 0
WriteStrings s base count before =
    Lends answered (in_limit (base.0 + length s) (with_room (rows string_width before) count (gives tt)))
    (in_front (count * string_width) (string_words base (strings_of s)) before) before
