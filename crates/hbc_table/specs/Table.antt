-- docs/FORMAT.md, section 4.1: tables of words and pairs, count entries of so many words each (1 or 2), from a cursor into a lent table.
use Rattle.std.specs.Prelude.{ℕ, ◌+◌, ◌*◌, ◌/◌, List, Result, length}
use Rattle.hbc_bits.specs.Bits.{le_at}
use Rattle.hbc_io.specs.Outcome.{Outcome, got, refused, cursor_at, refusal, refusal_at, limit, left}
use Rattle.hbc_io.specs.Lends.{below, LendsFrom}
use Rattle.hbc_io.specs.Answers.{says_moved}
use Rattle.hbc_io.specs.declared.Cursor.{Cursor}
use Rattle.hbc_io.specs.declared.Stopped.{Stopped}
use Rattle.hbc_rows.specs.Rows.{filled}

-- word i from a place on
abbrev pub words_from : List ℕ → ℕ → ℕ → ℕ
words_from s at i = le_at s (at + 4 * i) 4

-- n words in entries of so many bytes, into a table of so many words: 1, 2, 4, then 3 with the count of whole entries before it; else past the words
unfoldable pub words_at : ℕ → List ℕ → Cursor → ℕ → ℕ → Outcome (Unit {0})
words_at bytes s c n words =
    below limit (length s) (refused (refusal 1) c)
    (below (length s) c.at (refused (refusal 2) c)
    (below words n (refused (refusal 4) c)
    (below (left s c) (4 * n) (refused (refusal_at 3 (left s c / bytes)) c)
    (got tt (cursor_at (c.at + 4 * n))))))

-- the promise of n words: the answer, and the table with them in front
abbrev pub ReadWords : ℕ → List ℕ → Cursor → ℕ → List ℕ → Result Cursor Stopped → List ℕ → Type 0
ReadWords bytes s c n before =
    LendsFrom says_moved (words_at bytes s c n (length before)) (filled (words_from s c.at) n before) before

-- of count entries of width words, four bytes a word
abbrev pub ReadTable : ℕ → List ℕ → Cursor → ℕ → List ℕ → Result Cursor Stopped → List ℕ → Type 0
ReadTable width s c count = ReadWords (4 * width) s c (width * count)
