-- What only private contracts cite: no promise rests on it.
-- What a tag says, what is high in one run, and what is found in one series.
use Rattle.std.specs.Prelude.{ℕ, ◌+◌, ◌*◌, ◌≡◌, List, Bool, true, false, cond, leb, eqb}
use Rattle.hbc_bits.specs.Bits.{le_at}
use Rattle.hbc_io.specs.Outcome.{got, refused, cursor_at, refusal}
use Rattle.hbc_io.specs.Answer.{Answer, gives, and_then}
use Rattle.hbc_io.specs.declared.Cursor.{Cursor}
use Rattle.hbc_buffer_literal.specs.Literal.{width_of, literal_of, kind_of}
use Rattle.hbc_buffer.specs.Series.{run_of, tag_at}
use Rattle.hbc_lowest.specs.Lowest.{some}
use Rattle.hbc_clean_series.specs.declared.Tag.{Tag}
use Rattle.hbc_clean_series.specs.declared.Marks.{Marks}

-- what a tag's answer says: the run whose values start at `next`, or that the bytes are cut
pub record SaysTag (s : List ℕ) (at : ℕ) (r : Tag) : Type 0 where
  pub run : r.there ≡ true → tag_at s (cursor_at at) ≡ got (run_of r.sort r.size) (cursor_at r.next)
  pub cut : r.there ≡ false → (m : Cursor) × (tag_at s (cursor_at at) ≡ refused (refusal 3) m)

-- the number of value i of a run, whose values start at `at`, is not below the string count
abbrev pub high_in : ℕ → List ℕ → ℕ → ℕ → ℕ → Bool
high_in strings s at sort i = leb strings (le_at s (at + i * width_of sort) (width_of sort))

-- n values of a run are strings, and one of them is
unfoldable pub high_run : ℕ → List ℕ → ℕ → ℕ → ℕ → Bool
high_run strings s at sort n = cond (eqb (kind_of (literal_of sort 0)) 4) (some (high_in strings s at sort) n) false

-- whether it passes a tag of length 0, and whether it holds a string number too high
abbrev pub marks : Bool → Bool → Marks
marks empty high = record { empty = empty; high = high }

-- the reader's refusal; else these two
abbrev pub marked : Answer ℕ → Bool → Bool → Answer Marks
marked a empty high = and_then a (λ _. gives (marks empty high))
