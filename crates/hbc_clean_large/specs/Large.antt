-- docs/FORMAT.md, section 12.2: large headers start at or after the table's end and share no bytes.
use Rattle.std.specs.Prelude.{ℕ, ◌+◌, ◌*◌, List, Option, Some, None, Bool, true, false, cond, ltb, eqb}
use Rattle.hbc_io.specs.Answer.{Answer, gives, and_then}
use Rattle.hbc_function_record.specs.declared.Layout.{Layout}
use Rattle.hbc_function_record.specs.Record.{large_of}
use Rattle.hbc_function_record.specs.Row.{width}
use Rattle.hbc_function_header.specs.declared.Ground.{Ground}
use Rattle.hbc_function_header.specs.declared.Ground.TheVariants as ground
use Rattle.hbc_function_header.specs.Header.{header_at, ground_at}
use Rattle.hbc_function_header.specs.Meets.{overlap}
use Rattle.hbc_function.specs.Table.{read_answer}
use Rattle.hbc_lowest.specs.Lowest.{some, lowest_of}

-- the end of the table: where the header of one function more would start
abbrev pub table_end : Layout → ℕ → ℕ → ℕ
table_end layout start count = header_at layout start count

-- a large header that starts before it
unfoldable pub early : ℕ → Option Ground → Bool
early end None = false
early end (Some (ground.Inline at)) = false
early end (Some (ground.Large at place)) = ltb place end

-- two large headers, of n bytes each, that share a byte
unfoldable pub shares : ℕ → Option Ground → Option Ground → Bool
shares n None h = false
shares n (Some (ground.Inline at)) h = false
shares n (Some (ground.Large at place)) None = false
shares n (Some (ground.Large at place)) (Some (ground.Inline at₂)) = false
shares n (Some (ground.Large at place)) (Some (ground.Large at₂ place₂)) = overlap place n place₂ (place₂ + n)

-- function i's large header shares a byte with that of another of the functions
abbrev pub shares_any : List ℕ → Layout → ℕ → ℕ → ℕ → Bool
shares_any s layout start count i =
    some (λ j. cond (eqb i j) false (shares (large_of layout) (ground_at s layout start i) (ground_at s layout start j))) count

-- function i breaks the rule: its large header starts before the table's end, or shares a byte with any other function's
unfoldable pub breaks_large : List ℕ → Layout → ℕ → ℕ → ℕ → Bool
breaks_large s layout start count i =
    cond (early (table_end layout start count) (ground_at s layout start i)) true (shares_any s layout start count i)

-- the reader's refusal, where it is lent as many rows as there are functions; else the lowest function that breaks the rule
unfoldable pub check_large : List ℕ → Layout → ℕ → ℕ → Answer ℕ
check_large s layout start count =
    and_then (read_answer s layout start count (count * width)) (λ _. gives (lowest_of (breaks_large s layout start count) count))
