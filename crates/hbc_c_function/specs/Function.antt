-- docs/FORMAT.md, sections 8.1 and 8.2: the calls on function headers, with layouts and answers as numbers.
use Rattle.std.specs.Prelude.{ℕ, ◌-◌, ◌^◌, ◌≡◌, List, length}
use Rattle.hbc_io.specs.Outcome.{refusal_at}
use Rattle.hbc_io.specs.Answer.{Answer, gives, refuses, asked}
use Rattle.hbc_io.specs.Lends.{Lends}
use Rattle.hbc_rows.specs.Rows.{put_row}
use Rattle.hbc_function_record.specs.declared.Layout.{Layout}
use Rattle.hbc_function_record.specs.declared.Layout.TheVariants as lay
use Rattle.hbc_function_record.specs.Row.{width}
use Rattle.hbc_function_header.specs.declared.Ground.{Ground}
use Rattle.hbc_function_header.specs.declared.Ground.TheVariants as ground
use Rattle.hbc_io.specs.Answers.{answered}
use Rattle.hbc_function_header.specs.Header.{function_at, opened, function_ground}
use Rattle.hbc_function_header.specs.Meets.{function_meets}
use Rattle.hbc_function.specs.Table.{row_by, roomed, Table, ReadFunctions}
use Rattle.hbc_function.specs.Refresh.{RefreshFunctions}
use Rattle.hbc_function_write.specs.Write.{WriteFunctions}
use Rattle.hbc_c_code.specs.Code.{code_of, code_in, truth, always}
use Rattle.hbc_c_code.specs.Told.{Told}

-- what is promised of a layout, by its number: 0 legacy, 1 modern; any other is malformed (12), and the words are as they were
pub record ByLayout {W : Type 0} (n : ℕ) (Promised : Layout → ℕ → W → Type 0) (before : W) (r : ℕ) (after : W) : Type 0 where
  pub legacy : n ≡ 0 → Promised lay.Legacy16 r after
  pub modern : n ≡ 1 → Promised lay.Modern12 r after
  pub malformed : (n ≡ 0 → ⊥) → (n ≡ 1 → ⊥) → (r ≡ code_of (refusal_at 12 0)) × (after ≡ before)

-- ---- a table read: accepted, the answer is the count

abbrev pub TableRead : List ℕ → Layout → ℕ → ℕ → Table → ℕ → Table → Type 0
TableRead s layout start count before = Told (always count) answered (ReadFunctions s layout start count before)

abbrev pub ToldFunctions : List ℕ → ℕ → ℕ → ℕ → Table → ℕ → Table → Type 0
ToldFunctions s layout start count before = ByLayout layout (λ l. TableRead s l start count before) before

-- ---- a refresh: the answer is how many functions were read again

abbrev pub TableRefreshed : List ℕ → Layout → ℕ → ℕ → ℕ → ℕ → Table → ℕ → Table → Type 0
TableRefreshed s layout start count low high before = Told (λ n. n) answered (RefreshFunctions s layout start count low high before)

abbrev pub ToldRefresh : List ℕ → ℕ → ℕ → ℕ → ℕ → ℕ → Table → ℕ → Table → Type 0
ToldRefresh s layout start count low high before = ByLayout layout (λ l. TableRefreshed s l start count low high before) before

-- ---- a table written: the answer is the end of what was written

abbrev pub TableWritten : List ℕ → Layout → ℕ → ℕ → ℕ → List ℕ → ℕ → List ℕ → Type 0
TableWritten rows layout start count large before = Told (λ n. n) answered (WriteFunctions rows layout start count large before)

abbrev pub ToldWrite : List ℕ → ℕ → ℕ → ℕ → ℕ → List ℕ → ℕ → List ℕ → Type 0
ToldWrite rows layout start count large before = ByLayout layout (λ l. TableWritten rows l start count large before) before

-- ---- one function into the first row: 1, 2, 4, then the function; accepted, the answer is 1

unfoldable pub row_answer : List ℕ → Layout → ℕ → ℕ → ℕ → Answer (Unit {0})
row_answer s layout start i words = opened s start (roomed words 1 (asked (function_at s layout start i)))

-- the answer itself is what is told
abbrev pub itself : Answer (Unit {0}) → Answer (Unit {0})
itself a = a

abbrev pub ReadRow : List ℕ → Layout → ℕ → ℕ → List ℕ → Answer (Unit {0}) → List ℕ → Type 0
ReadRow s layout start i before =
    Lends itself (row_answer s layout start i (length before)) (put_row width before 0 (row_by (function_at s layout start i))) before

abbrev pub RowRead : List ℕ → Layout → ℕ → ℕ → List ℕ → ℕ → List ℕ → Type 0
RowRead s layout start i before = Told (always 1) itself (ReadRow s layout start i before)

abbrev pub ToldFunction : List ℕ → ℕ → ℕ → ℕ → List ℕ → ℕ → List ℕ → Type 0
ToldFunction s layout start i before = ByLayout layout (λ l. RowRead s l start i before) before

-- ---- what a function is read from: accepted, the answer is 0, and two numbers lent for it hold the places; refused, they hold what they did

pub record Places : Type 0 where
  pub header : ℕ
  pub large : ℕ

abbrev pub places : ℕ → ℕ → Places
places header large = record { header = header; large = large }

-- in place of a large header's place, where there is none
abbrev pub no_place : ℕ
no_place = 2 ^ 64 - 1

abbrev pub places_of : Ground → Places
places_of (ground.Inline at) = places at no_place
places_of (ground.Large at place) = places at place

abbrev pub places_in : Answer Ground → Places → Places
places_in (gives g) before = places_of g
places_in (refuses r) before = before

pub record GroundTold (a : Answer Ground) (before : Places) (r : ℕ) (after : Places) : Type 0 where
  pub says : r ≡ code_in (always 0) a
  pub holds : after ≡ places_in a before

abbrev pub GroundFound : List ℕ → Layout → ℕ → ℕ → Places → ℕ → Places → Type 0
GroundFound s layout start i = GroundTold (function_ground s layout start i)

abbrev pub ToldGround : List ℕ → ℕ → ℕ → ℕ → Places → ℕ → Places → Type 0
ToldGround s layout start i before = ByLayout layout (λ l. GroundFound s l start i before) before

-- ---- whether a function meets a span: accepted, 1 or 0

abbrev pub ToldMeets : List ℕ → ℕ → ℕ → ℕ → ℕ → ℕ → ℕ → Type 0
ToldMeets s layout start i low high r = ByLayout {W = Unit {0}} layout (λ l n w. n ≡ code_in truth (function_meets s l start i low high)) tt r tt
