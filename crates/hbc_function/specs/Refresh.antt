-- docs/FORMAT.md, section 3.8: what a refresh answers, and what the lent words are afterwards.
use Rattle.std.specs.Prelude.{ℕ, ◌-◌, ◌/◌, List, Result, length}
use Rattle.hbc_io.specs.Answer.{Answer, gives, refuses, refused_at, and_then}
use Rattle.hbc_io.specs.Answers.{answered}
use Rattle.hbc_io.specs.Lends.{below, Lends}
use Rattle.hbc_io.specs.declared.Refusal.{Refusal}
use Rattle.hbc_rows.specs.Rows.{row_at}
use Rattle.hbc_function_record.specs.declared.Layout.{Layout}
use Rattle.hbc_function_record.specs.Record.{size_of}
use Rattle.hbc_function_record.specs.Row.{width}
use Rattle.hbc_function_header.specs.Header.{function_at, opened}
use Rattle.hbc_function_header.specs.Meets.{meets, spanned}
use Rattle.hbc_function_totals.specs.declared.Totals.{Totals}
use Rattle.hbc_function_totals.specs.Totals.{share_of, kept}
use Rattle.hbc_function.specs.Table.{scan, put_rows, roomed, share_by, Table}

-- how many inline headers fit, which is the number of the first that does not
unfoldable pub held : List ℕ → Layout → ℕ → ℕ
held s layout start = (length s - start) / size_of layout

-- 3 at the first header that does not fit; else what follows
abbrev pub fitted : {A : Type 0} → List ℕ → Layout → ℕ → ℕ → Answer A → Answer A
fitted s layout start count a = below (held s layout start) count (refused_at 3 (held s layout start)) a

-- t with the rows of those of functions 0 to n - 1 that meet the span
abbrev pub put_met : List ℕ → Layout → ℕ → ℕ → ℕ → List ℕ → ℕ → List ℕ
put_met s layout start low high t n = put_rows (meets s layout start low high) (function_at s layout start) t n

-- the totals meanwhile: of each of those functions the old row is taken out and the new one added, or 16 at the first where that cannot be
abbrev pub kept_met : List ℕ → Layout → ℕ → ℕ → ℕ → Table → ℕ → Answer Totals
kept_met s layout start low high before n =
    kept (meets s layout start low high) (λ i. share_of (row_at width before.rows i)) (λ i. share_by (function_at s layout start i)) before.totals n

-- how many functions were read, if the totals can be kept
abbrev pub if_kept : ℕ → Answer Totals → Answer ℕ
if_kept n (gives t) = gives n
if_kept n (refuses r) = refuses r

-- 1, 2, 10, 4, then the headers, then the functions that meet the span, in rising order; after all of these 16
unfoldable pub refresh_answer : List ℕ → Layout → ℕ → ℕ → ℕ → ℕ → Table → Answer ℕ
refresh_answer s layout start count low high before =
    opened s start (spanned s low high (roomed (length before.rows) count (fitted s layout start count
    (and_then (scan (meets s layout start low high) (function_at s layout start) count) (λ n. if_kept n (kept_met s layout start low high before count))))))

-- the totals that are left: the new ones, or those that were
abbrev pub left_by : Answer Totals → Totals → Totals
left_by (gives t) before = t
left_by (refuses r) before = before

-- the rows and the totals
abbrev pub refreshed_by : List ℕ → Layout → ℕ → ℕ → ℕ → ℕ → Table → Table
refreshed_by s layout start count low high before = record {
  rows = put_met s layout start low high before.rows count;
  totals = left_by (kept_met s layout start low high before count) before.totals;
}

-- what a refresh promises: how many functions were read again, or the refusal, and what the lent table and totals have become
abbrev pub RefreshFunctions : List ℕ → Layout → ℕ → ℕ → ℕ → ℕ → Table → Result ℕ Refusal → Table → Type 0
RefreshFunctions s layout start count low high before =
    Lends answered (refresh_answer s layout start count low high before) (refreshed_by s layout start count low high before) before
