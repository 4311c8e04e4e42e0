-- docs/FORMAT.md, section 1.2: what an accepted read, an accepted refresh and an accepted write say of their tests.
use Rattle.std.specs.Prelude.{ℕ, ◌*◌, ◌≤◌, ◌<◌, ◌≡◌, List, true, length}
use Rattle.hbc_io.specs.Outcome.{limit}
use Rattle.hbc_function_record.specs.declared.Layout.{Layout}
use Rattle.hbc_io.specs.Answer.{gives}
use Rattle.hbc_function_header.specs.Header.{function_at}
use Rattle.hbc_function_record.specs.Row.{width}
use Rattle.hbc_function_header.specs.Meets.{meets}
use Rattle.hbc_function_totals.specs.declared.Totals.{Totals}
use Rattle.hbc_function.specs.Table.{scan, all, Table}
use Rattle.hbc_function.specs.Refresh.{held, kept_met}
use Rattle.hbc_rows.specs.Rows.{row_at}
use Rattle.hbc_function_bytes.specs.Bytes.{right_row}
use Rattle.hbc_function_write.specs.Write.{end_at, table_end, right_end}

pub record Accepted (s : List ℕ) (layout : Layout) (start count words : ℕ) : Type 0 where
  pub short : length s ≤ limit
  pub begins : start ≤ length s
  pub holds : count * width ≤ words
  pub number : ℕ
  pub scans : scan all (function_at s layout start) count ≡ gives number

pub record Refreshable (s : List ℕ) (layout : Layout) (start count low high : ℕ) (t : Table) (k : ℕ) : Type 0 where
  pub short : length s ≤ limit
  pub begins : start ≤ length s
  pub rises : low ≤ high
  pub ends : high ≤ length s
  pub holds : count * width ≤ length t.rows
  pub fits : count ≤ held s layout start
  pub scans : scan (meets s layout start low high) (function_at s layout start) count ≡ gives k
  pub now : Totals
  pub keeps : kept_met s layout start low high t count ≡ gives now

pub record Writable (rows : List ℕ) (layout : Layout) (start count large : ℕ) (b : List ℕ) (e : ℕ) : Type 0 where
  pub short : length b ≤ limit
  pub begins : start ≤ length b
  pub holds : count * width ≤ length rows
  pub right : (i : ℕ) → i < count → right_row layout i (row_at width rows i) ≡ true
  pub ends : (i : ℕ) → i < count → right_end layout (row_at width rows) large i ≡ true
  pub after : table_end layout start count ≤ large
  pub fits : end_at layout (row_at width rows) large (table_end layout start count) count ≤ length b
  pub end : e ≡ end_at layout (row_at width rows) large (table_end layout start count) count
