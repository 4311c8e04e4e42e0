-- What only private contracts cite: no promise rests on it.
use Rattle.std.specs.Prelude.{ℕ, ◌+◌, ◌-◌, ◌*◌, ◌^◌, ◌≤◌, ◌<◌, ◌≡◌, Bool, true, false, List, Result, Ok, Err, leb}
use Rattle.hbc_io.specs.Answer.{Answer, gives, refuses, asked}
use Rattle.hbc_io.specs.Plain.{word_at}
use Rattle.hbc_function_record.specs.declared.Layout.{Layout}
use Rattle.hbc_function_record.specs.Record.{size_of}
use Rattle.hbc_function_record.specs.Row.{width, inline_found}
use Rattle.hbc_function_header.specs.Header.{header_at, function_at}
use Rattle.hbc_function_header.specs.Meets.{meets}
use Rattle.hbc_rows.specs.Rows.{row_at}
use Rattle.hbc_function_record.specs.declared.Found.{Found}
use Rattle.hbc_function_totals.specs.declared.Share.{Share}
use Rattle.hbc_function_totals.specs.declared.Totals.{Totals}
use Rattle.hbc_function_totals.specs.Totals.{share_of, sum}
use Rattle.hbc_io.specs.Answers.{answered}
use Rattle.hbc_io.specs.Lends.{Lends}
use Rattle.hbc_io.specs.declared.Refusal.{Refusal}
use Rattle.hbc_function.specs.Table.{scan, put_rows, Table}
use Rattle.hbc_function.specs.Refresh.{kept_met, if_kept, refreshed_by}
use Rattle.hbc_function.specs.declared.Met.{Met}

-- functions `from` to i - 1 are not chosen
pub record Skipped (chosen : ℕ → Bool) (from count i : ℕ) : Type 0 where
  pub after : from ≤ i
  pub within : i ≤ count
  pub none : (k : ℕ) → from ≤ k → k < i → chosen k ≡ false

-- nor is any before r, which is, unless it is count
pub record Next (chosen : ℕ → Bool) (from count r : ℕ) : Type 0 where
  pub skipped : Skipped chosen from count r
  pub met : r < count → chosen r ≡ true

-- a function is read from its own header alone
abbrev pub Own : List ℕ → Layout → ℕ → ℕ → Type 0
Own s layout start i = gives (inline_found layout i (word_at (size_of layout) s (header_at layout start i))) ≡ function_at s layout start i

-- one that is known to be
abbrev pub Plain : List ℕ → Layout → ℕ → ℕ → Bool → Type 0
Plain s layout start i r = r ≡ true → Own s layout start i

-- one that is known not to meet a span
abbrev pub Apart : List ℕ → Layout → ℕ → ℕ → ℕ → ℕ → Bool → Type 0
Apart s layout start low high i r = r ≡ true → meets s layout start low high i ≡ false

-- ---- rows that are written, one after another

-- t is t₀ with the chosen rows of functions 0 to i - 1
pub record Put (chosen : ℕ → Bool) (f : ℕ → Answer Found) (i : ℕ) (t₀ t : List ℕ) : Type 0 where
  pub is : t ≡ put_rows chosen f t₀ i

abbrev pub shares : List ℕ → ℕ → Share
shares t i = share_of (row_at width t i)

-- large and sizes are the sums of those of shares 0 to i - 1 that are chosen, of which there are at most m
pub record Summed (chosen : ℕ → Bool) (f : ℕ → Share) (i m large sizes : ℕ) : Type 0 where
  pub large_is : large ≡ sum chosen (λ k. (f k).large) i
  pub sizes_is : sizes ≡ sum chosen (λ k. (f k).size) i
  pub large_most : large ≤ m * 4294967295
  pub sizes_most : sizes ≤ m * 4294967295

-- the rows of functions `from` to next - 1 were written into t, which became t', and these are their sums: whatever was written from b on, and summed up,
-- goes on with them
pub record Ran (f : ℕ → Answer Found) (from to : ℕ) (t : List ℕ) (next large sizes : ℕ) (t' : List ℕ) : Type 0 where
  pub after : from ≤ next
  pub within : next ≤ to
  pub large_most : large ≤ (next - from) * 4294967295
  pub sizes_most : sizes ≤ (next - from) * 4294967295
  pub puts : (b : ℕ) (t₀ : List ℕ) → b ≤ from → Put (leb b) f from t₀ t → Put (leb b) f next t₀ t'
  pub sums : (b m l s : ℕ) → b ≤ from → Summed (leb b) (shares t) from m l s → Summed (leb b) (shares t') next (m + (next - from)) (l + large) (s + sizes)

-- what the first pass of a refresh answers: how many functions are read again, and the totals of their old rows
abbrev pub says_met : Result Met Refusal → Answer (ℕ × Totals)
says_met (Ok m) = gives (m.count, m.old)
says_met (Err r) = refuses r

-- functions `first` to end - 1 are chosen, and can be read; none before them is
pub record Solid (chosen : ℕ → Bool) (f : ℕ → Answer Found) (first count end : ℕ) : Type 0 where
  pub after : first ≤ end
  pub within : end ≤ count
  pub none : (k : ℕ) → k < first → chosen k ≡ false
  pub each : (k : ℕ) → first ≤ k → k < end → chosen k ≡ true
  pub read : (k : ℕ) → first ≤ k → k < end → gives tt ≡ asked (f k)
  pub counts : scan chosen f end ≡ gives (end - first)

abbrev pub SolidTo : (ℕ → Bool) → (ℕ → Answer Found) → ℕ → ℕ → Result Met Refusal → Type 0
SolidTo chosen f first count (Ok m) = Solid chosen f first count m.end
SolidTo chosen f first count (Err r) = Unit {0}

abbrev pub with_old : Answer ℕ → Totals → Answer (ℕ × Totals)
with_old (gives n) old = gives (n, old)
with_old (refuses r) old = refuses r

-- totals of which old ones can be taken out, and to which those of 2^30 rows can be added
pub record Roomy (large sizes : ℕ) (old : Totals) : Type 0 where
  pub large_out : old.large ≤ large
  pub sizes_out : old.sizes ≤ sizes
  pub large_in : large < 2 ^ 62
  pub sizes_in : sizes < 2 ^ 62

abbrev pub Safe : ℕ → ℕ → Totals → Bool → Type 0
Safe large sizes old r = r ≡ true → Roomy large sizes old

-- what a refresh does whose n functions can all be read: rows and totals, if these can be kept
abbrev pub Settled : List ℕ → Layout → ℕ → ℕ → ℕ → ℕ → ℕ → Table → Result ℕ Refusal → Table → Type 0
Settled s layout start count low high n before =
    Lends answered (if_kept n (kept_met s layout start low high before count)) (refreshed_by s layout start count low high before) before
