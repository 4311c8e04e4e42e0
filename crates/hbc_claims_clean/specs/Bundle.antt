-- docs/FORMAT.md, section 12.7: what the answer of the profile says of what was given.
use Rattle.std.specs.Prelude.{ℕ, ◌+◌, ◌*◌, ◌≤◌, ◌<◌, ◌≡◌, ◌⊎◌, List, Some, None, Ok, Err, length}
use Rattle.hbc_io.specs.declared.Refusal.{Refusal}
use Rattle.hbc_io.specs.Answer.{gives, refuses}
use Rattle.hbc_rows.specs.Rows.{rows}
use Rattle.hbc_function_record.specs.Row.{width}
use Rattle.hbc_function.specs.Table.{read_answer}
use Rattle.hbc_table_strings.specs.declared.Mode.TheVariants.{Hermes}
use Rattle.hbc_table_strings.specs.Row.{string_width}
use Rattle.hbc_table_strings.specs.Strings.{decode_answer}
use Rattle.hbc_buffer.specs.Series.{series_answer}
use Rattle.hbc_clean_series.specs.Series.{offset_of, count_of}
use Rattle.hbc_clean.specs.declared.Broken.{Broken}
use Rattle.hbc_clean.specs.Bundle.{Bundle, number_of, Given, strings_of, series_of}
use Rattle.hbc_claims_clean.specs.Rules.{BreaksLarge, LargeTidy, BreaksRuns, RunsTidy, BreaksValid, StringsValid, BreaksEmpty, SeriesFull, BreaksString}
use Rattle.hbc_claims_clean.specs.Rules.{buffer_in, Clean}

-- ---- the readers, each lent room enough

-- the headers are read into any table that has a row for each function
pub record HeadersRead (g : Given) : Type 0 where
  pub is : (words : ℕ) → g.count * width ≤ words → read_answer g.file g.layout g.start g.count words ≡ gives tt

pub record HeadersRefused (g : Given) (x : Refusal) : Type 0 where
  pub is : (words : ℕ) → g.count * width ≤ words → read_answer g.file g.layout g.start g.count words ≡ refuses x

-- the strings in Hermes mode into any table that has a row for each
pub record StringsRead (g : Given) : Type 0 where
  pub is : (t : List ℕ) → strings_of g ≤ rows string_width t → decode_answer Hermes g.strings g.small g.overflow g.storage t ≡ gives (strings_of g)

pub record StringsRefused (g : Given) (x : Refusal) : Type 0 where
  pub is : (t : List ℕ) → strings_of g ≤ rows string_width t → decode_answer Hermes g.strings g.small g.overflow g.storage t ≡ refuses x

-- series j into two tables that have room for its values
pub record SeriesRead (g : Given) (j : ℕ) : Type 0 where
  pub used : ℕ
  pub is : (kinds payloads : ℕ) → count_of g.series j ≤ kinds → count_of g.series j ≤ payloads
      → series_answer (buffer_in g j) (offset_of g.series j) (count_of g.series j) kinds payloads ≡ gives used

pub record SeriesRefused (g : Given) (j : ℕ) (x : Refusal) : Type 0 where
  pub is : (kinds payloads : ℕ) → count_of g.series j ≤ kinds → count_of g.series j ≤ payloads
      → series_answer (buffer_in g j) (offset_of g.series j) (count_of g.series j) kinds payloads ≡ refuses x

-- nothing is refused
pub record Accepted (g : Given) : Type 0 where
  pub headers : HeadersRead g
  pub strings : StringsRead g
  pub series : (j : ℕ) → j < series_of g → SeriesRead g j

-- the first refusal, headers before strings before series in order
pub record FirstSeries (g : Given) (x : Refusal) : Type 0 where
  pub index : ℕ
  pub low : index < series_of g
  pub before : (j : ℕ) → j < index → SeriesRead g j
  pub refused : SeriesRefused g index x

abbrev pub RefusedFirst : Given → Refusal → Type 0
RefusedFirst g x = HeadersRefused g x ⊎ ((HeadersRead g × StringsRefused g x) ⊎ (HeadersRead g × StringsRead g × FirstSeries g x))

-- ---- the answers

-- clean exactly when nothing is refused and all five rules hold
pub record CleanExactly (g : Given) (r : Bundle) : Type 0 where
  pub to : r ≡ Ok None → Accepted g × Clean g
  pub from : Accepted g → Clean g → r ≡ Ok None

-- a place breaks a rule, and no lower one does
pub record Lowest (Breaks : ℕ → Type 0) (place : ℕ) : Type 0 where
  pub breaks : Breaks place
  pub least : (i : ℕ) → i < place → Breaks i → ⊥

-- a broken rule is broken at its place, no lower place breaks it, the rules before it hold, and nothing was refused
pub record BrokenTruly (g : Given) (k place : ℕ) : Type 0 where
  pub accepted : Accepted g
  pub number : (1 ≤ k) × (k ≤ 5)
  pub one : k ≡ 1 → Lowest (BreaksLarge g) place
  pub two : k ≡ 2 → Lowest (BreaksRuns g) place
  pub three : k ≡ 3 → Lowest (BreaksValid g) place
  pub four : k ≡ 4 → Lowest (BreaksEmpty g) place
  pub five : k ≡ 5 → Lowest (BreaksString g) place
  pub after_one : 1 < k → LargeTidy g
  pub after_two : 2 < k → RunsTidy g
  pub after_three : 3 < k → StringsValid g
  pub after_four : 4 < k → SeriesFull g

pub record Judges (g : Given) (r : Bundle) : Type 0 where
  pub clean : CleanExactly g r
  pub broken : (b : Broken) → r ≡ Ok (Some b) → BrokenTruly g (number_of b.rule) b.place
  pub refused : (x : Refusal) → r ≡ Err x → RefusedFirst g x
