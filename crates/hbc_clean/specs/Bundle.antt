-- docs/FORMAT.md, section 12: the clean-bundle profile: the readers' refusals, then the first broken rule with its lowest place.
use Rattle.std.specs.Prelude.{ℕ, ◌*◌, List, Option, Some, None, Result, Ok, Err, Bool, length}
use Rattle.hbc_io.specs.Answer.{Answer, gives, refuses, and_then}
use Rattle.hbc_io.specs.Lends.{below}
use Rattle.hbc_rows.specs.Rows.{rows}
use Rattle.hbc_function_record.specs.declared.Layout.{Layout}
use Rattle.hbc_function_record.specs.Row.{width}
use Rattle.hbc_function.specs.Table.{read_answer}
use Rattle.hbc_table_strings.specs.Strings.{lesser}
use Rattle.hbc_lowest.specs.Lowest.{lowest_of}
use Rattle.hbc_clean_large.specs.Large.{breaks_large}
use Rattle.hbc_clean_series.specs.Series.{series_width, breaks_empty, breaks_string, read_all}
use Rattle.hbc_clean.specs.Strings.{breaks_runs, run_places, breaks_valid, read_strings}
use Rattle.hbc_io.specs.declared.Refusal.{Refusal}
use Rattle.hbc_clean.specs.declared.Rule.{Rule}
use Rattle.hbc_clean.specs.declared.Rule.TheVariants as rule_of
use Rattle.hbc_clean.specs.declared.Broken.{Broken}

-- what is given: headers, strings and literal series
pub record Given : Type 0 where
  pub file : List ℕ
  pub layout : Layout
  pub start : ℕ
  pub count : ℕ
  pub kinds : List ℕ
  pub strings : ℕ
  pub small : List ℕ
  pub overflow : List ℕ
  pub storage : List ℕ
  pub keys : List ℕ
  pub values : List ℕ
  pub series : List ℕ

abbrev pub given : List ℕ → Layout → ℕ → ℕ → List ℕ → ℕ → List ℕ → List ℕ → List ℕ → List ℕ → List ℕ → List ℕ → Given
given file layout start count kinds strings small overflow storage keys values series = record {
  file = file;
  layout = layout;
  start = start;
  count = count;
  kinds = kinds;
  strings = strings;
  small = small;
  overflow = overflow;
  storage = storage;
  keys = keys;
  values = values;
  series = series;
}

-- ---- the five rules: how many places each has, and which of them break it; each is named by what it asks for, and is true of a place that lacks it

abbrev pub strings_of : Given → ℕ
strings_of g = lesser g.strings (length g.small)

abbrev pub series_of : Given → ℕ
series_of g = rows series_width g.series

-- a function that breaks: large headers start at or after the table's end and share no bytes
abbrev pub large : Given → ℕ → Bool
large g = breaks_large g.file g.layout g.start g.count

-- a run, or their number, that breaks: kind lengths add up to the string count with no empty run
abbrev pub runs : Given → ℕ → Bool
runs g = breaks_runs g.kinds g.strings

-- a string that breaks: each string is valid in Hermes mode
abbrev pub valid : Given → ℕ → Bool
valid g = breaks_valid g.kinds g.small g.overflow g.storage

-- a series that breaks: no series passes a length-0 tag
abbrev pub full : Given → ℕ → Bool
full g = breaks_empty g.keys g.values g.series

-- a series that breaks: each literal string number is below the string count
abbrev pub known : Given → ℕ → Bool
known g = breaks_string g.strings g.keys g.values g.series

-- ---- what is found

pub data Verdict : Type 0 where
  clean : Verdict
  broken : ℕ → ℕ → Verdict

-- a rule of n places that b breaks: broken at the lowest, or what follows
abbrev pub rule : ℕ → (ℕ → Bool) → ℕ → Verdict → Verdict
rule k b n v = below (lowest_of b n) n (broken k (lowest_of b n)) v

-- the first broken rule, in this order, with its lowest place
unfoldable pub verdict : Given → Verdict
verdict g =
    rule 1 (large g) g.count
    (rule 2 (runs g) (run_places g.kinds)
    (rule 3 (valid g) (strings_of g)
    (rule 4 (full g) (series_of g)
    (rule 5 (known g) (series_of g)
    clean))))

-- the readers' refusals before any rule: headers, strings in Hermes mode, series in order
unfoldable pub check_bundle : Given → Answer Verdict
check_bundle g =
    and_then (read_answer g.file g.layout g.start g.count (g.count * width)) (λ _.
    and_then (read_strings g.strings g.small g.overflow g.storage) (λ _.
    and_then (read_all g.keys g.values g.series (series_of g)) (λ _.
    gives (verdict g))))

-- ---- the call

-- the numbers of the rules
abbrev pub number_of : Rule → ℕ
number_of rule_of.LargeHeaders = 1
number_of rule_of.KindRuns = 2
number_of rule_of.Strings = 3
number_of rule_of.EmptyTags = 4
number_of rule_of.LiteralStrings = 5

abbrev pub found_by : Option Broken → Verdict
found_by None = clean
found_by (Some b) = broken (number_of b.rule) b.place

abbrev pub Bundle : Type 0
Bundle = Result (Option Broken) Refusal

abbrev pub says_bundle : Bundle → Answer Verdict
says_bundle (Ok v) = gives (found_by v)
says_bundle (Err r) = refuses r
