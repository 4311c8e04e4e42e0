-- docs/FORMAT.md, section 8.2: what the calls on handlers and trailing sections hand back through words that the caller lends.
use Rattle.std.specs.Prelude.{Option, Some, None, Result, Ok, Err, ℕ, ◌≡◌, List, [], ◌∷◌, Bool, length}
use Rattle.hbc_io.specs.Outcome.{limit}
use Rattle.hbc_io.specs.Answers.{answered}
use Rattle.hbc_io.specs.Answer.{Answer, gives, refuses, refused_at, told}
use Rattle.hbc_io.specs.Lends.{below}
use Rattle.hbc_rows.specs.Rows.{rows, put_row}
use Rattle.hbc_parsing_handlers.specs.declared.Table.{Table}
use Rattle.hbc_parsing_handlers.specs.declared.Reason.{Reason}
use Rattle.hbc_parsing_handlers.specs.Why.{reason_number, why_answer}
use Rattle.hbc_parsing_handlers.specs.Handlers.{ReadHandlers}
use Rattle.hbc_parsing_sections.specs.declared.Section.{Section}
use Rattle.hbc_parsing_sections.specs.declared.Sections.{Sections}
use Rattle.hbc_parsing_sections.specs.Sections.{sections_at}
use Rattle.hbc_c_code.specs.Code.{code_in, always}
use Rattle.hbc_c_code.specs.Told.{ToldValue}

-- handlers: accepted, the answer is 0 and the number of rows is in a number of its own
abbrev pub ToldHandlers : List ℕ → List ℕ → ℕ → List ℕ → ℕ → ℕ → List ℕ → ℕ → Type 0
ToldHandlers s functions count before = ToldValue answered (ReadHandlers s functions count before)

-- ---- why a function has none: 0 where they are shown, and then their number is in a number of its own; else the reason's number

abbrev pub why_number : Result Table Reason → ℕ
why_number (Ok t) = 0
why_number (Err x) = reason_number x

-- what the number of its own holds: what it held where there is a reason, and where it is refused
abbrev pub handlers_in : Answer (Result Table Reason) → ℕ → ℕ
handlers_in (gives (Ok t)) before = t.count
handlers_in (gives (Err x)) before = before
handlers_in (refuses r) before = before

pub record ToldWhy (s functions : List ℕ) (id before r after : ℕ) : Type 0 where
  pub says : r ≡ code_in why_number (why_answer s functions id)
  pub leaves : after ≡ handlers_in (why_answer s functions id) before

-- ---- sections: five rows of start, size with padding, entries, and a mark that is 1 where sources are absent

abbrev pub section_width : ℕ
section_width = 4

abbrev pub section_words : Section → List ℕ
section_words p = p.start ∷ p.size ∷ p.entries ∷ 0 ∷ []

abbrev pub sources_words : Option Section → List ℕ
sources_words (Some p) = section_words p
sources_words None = 0 ∷ 0 ∷ 0 ∷ 1 ∷ []

abbrev put : List ℕ → ℕ → List ℕ → List ℕ
put = put_row section_width

-- regexp table, regexp storage, CJS pairs, function sources, bytecode
abbrev pub sections_into : Sections → List ℕ → List ℕ
sections_into v t =
    put (put (put (put (put t 0 (section_words v.regexps)) 1 (section_words v.storage)) 2 (section_words v.cjs)) 3 (sources_words v.sources))
    4 (section_words v.bytecode)

-- 1, 2 for the start, 4 for a table of fewer than five rows, then the sections in the file's order
unfoldable pub sections_answer : List ℕ → ℕ → ℕ → ℕ → ℕ → Bool → ℕ → ℕ → Answer Sections
sections_answer s start regexps storage cjs given sources room =
    below limit (length s) (refused_at 1 0)
    (below (length s) start (refused_at 2 0)
    (below room 5 (refused_at 4 0)
    (told (sections_at start regexps storage cjs given sources s))))

abbrev pub into_by : Answer Sections → List ℕ → List ℕ
into_by (gives v) before = sections_into v before
into_by (refuses r) before = before

-- accepted, the answer is 5
pub record ToldSections (s : List ℕ) (start regexps storage cjs : ℕ) (given : Bool) (sources : ℕ) (before : List ℕ) (r : ℕ) (after : List ℕ) : Type 0 where
  pub says : r ≡ code_in (always 5) (sections_answer s start regexps storage cjs given sources (rows section_width before))
  pub leaves : after ≡ into_by (sections_answer s start regexps storage cjs given sources (rows section_width before)) before
