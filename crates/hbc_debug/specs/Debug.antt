-- docs/FORMAT.md, section 7.6: the four tables of the debug section, and what each holds afterwards.
use Rattle.std.specs.Prelude.{ℕ, List, ◌++◌, Bool, false, cond, length, leb, Result}
use Rattle.std.proofs.lemmas.List.Edits.{sets}
use Rattle.hbc_io.specs.Answer.{Answer, gives, refuses, refused_at, and_then}
use Rattle.hbc_io.specs.Answers.{answered}
use Rattle.hbc_io.specs.declared.Refusal.{Refusal}
use Rattle.hbc_io.specs.Lends.{choose, Lends}
use Rattle.hbc_io_leb.specs.Numbers.{Number, exact}
use Rattle.hbc_rows.specs.Rows.{rows}
use Rattle.hbc_debug_parts.specs.Parts.{no_parts, parts_of, part_bytes}
use Rattle.hbc_debug_parts.specs.Along.{every}
use Rattle.hbc_debug_parts.specs.declared.Marked.{Marked}
use Rattle.hbc_debug_parts.specs.declared.InFile.{InFile}
use Rattle.hbc_debug_parts.specs.declared.Parts.{Parts}
use Rattle.hbc_debug_strings.specs.Strings.{strings_of, string_width, string_words, string_numbers}
use Rattle.hbc_debug_scopes.specs.Scopes.{scopes_of, scope_width, scope_words, name_words, names_in, scope_numbers}
use Rattle.hbc_debug_callees.specs.Callees.{callees_of, callee_width, callee_words, callee_numbers}
use Rattle.hbc_debug.specs.declared.Counts.{Counts}

-- the four lent tables
pub record Tables : Type 0 where
  pub strings : List ℕ
  pub scopes : List ℕ
  pub names : List ℕ
  pub callees : List ℕ

abbrev pub tables : List ℕ → List ℕ → List ℕ → List ℕ → Tables
tables strings scopes names callees = record { strings = strings; scopes = scopes; names = names; callees = callees }

-- the bytes of the three parts, and where those of the strings begin in the file
pub record Contents : Type 0 where
  pub strings : List ℕ
  pub base : InFile
  pub scopes : List ℕ
  pub callees : List ℕ

abbrev pub contents : List ℕ → InFile → List ℕ → List ℕ → Contents
contents strings base scopes callees = record { strings = strings; base = base; scopes = scopes; callees = callees }

abbrev pub contents_in : List ℕ → Parts → Contents
contents_in file p = contents (part_bytes file p.strings) p.strings.start (part_bytes file p.scopes) (part_bytes file p.callees)

-- names and callees go by how many strings there are
abbrev pub string_count : Contents → ℕ
string_count b = length (strings_of b.strings)

-- how many rows each table takes
unfoldable pub counts_of : Contents → Counts
counts_of b =
    record {
      strings = string_count b;
      scopes = length (scopes_of b.scopes);
      names = names_in (scopes_of b.scopes);
      callees = length (callees_of (string_count b) b.callees);
    }

-- every LEB128 number that is read of them: of the scopes, of the callees, of the strings, in each in the order of its bytes
unfoldable pub numbers_read : Contents → List Number
numbers_read b = scope_numbers b.scopes ++ (callee_numbers (string_count b) b.callees ++ string_numbers b.strings)

-- the mark: every one of them is exact
unfoldable pub all_exact : Contents → Bool
all_exact b = every exact (numbers_read b)

-- and how many it has room for; a name is one word
abbrev pub room_in : Tables → Counts
room_in t =
    record {
      strings = rows string_width t.strings;
      scopes = rows scope_width t.scopes;
      names = length t.names;
      callees = rows callee_width t.callees;
    }

unfoldable pub fits : Counts → Counts → Bool
fits need room =
    cond (leb need.strings room.strings)
    (cond (leb need.scopes room.scopes) (cond (leb need.names room.names) (leb need.callees room.callees) false) false)
    false

-- the tables with their rows in front; the words past the rows are as they were
abbrev pub with_rows : Contents → Tables → Tables
with_rows b t =
    tables (sets t.strings 0 (string_words b.base (strings_of b.strings)))
    (sets t.scopes 0 (scope_words (scopes_of b.scopes)))
    (sets t.names 0 (name_words (string_count b) (scopes_of b.scopes)))
    (sets t.callees 0 (callee_words (callees_of (string_count b) b.callees)))

-- 4 if one of the tables is short: all are looked at together
abbrev pub counts_answer : Contents → Tables → Answer (Marked Counts)
counts_answer b t = choose (fits (counts_of b) (room_in t)) (gives (record { value = counts_of b; exact = all_exact b })) (refused_at 4 0)

-- the section at an offset: 1 and 3 come first, with its parts
abbrev pub debug_answer : List ℕ → ℕ → Tables → Answer (Marked Counts)
debug_answer file offset t = and_then (parts_of file offset) (λ p. counts_answer (contents_in file p) t)

-- what its parts hold; empty ones where they are refused
abbrev pub parts_given : Answer Parts → Parts
parts_given (gives p) = p
parts_given (refuses r) = no_parts

abbrev pub contents_at : List ℕ → ℕ → Contents
contents_at file offset = contents_in file (parts_given (parts_of file offset))

-- the promise: the counts, the mark, and every word of the four tables
abbrev pub ReadDebug : List ℕ → ℕ → Tables → Result (Marked Counts) Refusal → Tables → Type 0
ReadDebug file offset before = Lends answered (debug_answer file offset before) (with_rows (contents_at file offset) before) before
