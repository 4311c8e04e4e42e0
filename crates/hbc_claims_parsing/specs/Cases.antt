-- docs/FORMAT.md, section 10.2: the worked cases of handlers and sections.
use Rattle.std.specs.Prelude.{Err, Some, None, ℕ, ◌-◌, ◌≡◌, List, ◌∷◌, ◌++◌, true, false, replicate}
use Rattle.hbc_io.specs.Answer.{gives, refused_at, told}
use Rattle.hbc_function_record.specs.Row.{width}
use Rattle.hbc_parsing_handlers.specs.declared.Reason.TheVariants as r
use Rattle.hbc_parsing_handlers.specs.Why.{why}
use Rattle.hbc_parsing_handlers.specs.Handlers.{handlers_answer}
use Rattle.hbc_parsing_sections.specs.Sections.{section, sections_at}

-- length 64, count 2 at 48
abbrev pub cut_file : List ℕ
cut_file = replicate 48 0 ++ (2 ∷ replicate 15 0)

-- info 45, and the handler flag
abbrev pub one_row : List ℕ
one_row = replicate 6 0 ++ (45 ∷ 0 ∷ 8 ∷ replicate (width - 9) 0)

pub record Cases : Type 0 where
  -- no handler, not one: the second triple is cut
  pub cut : why cut_file one_row 0 ≡ Err r.Cut
  pub no_handler : handlers_answer cut_file one_row 1 1 ≡ gives 0
  -- length 10, start 8, storage 1, other counts 0: refused 2
  pub padding_cut : told (sections_at 8 0 1 0 false 0 (replicate 10 0)) ≡ refused_at 2 0
  -- the greatest counts are answered by arithmetic
  pub counts_high : told (sections_at 8 4294967295 4294967295 4294967295 true 4294967295 (replicate 10 0)) ≡ refused_at 3 0
  -- padding goes to a multiple of 4 of the place in the file: an empty first section at 9 has size 3
  pub empty_at_nine : told (sections_at 9 0 0 0 false 0 (replicate 12 0))
      ≡ gives (record { regexps = section 9 3 0; storage = section 12 0 0; cjs = section 12 0 0; sources = None; bytecode = section 12 0 0 })
  -- sources given have a size, absent ones have none
  pub one_source : told (sections_at 0 0 3 0 true 1 (replicate 14 0))
      ≡ gives (record { regexps = section 0 0 0; storage = section 0 4 0; cjs = section 4 0 0; sources = Some (section 4 8 1); bytecode = section 12 2 0 })
