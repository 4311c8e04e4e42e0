-- Every section that the sections' call answers is read by the pair call.
use Rattle.std.specs.Prelude.{Ok, Option, Some, None}
use Prim.Native.Nat.{ℕ, ◌+◌, ◌-◌, ◌*◌, ◌≤◌}
use mathlib.Core.Path.{◌≡◌, ap, ◌∙◌}
use mathlib.Core.List.{List}
use mathlib.Core.Bool.{Bool}
use native.Mathlib.Omega.{arith}
use lib.ListN.{length}
use borrow.Author.Tests.{le-ltb}
use Rattle.hbc_io.specs.Outcome.{Outcome, got, cursor_at, limit}
use Rattle.hbc_io.specs.Answer.{told}
use Rattle.hbc_io.specs.Lends.{below, written}
use Rattle.hbc_io.specs.declared.Cursor.{Cursor}
use Rattle.hbc_io.proofs.Alone.{one_moved}
use Rattle.hbc_io.proofs.Exits.{words}
use Rattle.hbc_rows.specs.Rows.{filled}
use Rattle.hbc_table.specs.Table.{words_from, words_at}
use Rattle.hbc_parsing_sections.specs.declared.Section.{Section}
use Rattle.hbc_parsing_sections.specs.declared.Sections.{Sections}
use Rattle.hbc_parsing_sections.specs.Sections.{sections_at}
use Rattle.hbc_parsing_sections.specs.Laid.{There, SourcesThere}
use Rattle.hbc_parsing_sections.proofs.Laid.{laid}
use Rattle.hbc_claims_parsing.specs.SectionPairs.{Fits, SourcesFit}

-- entries in the file, and a table that holds them: accepted
accepted : (s : List ℕ) (at entries room : ℕ) → length s ≤ limit → at + 8 * entries ≤ length s → 2 * entries ≤ room
    → words_at 8 s (cursor_at at) (2 * entries) room ≡ got tt (cursor_at (at + 4 * (2 * entries)))
unfolding words_at below
accepted s at entries room h r k =
    simp (
      le-ltb limit (length s) h,
      le-ltb (length s) at (omega arith),
      le-ltb room (2 * entries) k,
      le-ltb (length s - at) (4 * (2 * entries)) (omega arith),
    )

fits : (s : List ℕ) (p : Section) → length s ≤ limit → There s p → Fits s p
fits s p h r t q t' k v =
    let e = accepted s p.start p.entries (length t) h r k in (
      one_moved q (Ok (cursor_at (p.start + 4 * (2 * p.entries)))) (v.says ∙ e),
      words v ∙ ap (λ (o : Outcome (Unit {0})). written (told o) (filled (words_from s p.start) (2 * p.entries) t) t) e,
    )

sources_fit : (s : List ℕ) (v : Option Section) → length s ≤ limit → SourcesThere s v → SourcesFit s v
sources_fit s (Some p) h r = fits s p h r
sources_fit s None h r = tt

pub sections_fit : (start regexps storage cjs : ℕ) (given : Bool) (sources : ℕ) (s : List ℕ) (v : Sections) (n : Cursor)
    → sections_at start regexps storage cjs given sources s ≡ got v n → Fits s v.regexps × Fits s v.cjs × SourcesFit s v.sources
sections_fit start regexps storage cjs given sources s v n e =
    let l = laid start regexps storage cjs given sources s v n e in
    (fits s v.regexps l.short l.regexps_there, fits s v.cjs l.short l.cjs_there, sources_fit s v.sources l.short l.sources_there)
