-- The ways out of the call on reasons, and one law for each exit of the call on sections.
use Prim.Native.Nat.{ℕ, ◌≤◌, ◌<◌, ◌^◌}
use mathlib.Core.Path.{◌≡◌, ap, sym, ◌∙◌}
use mathlib.Core.List.{List}
use mathlib.Core.Bool.{Bool}
use native.Mathlib.Omega.{arith}
use lib.ListN.{length}
use borrow.Author.Tests.{lt-ltb, le-ltb}
use Rattle.hbc_io.specs.Outcome.{Outcome, got, refused, limit, refusal}
use Rattle.std.specs.Prelude.{Option, Some, None, Result, Ok, Err}
use Rattle.hbc_io.specs.Answers.{answered}
use Rattle.hbc_io.specs.Answer.{gives, refuses, told}
use Rattle.hbc_io.specs.Lends.{below}
use Rattle.hbc_io.specs.declared.Cursor.{Cursor}
use Rattle.hbc_io.specs.declared.Refusal.{Refusal}
use Rattle.hbc_rows.specs.Rows.{rows}
use Rattle.hbc_parsing_handlers.specs.declared.Table.{Table}
use Rattle.hbc_parsing_handlers.specs.declared.Reason.{Reason}
use Rattle.hbc_parsing_handlers.specs.Why.{WhyNoHandlers}
use Rattle.hbc_parsing_sections.specs.declared.Sections.{Sections}
use Rattle.hbc_parsing_sections.specs.declared.Section.{Section}
use Rattle.hbc_parsing_sections.specs.Sections.{sections_at}
use Rattle.hbc_parsing_sections.specs.Laid.{Between, Laid}
use Rattle.hbc_parsing_sections.proofs.Laid.{laid}
use Rattle.hbc_c_code.specs.Code.{code_of, code_in}
use Rattle.hbc_c_parsing.specs.Parsing.{why_number, handlers_in, ToldWhy, section_width, sections_into, sections_answer, ToldSections}
use Rattle.hbc_c_parsing.specs.Private.{SourcesInWords, AllInWords}

-- the answer a that came back, in the case b that it was found in
pub why_told : {s functions : List ℕ} {id : ℕ} {a b : Result (Result Table Reason) Refusal} {before r after : ℕ} → WhyNoHandlers s functions id a → a ≡ b
    → r ≡ code_in why_number (answered b) → after ≡ handlers_in (answered b) before → ToldWhy s functions id before r after
why_told {before = before} p e f g =
    let z = ap answered (sym e) ∙ p in
    record { says = f ∙ ap (code_in why_number) z; leaves = g ∙ ap (λ x. handlers_in x before) z }

-- ---- sections

told_got : {A : Type 0} (o : Outcome A) (v : A) → told o ≡ gives v → (n : Cursor) × (o ≡ got v n)
told_got (got u n) v e = let z : u ≡ v = cc in (n, rw z)
told_got (refused r n) v e = absurd (let z : ◌≡◌ {A = ℕ} 0 1 = cc in omega arith)

between : (v : Option Section) (from to : ℕ) → Between v from to → to < 2 ^ 32 → (from ≤ to) × SourcesInWords v
between (Some p) from to h k = let x = h.0 in let y = h.1 in (omega arith, (omega arith, omega arith))
between None from to h k = (omega arith, tt)

small : (s : List ℕ) (start : ℕ) (v : Sections) → Laid s start v → AllInWords v
small s start v h =
    let b = between v.sources _ _ h.fourth (omega (arith, h.short, h.last)) in
    let x = b.0 in
    record {
      regexps = (omega (arith, x, h.short, h.last, h.second, h.third), omega (arith, x, h.short, h.last, h.second, h.third));
      storage = (omega (arith, x, h.short, h.last, h.second, h.third), omega (arith, x, h.short, h.last, h.second, h.third));
      cjs = (omega (arith, x, h.short, h.last), omega (arith, x, h.short, h.last));
      sources = b.1;
      bytecode = (omega (arith, h.short, h.last), omega (arith, h.short, h.last));
    }

module _ (start regexps storage cjs : ℕ) (given : Bool) (sources : ℕ) (s : List ℕ) {r : Result Sections Refusal} (e : answered r ≡ told (sections_at start regexps storage cjs given sources s)) where
  found_told : {q : Result Sections Refusal} → r ≡ q → told (sections_at start regexps storage cjs given sources s) ≡ answered q
  found_told f = sym e ∙ ap answered f

  pub found_small : {v : Sections} → r ≡ Ok v → AllInWords v
  found_small {v} f =
      let a = told_got (sections_at start regexps storage cjs given sources s) v (found_told f) in
      small s start v (laid start regexps storage cjs given sources s v a.0 a.1)

  module _ {before : List ℕ} (h : length s ≤ limit) (k : start ≤ length s) (m : 5 ≤ rows section_width before) where
    pub sections_got : {v : Sections} {after : List ℕ} → r ≡ Ok v → after ≡ sections_into v before
        → ToldSections s start regexps storage cjs given sources before 5 after
    unfolding sections_answer below
    sections_got {v} f p =
        let a : sections_answer s start regexps storage cjs given sources (rows section_width before) ≡ gives v = simp (le-ltb _ _ h, le-ltb _ _ k, le-ltb _ _ m, found_told f) in
        record { says = rw a; leaves = rw a p }

    pub sections_not : {q : Refusal} {c : ℕ} → r ≡ Err q → c ≡ code_of q → ToldSections s start regexps storage cjs given sources before c before
    unfolding sections_answer below
    sections_not {q} f p =
        let a : sections_answer s start regexps storage cjs given sources (rows section_width before) ≡ refuses q = simp (le-ltb _ _ h, le-ltb _ _ k, le-ltb _ _ m, found_told f) in
        record { says = rw a p; leaves = rw a }

module _ {start regexps storage cjs : ℕ} {given : Bool} {sources : ℕ} {s before : List ℕ} {c : ℕ} {q : Refusal} (p : c ≡ code_of q) where
  refusing : sections_answer s start regexps storage cjs given sources (rows section_width before) ≡ refuses q → ToldSections s start regexps storage cjs given sources before c before
  refusing a = record { says = rw a p; leaves = rw a }

  pub sections_long : limit < length s → q ≡ refusal 1 → ToldSections s start regexps storage cjs given sources before c before
  unfolding sections_answer below
  sections_long h e = refusing (rw e (simp (lt-ltb _ _ h)))

  pub sections_past : length s ≤ limit → length s < start → q ≡ refusal 2 → ToldSections s start regexps storage cjs given sources before c before
  unfolding sections_answer below
  sections_past h k e = refusing (rw e (simp (le-ltb _ _ h, lt-ltb _ _ k)))

  pub sections_few : length s ≤ limit → start ≤ length s → rows section_width before < 5 → q ≡ refusal 4 → ToldSections s start regexps storage cjs given sources before c before
  unfolding sections_answer below
  sections_few h k m e = refusing (rw e (simp (le-ltb _ _ h, le-ltb _ _ k, lt-ltb _ _ m)))
