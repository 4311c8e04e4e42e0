-- docs/FORMAT.md, section 6.3: each section has the entries and the bytes that were asked for.
use Rattle.std.specs.Prelude.{ℕ, ◌*◌, ◌≡◌, Bool}
use Rattle.hbc_parsing_sections.specs.declared.Sections.{Sections}
use Rattle.hbc_claims_law.specs.Terms.{Sized, SourcesSized}

-- n regexps and m CJS pairs, 8 bytes each, b bytes of storage, which has no entries, k sources if given; the bytecode has no entries
pub record Counted (n b m : ℕ) (given : Bool) (k : ℕ) (v : Sections) : Type 0 where
  pub regexps : Sized v.regexps n (8 * n)
  pub storage : Sized v.storage 0 b
  pub cjs : Sized v.cjs m (8 * m)
  pub sources : SourcesSized given k v.sources
  pub bytecode : v.bytecode.entries ≡ 0
