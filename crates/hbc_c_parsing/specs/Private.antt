-- What only private contracts cite: no promise rests on it. What lies in a file of at most 2^30 bytes has words of 32 bits.
use Rattle.std.specs.Prelude.{Option, Some, None, ◌<◌, ◌^◌}
use Rattle.hbc_parsing_sections.specs.declared.Section.{Section}
use Rattle.hbc_parsing_sections.specs.declared.Sections.{Sections}

abbrev pub InWords : Section → Type 0
InWords p = (p.start < 2 ^ 32) × (p.size < 2 ^ 32)

abbrev pub SourcesInWords : Option Section → Type 0
SourcesInWords (Some p) = InWords p
SourcesInWords None = Unit

pub record AllInWords (v : Sections) : Type 0 where
  pub regexps : InWords v.regexps
  pub storage : InWords v.storage
  pub cjs : InWords v.cjs
  pub sources : SourcesInWords v.sources
  pub bytecode : InWords v.bytecode
