-- The worked cases, by computation.
use mathlib.Core.Path.{refl}
use Rattle.hbc_bits.specs.Bits.{le_at, field}
use Rattle.hbc_io.specs.Lends.{below, choose}
use Rattle.hbc_io.specs.Plain.{bytes_at, seek_to, align_to}
use Rattle.hbc_rows.specs.Rows.{entry_at}
use Rattle.hbc_parsing_handlers.specs.Why.{counted, table_at, why_at, why, shown}
use Rattle.hbc_parsing_handlers.specs.Handlers.{total, handlers_answer}
use Rattle.hbc_parsing_sections.specs.Sections.{section_at, pairs_at, sources_at, sections_from, sections_at}
use Rattle.hbc_claims_parsing.specs.Cases.{Cases}

pub cases : Cases
unfolding why why_at table_at counted le_at field entry_at below choose shown total handlers_answer sections_at sections_from sources_at pairs_at section_at bytes_at align_to seek_to
cases = record { cut = refl; no_handler = refl; padding_cut = refl; counts_high = refl; empty_at_nine = refl; one_source = refl }
