-- What only private contracts cite: no promise rests on it.
-- docs/FORMAT.md, section 7.6: the tables from the bytes of the three parts.
use Rattle.std.specs.Prelude.{Result}
use Rattle.hbc_io.specs.Answers.{answered}
use Rattle.hbc_io.specs.Lends.{Lends}
use Rattle.hbc_io.specs.declared.Refusal.{Refusal}
use Rattle.hbc_debug_parts.specs.declared.Marked.{Marked}
use Rattle.hbc_debug.specs.Debug.{Tables, Contents, counts_answer, with_rows}
use Rattle.hbc_debug.specs.declared.Counts.{Counts}

abbrev pub ReadParts : Contents → Tables → Result (Marked Counts) Refusal → Tables → Type 0
ReadParts b before = Lends answered (counts_answer b before) (with_rows b before) before
