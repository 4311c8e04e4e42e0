-- A row has its width.
use Prim.Native.Nat.{ℕ}
use mathlib.Core.Path.{◌≡◌, refl}
use lib.ListN.{length}
use Rattle.hbc_function_record.specs.declared.Found.{Found}
use Rattle.hbc_function_record.specs.declared.Record.{Record}
use Rattle.hbc_function_record.specs.declared.Record.TheVariants as rec
use Rattle.hbc_function_record.specs.Row.{width, legacy_words, modern_words, row_words, found_at}

by_record : (r : Record) (place : ℕ) → length (row_words (found_at place r)) ≡ width
unfolding legacy_words modern_words row_words
by_record (rec.Legacy r) place = refl
by_record (rec.Modern r) place = refl

pub words_length : (f : Found) → length (row_words f) ≡ width
words_length f = by_record f.own f.place
