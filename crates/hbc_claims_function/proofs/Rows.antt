-- Each name is the place of the word that it names.
use Prim.Native.Nat.{ℕ}
use mathlib.Core.Path.{◌≡◌, refl}
use lib.ListN.{get_or, take}
use Rattle.hbc_function_record.specs.declared.Legacy.{Legacy}
use Rattle.hbc_function_record.specs.declared.Modern.{Modern}
use Rattle.hbc_function_record.specs.declared.Record.{Record}
use Rattle.hbc_function_record.specs.declared.Record.TheVariants as rec
use Rattle.hbc_function_record.specs.declared.Found.{Found}
use Rattle.hbc_function_record.specs.Row.{record_width, legacy_words, modern_words, record_words, row_words, found_at, ROW_LARGE_PLACE}
use Rattle.hbc_function_record.proofs.Rows.{words_length}
use Rattle.hbc_claims_function.specs.Rows.{NamedLegacy, NamedModern, NamedRow}

pub named_legacy : (r : Legacy) → NamedLegacy r
unfolding legacy_words
named_legacy r = record { layout = refl; id = refl; offset = refl; param_count = refl; size = refl; name = refl; info_offset = refl; frame_size = refl; flags = refl }

pub named_modern : (r : Modern) → NamedModern r
unfolding modern_words
named_modern r = record { layout = refl; id = refl; offset = refl; param_count = refl; size = refl; name = refl; info_offset = refl; frame_size = refl; flags = refl }

first_by : (r : Record) (place : ℕ) → take record_width (row_words (found_at place r)) ≡ record_words r
unfolding legacy_words modern_words row_words
first_by (rec.Legacy r) place = refl
first_by (rec.Modern r) place = refl

last_by : (r : Record) (place : ℕ) → get_or (row_words (found_at place r)) ROW_LARGE_PLACE 0 ≡ place
unfolding legacy_words modern_words row_words
last_by (rec.Legacy r) place = refl
last_by (rec.Modern r) place = refl

pub named_row : (f : Found) → NamedRow f
named_row f = record { long = words_length f; first = first_by f.own f.place; place = last_by f.own f.place }
