-- The worked bundles, by computation.
use mathlib.Core.Path.{refl}
use Rattle.hbc_bits.specs.Bits.{le_at, field}
use Rattle.hbc_bits.specs.Fields.{fields_of}
use Rattle.hbc_io.specs.Lends.{below, choose}
use Rattle.hbc_io.specs.Plain.{plain_at}
use Rattle.hbc_rows.specs.Rows.{entry_at}
use Rattle.hbc_function_record.specs.Record.{inline_of, legacy_of, legacy_by, modern_of, modern_by, flags_of, overflowed, place_of, link_of, legacy_place, modern_place}
use Rattle.hbc_function_header.specs.Header.{ground_of, ground_at, where_of, where_at, record_at, function_at}
use Rattle.hbc_function_header.specs.Meets.{overlap}
use Rattle.hbc_function.specs.Table as functions
use Rattle.hbc_table_strings.specs.Entries.{long_one, lacks_pair, pair_at, entry_of, bytes_of}
use Rattle.hbc_table_strings.specs.Kinds.{run_kind}
use Rattle.hbc_table_strings.specs.Hermes.{run_length, lengths, first_past}
use Rattle.hbc_table_strings.specs.Row.{row_for, row_with, row_of}
use Rattle.hbc_table_strings.specs.Strings.{scan, lesser, decode_answer}
use Rattle.hbc_buffer_literal.specs.Literal.{width_of, literal_of}
use Rattle.hbc_buffer.specs.Series.{tag_at, head_at, run_at, step, after, value_at, series_answer}
use Rattle.hbc_lowest.specs.Lowest.{some, lowest_of}
use Rattle.hbc_clean_large.specs.Large.{early, shares, breaks_large}
use Rattle.hbc_clean_series.specs.Series.{passes_empty, holds_high, breaks_empty, breaks_string, read_all}
use Rattle.hbc_clean.specs.Strings.{breaks_runs, breaks_valid, read_strings}
use Rattle.hbc_clean.specs.Bundle.{verdict, check_bundle}
use Rattle.hbc_claims_law.specs.Law.{All}
use Rattle.hbc_claims_clean.specs.Cases.{cases}

pub hold : All cases
unfolding check_bundle verdict functions.read_answer functions.scan functions.step function_at record_at where_at where_of ground_at ground_of inline_of legacy_of legacy_by modern_of modern_by fields_of le_at field flags_of overflowed place_of link_of legacy_place modern_place overlap below choose entry_at lowest_of some early shares breaks_large breaks_runs run_length lengths breaks_valid read_strings decode_answer scan lesser lacks_pair long_one pair_at entry_of bytes_of row_of row_with row_for first_past run_kind breaks_empty passes_empty breaks_string holds_high read_all series_answer after step run_at head_at tag_at plain_at width_of literal_of value_at
hold = (refl, (refl, (refl, (refl, (refl, (refl, (refl, (refl, (refl, (refl, (refl, (refl, (refl, (refl, (refl, (refl, (refl, (refl, (refl, (refl, (refl, (refl, (refl, (refl, (refl, (refl, (refl, (refl, tt))))))))))))))))))))))))))))
