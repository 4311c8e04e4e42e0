-- The worked cases, by computation.
use Prim.Native.Nat.{ℕ, ◌+◌, ◌≤◌}
use mathlib.Core.Path.{◌≡◌, refl, ap, sym, ◌∙◌, subst}
use mathlib.Core.List.{List}
use native.Mathlib.Omega.{arith}
use lib.ListN.{length}
use lib.Bits.{or_shifted}
use lib.Dec.{lit<}
use Rattle.hbc_bits.specs.Fields.{fields_of, joined, fit, laid}
use Rattle.hbc_claims_law.specs.Law.{All}
use Rattle.hbc_claims_law.specs.Terms.{packed_at}
use Rattle.hbc_claims_function.proofs.Packed as packs
use Rattle.hbc_io.specs.Answer.{gives}
use Rattle.hbc_function_record.specs.declared.Layout.TheVariants.{Legacy16, Modern12}
use Rattle.hbc_bits.specs.Bits.{le_at, field}
use Rattle.hbc_io.specs.Lends.{below, choose}
use Rattle.hbc_io.specs.Plain.{plain_at}
use Rattle.hbc_io_leb.specs.Leb.{leb_bytes}
use Rattle.hbc_function_record.specs.Record.{large_of, legacy_of, modern_of, inline_of, legacy_large, modern_large, large_at, flags_of, overflowed, legacy_place, modern_place, place_of, link_of, legacy_by, modern_by}
use Rattle.hbc_function_header.specs.Header.{ground_of, ground_at, where_of, where_at, large_found, record_at, function_at, read_function}
use Rattle.hbc_function_record.specs.Row.{legacy_words, modern_words, row_words}
use Rattle.hbc_function_header.specs.Meets.{overlap, ground_meets, meets}
use Rattle.hbc_function_totals.specs.Totals.{large_row, size_row, sum, exchanged, next, kept}
use Rattle.hbc_function.specs.Table as functions
use Rattle.hbc_function.specs.Refresh.{held, refresh_answer}
use Rattle.hbc_rows.specs.Rows.{entry_at, filled, put, row_at, put_row, put_rows}
use Rattle.hbc_function_bytes.specs.Bytes.{values_in, goes_inline, inline_number, inline_bytes, large_bytes, pointer_to, right_row}
use Rattle.hbc_function_write.specs.Write.{free_at, place_at, end_at, head_of, put_large, put_header, put_headers, right_end, checked, follows, write_answer}
use Rattle.hbc_table_strings.specs.Kinds.{run_kind, holding, moved_on, held_at, kind_of}
use Rattle.hbc_table_strings.specs.Entries.{long_one, pairs_taken, lacks_pair, pair_at, entry_of, bytes_of}
use Rattle.hbc_table_strings.specs.Hermes.{run_length, lengths, first_past}
use Rattle.hbc_table_strings.specs.Row.{row_for, row_with, row_of}
use Rattle.hbc_table_strings.specs.Strings.{scan, lesser, decode_answer}
use Rattle.hbc_text_forms.specs.Utf8.{row_of as row_of_byte, passed, whole, written, text_after, utf8_text}
use Rattle.hbc_text_forms.specs.Scalars.{encode, encode_all}
use Rattle.hbc_text_forms.specs.Utf16.{units, pair_of, alone, scalars, utf16_text}
use Rattle.hbc_text_forms.specs.Text.{text_answer, over, put_answer}
use Rattle.hbc_table_bytes.specs.StringBytes.{span_at, string_bytes}
use Rattle.hbc_text.specs.StringText.{is_wide, string_text}
use Rattle.hbc_buffer_literal.specs.Literal.{width_of, literal_of}
use Rattle.hbc_buffer.specs.Series.{tag_at, head_at, run_at, step, after, value_at, series_answer}
use Rattle.hbc_parsing_handlers.specs.Why.{counted, table_at, why_at, why, why_answer}
use Rattle.hbc_claims.specs.Cases.{legacy_head, modern_head, cases}

-- P3 and P4 are read from their packed places
legacy_placed : (s : List ℕ) → 65552 + large_of Legacy16 ≤ length (legacy_head s) → function_at (legacy_head s) Legacy16 0 0 ≡ gives (large_found (legacy_head s) Legacy16 65552 0)
unfolding function_at inline_of legacy_of legacy_by fields_of le_at field flags_of overflowed place_of legacy_place
legacy_placed s h = packs.large (legacy_head s) Legacy16 0 0 (omega arith) refl h

modern_placed : (s : List ℕ) → 16777248 + large_of Modern12 ≤ length (modern_head s)
    → function_at (modern_head s) Modern12 0 0 ≡ gives (large_found (modern_head s) Modern12 16777248 0)
unfolding function_at inline_of modern_of modern_by fields_of le_at field flags_of overflowed place_of modern_place
modern_placed s h =
    let q : packed_at (modern_head s) Modern12 0 ≡ 16777248 = or_shifted 1 24 32 (lit< tt) in
    packs.large (modern_head s) Modern12 0 0 (omega arith) refl (subst (λ (p : ℕ). p + large_of Modern12 ≤ length (modern_head s)) (sym q) h) ∙ ap (λ (p : ℕ). gives (large_found (modern_head s) Modern12 p 0)) q

pub hold : All cases
unfolding read_function functions.read_answer functions.scan functions.step functions.put_rows refresh_answer held meets ground_meets ground_at overlap kept next exchanged sum large_row size_row legacy_words modern_words row_words function_at record_at where_at where_of ground_of inline_of large_at flags_of place_of link_of legacy_of modern_of legacy_large modern_large legacy_place modern_place le_at field overflowed below choose decode_answer lesser scan lacks_pair row_of row_with row_for entry_of bytes_of long_one pairs_taken run_length lengths first_past pair_at kind_of run_kind moved_on held_at holding entry_at put_row put_rows series_answer filled value_at after step run_at head_at tag_at plain_at width_of literal_of leb_bytes legacy_by modern_by fields_of joined fit laid put row_at values_in goes_inline inline_number inline_bytes large_bytes pointer_to right_row free_at place_at end_at head_of put_large put_header put_headers right_end checked follows write_answer row_of_byte passed whole written text_after utf8_text encode encode_all units pair_of alone scalars utf16_text text_answer over put_answer span_at string_bytes is_wide string_text counted table_at why_at why why_answer
hold =
    (refl, (refl, ((refl, legacy_placed), ((or_shifted 1 24 32 (lit< tt), modern_placed), ((refl, refl, refl, refl, refl), ((refl, refl, refl, refl, refl), ((refl, refl, refl, refl, refl), ((refl, refl, refl, refl, refl), ((refl, refl), ((refl, refl), ((refl, refl), ((refl, refl), ((refl, refl), (refl, (refl, (refl, ((refl, refl), ((refl, refl), ((refl, refl), ((refl, or_shifted 1 24 32 (lit< tt)), ((refl, refl), ((refl, refl), ((refl, refl), ((refl, refl), ((refl, refl), ((refl, refl), ((refl, refl), ((refl, refl), ((refl, refl), ((refl, refl), ((refl, refl), ((refl, refl), ((refl, refl), ((refl, refl), (refl, (refl, (refl, (refl, (refl, (refl, (refl, (refl, (refl, (refl, (refl, (refl, (refl, (refl, (refl, (refl, (refl, (refl, ((refl, refl), ((refl, refl), ((refl, refl), ((refl, refl), ((refl, refl), ((refl, refl), ((refl, refl), ((refl, refl), ((refl, refl), ((refl, refl), ((refl, refl), ((refl, refl), ((refl, refl), ((refl, refl), ((refl, refl), ((refl, refl), ((refl, refl), ((refl, refl), ((refl, refl), ((refl, refl), ((refl, refl), (refl, ((refl, refl), ((refl, refl), ((refl, refl), ((refl, refl), ((refl, refl), ((refl, refl), ((refl, refl), ((refl, refl), ((refl, refl), ((refl, refl), ((refl, refl), ((refl, refl), ((refl, refl), ((refl, refl), ((refl, refl), ((refl, refl), ((refl, refl), ((refl, refl), (((refl, refl, refl), (refl, refl, refl)), (refl, (((refl, refl, refl), (refl, refl, refl)), (((refl, refl, refl), (refl, refl, refl)), (((refl, refl, refl), (refl, refl, refl)), (((refl, refl, refl), (refl, refl, refl)), (((refl, refl, refl), (refl, refl, refl)), (((refl, refl, refl), (refl, refl, refl)), ((refl, refl, refl), ((refl, refl, refl), ((refl, refl, refl), (((refl, refl, refl), (refl, refl, refl)), (((refl, refl, refl), (refl, refl, refl)), (((refl, refl, refl), (refl, refl, refl)), (((refl, refl, refl), (refl, refl, refl)), tt)))))))))))))))))))))))))))))))))))))))))))))))))))))))))))))))))))))))))))))))))))))))))))))))))))))))))))
