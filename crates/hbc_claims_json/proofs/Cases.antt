-- The worked arrays, by computation.
use mathlib.Core.Path.{refl}
use Rattle.hbc_io.specs.Lends.{below}
use Rattle.hbc_rows.specs.Rows.{row_at}
use Rattle.hbc_table_bytes.specs.StringBytes.{span_at, string_bytes}
use Rattle.hbc_text_forms.specs.Utf8.{row_of, passed, whole, written, text_after, utf8_text}
use Rattle.hbc_text_forms.specs.Scalars.{encode, encode_all}
use Rattle.hbc_text_forms.specs.Utf16.{units, pair_of, alone, scalars, utf16_text}
use Rattle.hbc_text_forms.specs.Text.{text_answer, over}
use Rattle.hbc_text.specs.StringText.{is_wide, string_text}
use Rattle.hbc_json_forms.specs.Json.{escape, escaped, quoted, commas, listed, array}
use Rattle.hbc_json.specs.StringsJson.{texts_from, texts, strings_json, strings_json_answer}
use Rattle.hbc_claims_law.specs.Law.{All}
use Rattle.hbc_claims_json.specs.Cases.{cases}

pub hold : All cases
unfolding strings_json_answer strings_json texts texts_from array listed commas quoted escaped escape below text_answer over row_at span_at string_bytes is_wide string_text row_of passed whole written text_after utf8_text encode encode_all units pair_of alone scalars utf16_text
hold =
    (refl, (refl, (refl, (refl, (refl, (refl, (refl, (refl, (refl, (refl, (refl, (refl, (refl, (refl, ((refl, refl), ((refl, refl), ((refl, refl), ((refl, refl), ((refl, refl), ((refl, refl), tt))))))))))))))))))))
