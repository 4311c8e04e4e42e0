-- docs/FORMAT.md, section 10.1: the worked cases that are proved, P1 to P10, W1 to W5, of which Wn is Pn the other way round, H1 and H2, on which
-- the modes of decoding strings differ, T1 to T8, texts, Y1 to Y8, why a function has no handlers, S1 to S7, the totals beside a table, and R1 to R9, two
-- refreshes in either order, in one list under one statement. A case is any statement over the promises' definitions.
use Rattle.std.specs.Prelude.{ℕ, zero, suc, ◌+◌, ◌-◌, ◌*◌, ◌^◌, ◌≤◌, ◌≡◌, List, [], ◌∷◌, ◌++◌, pos, negsuc, length, replicate, take, Result, Ok, Err}
use Rattle.hbc_claims_law.specs.Terms.{packed_at}
use Rattle.hbc_claims_function.specs.Packed.{legacy, modern}
use Rattle.hbc_io.specs.Outcome.{got, valued, cursor_at}
use Rattle.hbc_io.specs.Answer.{Answer, gives, refused_at}
use Rattle.hbc_io.specs.Lends.{written}
use Rattle.hbc_io_leb.specs.Leb.{leb_bytes, signed_of}
use Rattle.hbc_function_record.specs.declared.Layout.{Layout}
use Rattle.hbc_function_record.specs.declared.Layout.TheVariants.{Legacy16, Modern12}
use Rattle.hbc_function_record.specs.declared.Record.{Record}
use Rattle.hbc_function_record.specs.declared.Found.{Found}
use Rattle.hbc_function_record.specs.declared.Record.TheVariants as rec
use Rattle.hbc_function_record.specs.Record.{large_of, legacy_place, modern_place}
use Rattle.hbc_function_record.specs.Row.{width, record_width, inline, row_words, found_at}
use Rattle.hbc_function_header.specs.Header.{large_found, function_at, read_function}
use Rattle.hbc_function_totals.specs.Totals.{totals}
use Rattle.hbc_function.specs.Table as functions
use Rattle.hbc_function.specs.Refresh.{refresh_answer, refreshed_by}
use Rattle.hbc_rows.specs.Rows.{row_at}
use Rattle.hbc_function_bytes.specs.Bytes.{inline_bytes}
use Rattle.hbc_function_write.specs.Write.{head_of, put_headers, write_answer}
use Rattle.hbc_table_strings.specs.declared.Mode.{Mode}
use Rattle.hbc_table_strings.specs.declared.Mode.TheVariants.{InOrder, Hermes}
use Rattle.hbc_table_strings.specs.Strings.{lesser, decode_answer, decoded_rows}
use Rattle.hbc_text_forms.specs.Utf8.{replacement, utf8_text}
use Rattle.hbc_text_forms.specs.Utf16.{utf16_text}
use Rattle.hbc_text_forms.specs.Text.{over, put_answer}
use Rattle.hbc_text.specs.StringText.{string_text}
use Rattle.hbc_buffer.specs.Series.{series_answer, series_tables}
use Rattle.hbc_parsing_handlers.specs.declared.Reason.{Reason}
use Rattle.hbc_parsing_handlers.specs.declared.Reason.TheVariants as reason
use Rattle.hbc_parsing_handlers.specs.declared.Table.{Table as Triples}
use Rattle.hbc_parsing_handlers.specs.Why.{table, why_answer}
use Rattle.hbc_c_parsing.specs.Parsing.{why_number}

-- function 0 of the table at 0 (P1, P2, P5) is answered by `read_function`, with the place of its large header, which is the last word of its row

-- the headers of P3 and P4, flagged, and behind them whatever the file has
abbrev pub legacy_head : List ℕ → List ℕ
legacy_head s = 16 ∷ 0 ∷ 1 ∷ 4 ∷ 10 ∷ 128 ∷ 1 ∷ 0 ∷ 1 ∷ 0 ∷ 0 ∷ 10 ∷ 1 ∷ 2 ∷ 3 ∷ 36 ∷ s

abbrev pub modern_head : List ℕ → List ℕ
modern_head s = 32 ∷ 0 ∷ 0 ∷ 69 ∷ 10 ∷ 64 ∷ 0 ∷ 41 ∷ 6 ∷ 7 ∷ 72 ∷ 36 ∷ s

-- the packed place of a record (P3, P4); and the function with such a header is read from there, and found with that place, in every file that is long enough
abbrev pub Placed : Layout → ℕ → (List ℕ → List ℕ) → ℕ → Type 0
Placed layout packed head place =
    (packed ≡ place)
    × ((s : List ℕ) → place + large_of layout ≤ length (head s)
    → function_at (head s) layout 0 0 ≡ gives (large_found (head s) layout place 0))

-- a flagged header at 0 that names the place behind it, and so many zeros there
abbrev pub modern_file : ℕ → List ℕ
modern_file zeros = 12 ∷ replicate 10 0 ++ 32 ∷ replicate zeros 0

abbrev pub legacy_file : ℕ → List ℕ
legacy_file zeros = 16 ∷ replicate 14 0 ++ 32 ∷ replicate zeros 0

-- one function of the table at 0, whose packed place is this, in a file of so many bytes: what it is read as, and what a table of one row becomes
abbrev pub Large : Layout → List ℕ → ℕ → ℕ → Answer Found → Answer (Unit {0}) → List ℕ → Type 0
Large layout s place bytes one all row =
    (packed_at s layout 0 ≡ place) × (length s ≡ bytes) × (read_function s layout 0 0 ≡ one) × (functions.read_answer s layout 0 1 width ≡ all)
    × (written (functions.read_answer s layout 0 1 width) (functions.put_rows functions.all (function_at s layout 0) (replicate width 9) 1)
    (replicate width 9) ≡ row)

-- so many strings of these runs, small entries and pairs, storage of four bytes, over a lent table: the answer, and the table afterwards
abbrev pub DecodesIn : Mode → ℕ → List ℕ → List ℕ → List ℕ → List ℕ → Answer ℕ → List ℕ → Type 0
DecodesIn mode count kinds small pairs before answer after =
    (decode_answer mode count small pairs (replicate 4 0) before ≡ answer)
    × (written (decode_answer mode count small pairs (replicate 4 0) before)
    (decoded_rows mode kinds small pairs 4 (lesser count (length small)) before) before ≡ after)

-- accepted in the old mode, without pairs
abbrev pub Decodes : ℕ → List ℕ → List ℕ → List ℕ → List ℕ → Type 0
Decodes count kinds small before after = DecodesIn InOrder count kinds small [] before (gives count) after

-- a buffer, read from its first byte into two tables of as many zeros as values: the bytes used, the kinds, the payloads
abbrev pub Reads : List ℕ → ℕ → ℕ → List ℕ → List ℕ → Type 0
Reads s count used kinds payloads =
    (series_answer s 0 count count count ≡ gives used)
    × (◌≡◌ {A = List ℕ × List ℕ} (series_tables s 0 count (replicate count 0) (replicate count 0)) (kinds, payloads))

-- a record's row written as a table of one at 0, its large header from a place on, over so many bytes of 9: the answer, and the bytes afterwards. The
-- row's last word is 9, which is no place of anything here
abbrev pub row_of : Record → List ℕ
row_of r = row_words (found_at 9 r)

abbrev pub Writes : Layout → Record → ℕ → ℕ → Answer ℕ → List ℕ → Type 0
Writes layout r large bytes answer after =
    (write_answer (row_of r) layout 0 1 large (replicate bytes 9) ≡ answer)
    × (written (write_answer (row_of r) layout 0 1 large (replicate bytes 9))
    (put_headers layout (row_at width (row_of r)) 0 large 1 (replicate bytes 9)) (replicate bytes 9) ≡ after)

-- the inline header of a record's row whose large header is at a place: its bytes, and their packed place
abbrev pub Points : Layout → Record → ℕ → List ℕ → Type 0
Points layout r place bytes = (inline_bytes layout (head_of layout (row_at width (row_of r)) place 0) ≡ bytes) × (packed_at bytes layout 0 ≡ place)

-- so many of the same after another
abbrev times : ℕ → List ℕ → List ℕ
times zero s = []
times (suc n) s = s ++ times n s

-- the text of bytes of UTF-8 put over so many bytes of 9: the answer, and the bytes afterwards
abbrev pub PutsIn : List ℕ → ℕ → Answer ℕ → List ℕ → Type 0
PutsIn s bytes answer after =
    (put_answer (utf8_text s) s bytes ≡ answer)
    × (written (put_answer (utf8_text s) s bytes) (over (utf8_text s) (replicate bytes 9)) (replicate bytes 9) ≡ after)

-- a function with this info_offset and these flags, in a row whose other words are 9: why it has no handlers, or those that it has, and the export's number
abbrev pub IsWhy : List ℕ → ℕ → ℕ → Result Triples Reason → ℕ → Type 0
IsWhy s info flags v number = (why_answer s (replicate 6 9 ++ info ∷ 9 ∷ flags ∷ replicate (width - 9) 9) 0 ≡ gives v) × (why_number v ≡ number)

-- 48 zeros, a count in two bytes, and so many zeros more
abbrev pub counting : ℕ → ℕ → ℕ → List ℕ
counting low high more = replicate 48 0 ++ low ∷ high ∷ replicate more 0

-- a legacy header that is not flagged, of a function of size 10 (P1), and a flagged one that names place 32; there, a large header of size 20
abbrev pub legacy_own : List ℕ
legacy_own = 0 ∷ 1 ∷ 0 ∷ 4 ∷ 10 ∷ 128 ∷ 1 ∷ 0 ∷ 0 ∷ 0 ∷ 0 ∷ 10 ∷ 1 ∷ 2 ∷ 3 ∷ 4 ∷ []

abbrev pub legacy_flagged : List ℕ
legacy_flagged = 32 ∷ replicate 14 0 ++ 32 ∷ []

abbrev pub legacy_behind : List ℕ
legacy_behind = replicate 8 0 ++ 20 ∷ replicate 22 0

-- a file of two functions, the second read from the large header; and the same file after an edit, which makes it inline
abbrev pub legacy_two : List ℕ
legacy_two = legacy_own ++ legacy_flagged ++ legacy_behind

abbrev pub legacy_edited : List ℕ
legacy_edited = legacy_own ++ legacy_own ++ legacy_behind

-- a modern one of three: of size 10 (P2), flagged with place 36, where a large header of size 300 is, and of size 10 again
abbrev pub modern_own : List ℕ
modern_own = 0 ∷ 1 ∷ 0 ∷ 68 ∷ 10 ∷ 192 ∷ 0 ∷ 41 ∷ 6 ∷ 7 ∷ 72 ∷ 4 ∷ []

abbrev pub modern_three : List ℕ
modern_three = modern_own ++ 36 ∷ replicate 10 0 ++ 32 ∷ modern_own ++ replicate 12 0 ++ 44 ∷ 1 ∷ replicate 23 0

-- the words of so many rows, read from 0 on
abbrev pub rows_read : Layout → List ℕ → ℕ → List ℕ
rows_read layout s count = functions.put_rows functions.all (function_at s layout 0) (replicate (count * width) 9) count

-- so many functions of the table at 0, read into words of 9 and two totals of 7: the answer, and the totals afterwards
abbrev pub Sums : Layout → List ℕ → ℕ → Answer (Unit {0}) → ℕ → ℕ → Type 0
Sums layout s count answer large sizes =
    (functions.read_answer s layout 0 count (count * width) ≡ answer)
    × ((written (functions.read_answer s layout 0 count (count * width)) (functions.summed (rows_read layout s count) count)
    (functions.lent (replicate (count * width) 9) 7 7)).totals ≡ totals large sizes)

-- functions of the table at 0, refreshed where they meet a span, in a table of these rows with these totals: the answer, and the totals afterwards
abbrev pub RefreshesIn : Layout → ℕ → List ℕ → ℕ → ℕ → functions.Table → Answer ℕ → ℕ → ℕ → Type 0
RefreshesIn layout count s low high t answer large sizes =
    (refresh_answer s layout 0 count low high t ≡ answer)
    × ((written (refresh_answer s layout 0 count low high t) (refreshed_by s layout 0 count low high t) t).totals ≡ totals large sizes)

-- two of the legacy table
abbrev pub Refreshes : List ℕ → ℕ → ℕ → functions.Table → Answer ℕ → ℕ → ℕ → Type 0
Refreshes = RefreshesIn Legacy16 2

abbrev pub two_with : ℕ → ℕ → functions.Table
two_with large sizes = functions.lent (rows_read Legacy16 legacy_two 2) large sizes

-- an inline header of a function of this size, legacy (P1's but for that) and modern (P2's)
abbrev pub legacy_sized : ℕ → List ℕ
legacy_sized size = 0 ∷ 1 ∷ 0 ∷ 4 ∷ size ∷ 128 ∷ 1 ∷ 0 ∷ 0 ∷ 0 ∷ 0 ∷ 10 ∷ 1 ∷ 2 ∷ 3 ∷ 4 ∷ []

abbrev pub modern_sized : ℕ → List ℕ
modern_sized size = 0 ∷ 1 ∷ 0 ∷ 68 ∷ size ∷ 192 ∷ 0 ∷ 41 ∷ 6 ∷ 7 ∷ 72 ∷ 4 ∷ []

-- two functions, the first of one size, the second of another in a large header far behind the table, at byte 300
abbrev pub legacy_far : ℕ → ℕ → List ℕ
legacy_far own far = legacy_sized own ++ 44 ∷ 1 ∷ replicate 13 0 ++ 32 ∷ replicate 276 0 ++ far ∷ replicate 22 0

abbrev pub modern_far : ℕ → ℕ → List ℕ
modern_far own far = modern_sized own ++ 44 ∷ 1 ∷ replicate 9 0 ++ 32 ∷ replicate 288 0 ++ far ∷ replicate 24 0

-- the legacy one of sizes 12 and 21, but for a first header that is flagged and names a place past the end
abbrev pub legacy_lost : List ℕ
legacy_lost = 0 ∷ 255 ∷ replicate 13 0 ++ 32 ∷ 44 ∷ 1 ∷ replicate 13 0 ++ 32 ∷ replicate 276 0 ++ 21 ∷ replicate 22 0

-- a table of the two that is read from such a file, with these totals
abbrev pub legacy_table : ℕ → ℕ → ℕ → ℕ → functions.Table
legacy_table own far large sizes = functions.lent (rows_read Legacy16 (legacy_far own far) 2) large sizes

abbrev pub modern_table : ℕ → ℕ → ℕ → ℕ → functions.Table
modern_table own far large sizes = functions.lent (rows_read Modern12 (modern_far own far) 2) large sizes

-- and one of two inline functions, of sizes 10 and 20
abbrev pub legacy_near : functions.Table
legacy_near = functions.lent (rows_read Legacy16 (legacy_sized 10 ++ legacy_sized 20) 2) 0 30

abbrev pub modern_near : functions.Table
modern_near = functions.lent (rows_read Modern12 (modern_sized 10 ++ modern_sized 20) 2) 0 30

-- what a refresh leaves of a table, and what one after another answers and leaves
abbrev pub left_of : Layout → List ℕ → ℕ → ℕ → functions.Table → functions.Table
left_of layout s low high t = written (refresh_answer s layout 0 2 low high t) (refreshed_by s layout 0 2 low high t) t

abbrev pub InTurn : Layout → List ℕ → ℕ → ℕ → ℕ → ℕ → functions.Table → Answer ℕ → Answer ℕ → functions.Table → Type 0
InTurn layout s low₁ high₁ low₂ high₂ t first second after =
    (refresh_answer s layout 0 2 low₁ high₁ t ≡ first) × (refresh_answer s layout 0 2 low₂ high₂ (left_of layout s low₁ high₁ t) ≡ second)
    × (left_of layout s low₂ high₂ (left_of layout s low₁ high₁ t) ≡ after)

-- the same in the other order
abbrev pub InEither : Layout → List ℕ → ℕ → ℕ → ℕ → ℕ → functions.Table → Answer ℕ → Answer ℕ → functions.Table → Type 0
InEither layout s low₁ high₁ low₂ high₂ t first second after =
    InTurn layout s low₁ high₁ low₂ high₂ t first second after × InTurn layout s low₂ high₂ low₁ high₁ t second first after

-- of a table read from sizes 10 and 20, with true totals, and a file with 12 and 21
abbrev pub InLegacy : ℕ → ℕ → ℕ → ℕ → Answer ℕ → Answer ℕ → functions.Table → Type 0
InLegacy low₁ high₁ low₂ high₂ = InEither Legacy16 (legacy_far 12 21) low₁ high₁ low₂ high₂ (legacy_table 10 20 1 30)

abbrev pub InModern : ℕ → ℕ → ℕ → ℕ → Answer ℕ → Answer ℕ → functions.Table → Type 0
InModern low₁ high₁ low₂ high₂ = InEither Modern12 (modern_far 12 21) low₁ high₁ low₂ high₂ (modern_table 10 20 1 30)

abbrev pub cases : List {1} (Type 0)
cases =
    -- P1
    (read_function (0 ∷ 1 ∷ 0 ∷ 4 ∷ 10 ∷ 128 ∷ 1 ∷ 0 ∷ 0 ∷ 0 ∷ 0 ∷ 10 ∷ 1 ∷ 2 ∷ 3 ∷ 4 ∷ []) Legacy16 0 0
    ≡ gives (found_at inline (rec.Legacy (legacy 256 2 10 3 0 5 1 2 3 4))))
    -- P2
    ∷ (read_function (0 ∷ 1 ∷ 0 ∷ 68 ∷ 10 ∷ 192 ∷ 0 ∷ 41 ∷ 6 ∷ 7 ∷ 72 ∷ 4 ∷ []) Modern12 0 0
    ≡ gives (found_at inline (rec.Modern (modern 256 2 1 10 3 4 5 6 7 8 1 0 4 0))))
    -- P3
    ∷ Placed Legacy16 (legacy_place (legacy 65552 2 10 3 1 5 1 2 3 4)) legacy_head 65552
    -- P4
    ∷ Placed Modern12 (modern_place (modern 16777248 2 1 10 1 4 5 6 7 8 1 0 4 0)) modern_head 16777248
    -- P5
    ∷ Large Modern12 (modern_file 37) 12 49 (gives (found_at 12 (rec.Modern (modern 0 0 0 0 0 0 0 0 0 0 0 0 0 52)))) (gives tt)
    (1 ∷ replicate 5 0 ++ 52 ∷ replicate 9 0 ++ 12 ∷ [])
    ∷ Large Modern12 (modern_file 36) 12 48 (refused_at 3 0) (refused_at 3 0) (replicate width 9)
    ∷ Large Legacy16 (legacy_file 31) 16 47 (gives (found_at 16 (rec.Legacy (legacy 0 0 0 0 0 0 0 0 0 0)))) (gives tt) (replicate record_width 0 ++ 16 ∷ [])
    ∷ Large Legacy16 (legacy_file 30) 16 46 (refused_at 3 0) (refused_at 3 0) (replicate width 9)
    -- P6: start 3 length 0 is valid, start 4 length 0 is not
    ∷ Decodes 1 [] (6 ∷ []) (9 ∷ 9 ∷ 9 ∷ 9 ∷ []) (3 ∷ 0 ∷ 0 ∷ 0 ∷ [])
    ∷ Decodes 1 [] (8 ∷ []) (9 ∷ 9 ∷ 9 ∷ 9 ∷ []) (0 ∷ 0 ∷ 1 ∷ 0 ∷ [])
    -- P7: the second string is an identifier; the lent word behind the rows stays
    ∷ Decodes 3 (1 ∷ 2147483648 ∷ 1 ∷ []) (0 ∷ 0 ∷ 0 ∷ []) (replicate 13 9) (0 ∷ 0 ∷ 0 ∷ 0 ∷ 0 ∷ 0 ∷ 0 ∷ 2 ∷ 0 ∷ 0 ∷ 0 ∷ 0 ∷ 9 ∷ [])
    -- P8
    ∷ Reads (0x72 ∷ 5 ∷ 0 ∷ 0 ∷ 0 ∷ 0xFF ∷ 0xFF ∷ 0xFF ∷ 0xFF ∷ 0x11 ∷ []) 3 10 (5 ∷ 5 ∷ 1 ∷ []) (5 ∷ 4294967295 ∷ 0 ∷ [])
    -- P9
    ∷ Reads (0x81 ∷ 0x02 ∷ []) 258 2 (replicate 258 0) (replicate 258 0)
    -- P10
    ∷ (valued signed_of (leb_bytes (0x80 ∷ 0x7F ∷ []) (cursor_at 0)) ≡ got (negsuc 127) (cursor_at 2))
    ∷ (valued signed_of (leb_bytes (0x40 ∷ []) (cursor_at 0)) ≡ got (negsuc 63) (cursor_at 1))
    ∷ (valued signed_of (leb_bytes (replicate 9 0x80 ++ (0x02 ∷ [])) (cursor_at 0)) ≡ got (pos 0) (cursor_at 10))
    -- W1: the row of P1, with no large header
    ∷ Writes Legacy16 (rec.Legacy (legacy 256 2 10 3 0 5 1 2 3 4)) 16 16 (gives 16) (0 ∷ 1 ∷ 0 ∷ 4 ∷ 10 ∷ 128 ∷ 1 ∷ 0 ∷ 0 ∷ 0 ∷ 0 ∷ 10 ∷ 1 ∷ 2 ∷ 3 ∷ 4 ∷ [])
    -- W2: that of P2
    ∷ Writes Modern12 (rec.Modern (modern 256 2 1 10 3 4 5 6 7 8 1 0 4 0)) 12 12 (gives 12) (0 ∷ 1 ∷ 0 ∷ 68 ∷ 10 ∷ 192 ∷ 0 ∷ 41 ∷ 6 ∷ 7 ∷ 72 ∷ 4 ∷ [])
    -- W3: a large header at P3's place: info_offset 1, offset 16
    ∷ Points Legacy16 (rec.Legacy (legacy 0 0 0 0 0 0 0 0 0 32)) 65552 (16 ∷ replicate 7 0 ++ 1 ∷ replicate 6 0 ++ 32 ∷ [])
    -- W4: one at P4's: name 1, offset 32
    ∷ Points Modern12 (rec.Modern (modern 0 0 0 0 0 0 0 0 0 0 0 0 0 16777288)) 16777248 (32 ∷ replicate 4 0 ++ 64 ∷ replicate 5 0 ++ 32 ∷ [])
    -- W5: P5's rows, the legacy one with its overflow bit set, else it would go inline
    ∷ Writes Modern12 (rec.Modern (modern 0 0 0 0 0 0 0 0 0 0 0 0 0 52)) 12 49 (gives 49) (modern_file 37)
    ∷ Writes Modern12 (rec.Modern (modern 0 0 0 0 0 0 0 0 0 0 0 0 0 52)) 12 48 (refused_at 4 0) (replicate 48 9)
    ∷ Writes Legacy16 (rec.Legacy (legacy 0 0 0 0 0 0 0 0 0 32)) 16 47 (gives 47) (legacy_file 30 ++ 32 ∷ [])
    ∷ Writes Legacy16 (rec.Legacy (legacy 0 0 0 0 0 0 0 0 0 32)) 16 46 (refused_at 4 0) (replicate 46 9)
    -- H1: the modes differ by the pair. One string with the number 1, of one pair and of two; and two strings that share one
    ∷ DecodesIn InOrder 1 [] (0xFF000002 ∷ []) (1 ∷ 2 ∷ []) (replicate 4 9) (gives 1) (1 ∷ 2 ∷ 0 ∷ 0 ∷ [])
    ∷ DecodesIn Hermes 1 [] (0xFF000002 ∷ []) (1 ∷ 2 ∷ []) (replicate 4 9) (refused_at 8 0) (replicate 4 9)
    ∷ DecodesIn InOrder 1 [] (0xFF000002 ∷ []) (0 ∷ 1 ∷ 1 ∷ 2 ∷ []) (replicate 4 9) (gives 1) (0 ∷ 1 ∷ 0 ∷ 0 ∷ [])
    ∷ DecodesIn Hermes 1 [] (0xFF000002 ∷ []) (0 ∷ 1 ∷ 1 ∷ 2 ∷ []) (replicate 4 9) (gives 1) (1 ∷ 2 ∷ 0 ∷ 0 ∷ [])
    ∷ DecodesIn InOrder 2 [] (0xFF000000 ∷ 0xFF000000 ∷ []) (1 ∷ 2 ∷ []) (replicate 8 9) (refused_at 8 1) (replicate 8 9)
    ∷ DecodesIn Hermes 2 [] (0xFF000000 ∷ 0xFF000000 ∷ []) (1 ∷ 2 ∷ []) (replicate 8 9) (gives 2) (1 ∷ 2 ∷ 0 ∷ 0 ∷ 1 ∷ 2 ∷ 0 ∷ 0 ∷ [])
    -- H2: they differ by the run. One string; two runs, both empty, the second of identifiers; and two empty ones before one of an identifier
    ∷ DecodesIn InOrder 1 (0 ∷ 0x80000000 ∷ []) (0 ∷ []) [] (replicate 4 9) (gives 1) (0 ∷ 0 ∷ 0 ∷ 2 ∷ [])
    ∷ DecodesIn Hermes 1 (0 ∷ 0x80000000 ∷ []) (0 ∷ []) [] (replicate 4 9) (gives 1) (0 ∷ 0 ∷ 0 ∷ 0 ∷ [])
    ∷ DecodesIn InOrder 1 (0 ∷ 0 ∷ 0x80000001 ∷ []) (0 ∷ []) [] (replicate 4 9) (gives 1) (0 ∷ 0 ∷ 0 ∷ 0 ∷ [])
    ∷ DecodesIn Hermes 1 (0 ∷ 0 ∷ 0x80000001 ∷ []) (0 ∷ []) [] (replicate 4 9) (gives 1) (0 ∷ 0 ∷ 0 ∷ 2 ∷ [])
    -- T1: the Standard's own example of maximal ill-formed parts : three, then one, then two
    ∷ (utf8_text (0x61 ∷ 0xF1 ∷ 0x80 ∷ 0x80 ∷ 0xE1 ∷ 0x80 ∷ 0xC2 ∷ 0x62 ∷ 0x80 ∷ 0x63 ∷ 0x80 ∷ 0xBF ∷ 0x64 ∷ [])
    ≡ 0x61 ∷ replacement ++ replacement ++ replacement ++ 0x62 ∷ replacement ++ 0x63 ∷ replacement ++ replacement ++ 0x64 ∷ [])
    -- T2: a surrogate as three bytes, an overlong form and what is past the last code point: each byte is a part; and what stands at those borders
    ∷ (utf8_text (0xED ∷ 0xA0 ∷ 0x80 ∷ []) ≡ replacement ++ replacement ++ replacement)
    ∷ (utf8_text (0xC0 ∷ 0x80 ∷ []) ≡ replacement ++ replacement)
    ∷ (utf8_text (0xF4 ∷ 0x90 ∷ 0x80 ∷ 0x80 ∷ []) ≡ replacement ++ replacement ++ replacement ++ replacement)
    ∷ (utf8_text (0xED ∷ 0x9F ∷ 0xBF ∷ 0xC2 ∷ 0x80 ∷ 0xF4 ∷ 0x8F ∷ 0xBF ∷ 0xBF ∷ []) ≡ 0xED ∷ 0x9F ∷ 0xBF ∷ 0xC2 ∷ 0x80 ∷ 0xF4 ∷ 0x8F ∷ 0xBF ∷ 0xBF ∷ [])
    -- T3: UTF-16: the pair D83D DE00, the lone low surrogate DC00, 0061
    ∷ (utf16_text (0x3D ∷ 0xD8 ∷ 0x00 ∷ 0xDE ∷ 0x00 ∷ 0xDC ∷ 0x61 ∷ 0x00 ∷ []) ≡ 0xF0 ∷ 0x9F ∷ 0x98 ∷ 0x80 ∷ replacement ++ 0x61 ∷ [])
    -- T4: a high surrogate before a pair is alone, and so is one at the end
    ∷ (utf16_text (0x3D ∷ 0xD8 ∷ 0x3D ∷ 0xD8 ∷ 0x00 ∷ 0xDE ∷ 0x3D ∷ 0xD8 ∷ []) ≡ replacement ++ 0xF0 ∷ 0x9F ∷ 0x98 ∷ 0x80 ∷ replacement)
    ∷ (utf16_text (0x3D ∷ 0xD8 ∷ 0x3D ∷ 0xD8 ∷ 0x00 ∷ 0xDE ∷ []) ≡ replacement ++ 0xF0 ∷ 0x9F ∷ 0x98 ∷ 0x80 ∷ [])
    -- T5: an odd number of bytes
    ∷ (utf16_text (0x61 ∷ 0x00 ∷ 0x61 ∷ []) ≡ [])
    ∷ (utf16_text (0x61 ∷ []) ≡ [])
    -- T6: the examples of later editions of the Standard: forms that are not the shortest, surrogates, other ill-formed bytes, sequences cut short
    ∷ (utf8_text (0xC0 ∷ 0xAF ∷ 0xE0 ∷ 0x80 ∷ 0xBF ∷ 0xF0 ∷ 0x81 ∷ 0x82 ∷ 0x41 ∷ []) ≡ times 8 replacement ++ 0x41 ∷ [])
    ∷ (utf8_text (0xED ∷ 0xA0 ∷ 0x80 ∷ 0xED ∷ 0xBF ∷ 0xBF ∷ 0xED ∷ 0xAF ∷ 0x41 ∷ []) ≡ times 8 replacement ++ 0x41 ∷ [])
    ∷ (utf8_text (0xF4 ∷ 0x91 ∷ 0x92 ∷ 0x93 ∷ 0xFF ∷ 0x41 ∷ 0x80 ∷ 0xBF ∷ 0x42 ∷ []) ≡ times 5 replacement ++ 0x41 ∷ times 2 replacement ++ 0x42 ∷ [])
    ∷ (utf8_text (0xE1 ∷ 0x80 ∷ 0xE2 ∷ 0xF0 ∷ 0x91 ∷ 0x92 ∷ 0xF1 ∷ 0xBF ∷ 0x41 ∷ []) ≡ times 4 replacement ++ 0x41 ∷ [])
    -- T7: rows: as UTF-8, as UTF-16 with another mark set too, marked invalid, one byte past the storage
    ∷ (string_text (0x61 ∷ 0x00 ∷ []) (0 ∷ 2 ∷ 0 ∷ 2 ∷ []) 0 ≡ 0x61 ∷ 0x00 ∷ [])
    ∷ (string_text (0x61 ∷ 0x00 ∷ []) (0 ∷ 2 ∷ 0 ∷ 3 ∷ []) 0 ≡ 0x61 ∷ [])
    ∷ (string_text (0x61 ∷ 0x00 ∷ []) (0 ∷ 2 ∷ 7 ∷ 2 ∷ []) 0 ≡ [])
    ∷ (string_text (0x61 ∷ 0x00 ∷ []) (1 ∷ 2 ∷ 0 ∷ 2 ∷ []) 0 ≡ [])
    -- T8: a text put where there is room for it, with a byte to spare, and where there is not
    ∷ PutsIn (0x61 ∷ 0xFF ∷ []) 4 (gives 4) (0x61 ∷ replacement)
    ∷ PutsIn (0x61 ∷ 0xFF ∷ []) 5 (gives 4) (0x61 ∷ replacement ++ 9 ∷ [])
    ∷ PutsIn (0x61 ∷ 0xFF ∷ []) 3 (refused_at 4 0) (9 ∷ 9 ∷ 9 ∷ [])
    -- Y1: every bit but bit 3 is set, and info_offset is 0 too; Y2: the bit is set; 0 is at the end of no bytes, too
    ∷ IsWhy (replicate 64 0) 0 0xFFFFFFF7 (Err reason.FlagClear) 1
    ∷ IsWhy (replicate 64 0) 0 8 (Err reason.InfoZero) 2
    ∷ IsWhy [] 0 8 (Err reason.InfoZero) 2
    -- Y3: info_offset is the file's length; or behind it, where there is no room either
    ∷ IsWhy (replicate 64 0) 64 8 (Err reason.InfoPast) 3
    ∷ IsWhy [] 1 8 (Err reason.InfoPast) 3
    -- Y4: its last byte, and the first byte from which 64 is the next multiple of 4; and with one byte less in the file no room at 60 either
    ∷ IsWhy (replicate 64 0) 63 8 (Err reason.NoRoom) 4
    ∷ IsWhy (replicate 64 0) 61 8 (Err reason.NoRoom) 4
    ∷ IsWhy (replicate 63 0) 60 8 (Err reason.NoRoom) 4
    -- Y5: the last place with room for a count, which is 0
    ∷ IsWhy (replicate 64 0) 60 8 (Err reason.CountZero) 5
    ∷ IsWhy (replicate 64 0) 57 8 (Err reason.CountZero) 5
    -- Y6: 1001 is too many, cut or not; Y7: 1000 is not
    ∷ IsWhy (counting 0xE9 3 14) 45 8 (Err reason.CountHigh) 6
    ∷ IsWhy (counting 0xE9 3 12014) 45 8 (Err reason.CountHigh) 6
    ∷ IsWhy (counting 0xE8 3 14) 45 8 (Err reason.Cut) 7
    ∷ IsWhy (counting 0xE8 3 12001) 45 8 (Err reason.Cut) 7
    ∷ IsWhy (counting 0xE8 3 12002) 45 8 (Ok (table 1000 52)) 0
    -- Y8: two triples, in files of 64, of 75 and of 76 bytes; a second function has no row, though all words of one but the last are lent
    ∷ IsWhy (counting 2 0 14) 45 8 (Err reason.Cut) 7
    ∷ IsWhy (counting 2 0 25) 45 8 (Err reason.Cut) 7
    ∷ IsWhy (counting 2 0 26) 45 8 (Ok (table 2 52)) 0
    ∷ (why_answer (counting 2 0 26) (replicate (2 * width - 1) 8) 1 ≡ refused_at 11 0)
    -- S1: one of two functions is read from a large header; without the last byte the read is refused, and the totals are as they were
    ∷ Sums Legacy16 legacy_two 2 (gives tt) 1 30
    ∷ Sums Legacy16 (take 62 legacy_two) 2 (refused_at 3 1) 7 7
    -- S2: one of three; and of no function, none
    ∷ Sums Modern12 modern_three 3 (gives tt) 1 320
    ∷ Sums Modern12 modern_three 0 (gives tt) 0 0
    -- S3: S1's table, refreshed where the edit was: totals that were true are those of a fresh read. One byte of the header is enough, and one of the large
    -- header is not, since no function has it any more
    ∷ Refreshes legacy_edited 16 32 (two_with 1 30) (gives 1) 0 20
    ∷ Sums Legacy16 legacy_edited 2 (gives tt) 0 20
    ∷ Refreshes legacy_edited 31 32 (two_with 1 30) (gives 1) 0 20
    ∷ Refreshes legacy_edited 32 63 (two_with 1 30) (gives 0) 1 30
    -- S4: totals below what the old row adds: none large, or sizes of 19. The first such row is named
    ∷ Refreshes legacy_edited 16 32 (two_with 0 30) (refused_at 16 1) 0 30
    ∷ Refreshes legacy_edited 16 32 (two_with 1 19) (refused_at 16 1) 1 19
    ∷ Refreshes legacy_edited 0 32 (two_with 0 9) (refused_at 16 0) 0 9
    -- S5: the most that a total may be is 2^63 - 1, once the old row is out and the new one in
    ∷ Refreshes legacy_edited 16 32 (two_with 1 (2 ^ 63 + 9)) (gives 1) 0 (2 ^ 63 - 1)
    ∷ Refreshes legacy_edited 16 32 (two_with 1 (2 ^ 63 + 10)) (refused_at 16 1) 1 (2 ^ 63 + 10)
    ∷ Refreshes legacy_two 16 32 (functions.lent (rows_read Legacy16 legacy_edited 2) (2 ^ 63 - 1) 20) (refused_at 16 1) (2 ^ 63 - 1) 20
    -- S6: where no row is read again, any totals stay
    ∷ Refreshes legacy_edited 16 16 (two_with (2 ^ 64 - 1) (2 ^ 64 - 1)) (gives 0) (2 ^ 64 - 1) (2 ^ 64 - 1)
    -- S7: a total that the row does not change is looked at; a function that cannot be read comes before 16, wherever it stands; and a modern table, of which
    -- the same large row is read again
    ∷ Refreshes legacy_two 0 16 (two_with (2 ^ 63) 30) (refused_at 16 0) (2 ^ 63) 30
    ∷ Refreshes (take 62 legacy_two) 0 32 (two_with 0 0) (refused_at 3 1) 0 0
    ∷ RefreshesIn Modern12 3 modern_three 72 73 (functions.lent (rows_read Modern12 modern_three 3) 1 320) (gives 1) 1 320
    -- R1: spans that overlap in the far large header: one function is counted by both; by one refresh over both it is counted once
    ∷ InLegacy 304 309 308 316 (gives 1) (gives 1) (legacy_table 10 21 1 31)
    ∷ (refresh_answer (legacy_far 12 21) Legacy16 0 2 304 316 (legacy_table 10 20 1 30) ≡ gives 1)
    -- R2: two that touch within it, the first from the table on; R3: one within the other; R4: one twice; R5: an empty one
    ∷ InLegacy 0 308 308 331 (gives 2) (gives 1) (legacy_table 12 21 1 33)
    ∷ InLegacy 0 331 308 309 (gives 2) (gives 1) (legacy_table 12 21 1 33)
    ∷ InLegacy 308 309 308 309 (gives 1) (gives 1) (legacy_table 10 21 1 31)
    ∷ InLegacy 308 308 308 309 (gives 0) (gives 1) (legacy_table 10 21 1 31)
    -- R6: one is refused, before the other or after it, and the other stands; both are
    ∷ InEither Legacy16 legacy_lost 0 16 308 309 (legacy_table 10 20 1 30) (refused_at 2 0) (gives 1) (legacy_table 10 21 1 31)
    ∷ InEither Legacy16 legacy_lost 0 16 309 308 (legacy_table 10 20 1 30) (refused_at 2 0) (refused_at 10 0) (legacy_table 10 20 1 30)
    -- R7: with totals that are not true the order may decide: 20 cannot be taken out of 10, but can be out of 25
    ∷ InTurn Legacy16 (legacy_far 25 21) 0 16 308 309 (legacy_table 10 20 1 10) (gives 1) (gives 1) (legacy_table 25 21 1 26)
    ∷ InTurn Legacy16 (legacy_far 25 21) 308 309 0 16 (legacy_table 10 20 1 10) (refused_at 16 1) (gives 1) (legacy_table 25 20 1 25)
    -- and one that was accepted may be refused when it is done again
    ∷ InTurn Legacy16 (legacy_far 25 1) 0 331 0 331 (legacy_table 10 20 1 10) (gives 2) (refused_at 16 0) (legacy_table 25 1 1 6)
    -- R8: R1 and R2 of a modern table
    ∷ InModern 304 313 312 320 (gives 1) (gives 1) (modern_table 10 21 1 31)
    ∷ InModern 0 312 312 337 (gives 2) (gives 1) (modern_table 12 21 1 33)
    -- R9: one pane has made the second function large, the other has changed its large header: that is counted before its row says so, and after
    ∷ InEither Legacy16 (legacy_far 12 21) 16 32 308 309 legacy_near (gives 1) (gives 1) (legacy_table 10 21 1 31)
    ∷ InEither Modern12 (modern_far 12 21) 12 24 312 313 modern_near (gives 1) (gives 1) (modern_table 10 21 1 31)
    ∷ []
