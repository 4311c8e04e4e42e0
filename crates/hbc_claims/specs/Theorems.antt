-- docs/FORMAT.md, section 1.6, each part naming its own: every theorem on calls in full: the words in fifteen sections, and at the end the theorems
-- themselves, in one record, under the names in brackets; proofs/Proved proves them. The promises that they speak of (`ReadFunctions`, ..) are what the
-- calls' contracts cite (docs/PROMISES.md), the terms are those of hbc_claims_law/specs/Terms. n is a cursor as a call leaves it, t' a table. A
-- `Table` of functions has the words of its rows, and beside them two totals.
use Rattle.std.specs.Prelude.{ℕ, suc, ◌+◌, ◌*◌, ◌%◌, ◌^◌, ◌≤◌, ◌<◌, min, max, ◌≡◌, List, [], ◌∷◌, ◌++◌}
use Rattle.std.specs.Prelude.{Bool, true, false, cond, length, get_or, take, drop, Float, eqb, Result as Res, Ok, Err}
use seplogic.Ra.Ura.{Ura}
use base.Logic.{SProp}
use prog.Memory.{Memory}
use prog.Routine.{Routine}
use types.Logic.{Logic}
use contract.Lifetimes.{Lfts}
use contract.Monad.{Fun, fact}
use Rattle.std.specs.Borrow.{Bor, MutBor}
use denote.Triple.Both.{Both}
use Rattle.hbc_bits.specs.Bits.{le_at}
use Rattle.hbc_io.specs.Outcome.{got, refused, valued, cursor_at, limit}
use Rattle.hbc_io.specs.Answer.{gives, asked, told}
use Rattle.hbc_io.specs.Plain.{plain_at, bytes_at, seek_to, align_to}
use Rattle.hbc_io.specs.declared.Cursor.{Cursor}
use Rattle.hbc_io.specs.declared.Refusal.{Refusal}
use Rattle.hbc_io.specs.Answers.{answered}
use Rattle.hbc_io.specs.declared.Span.{Span}
use Rattle.hbc_io_leb.specs.declared.Sleb.{Sleb}
use Rattle.hbc_io_leb.specs.declared.Uleb.{Uleb}
use Rattle.hbc_io_leb.specs.Leb.{leb_bytes, dwarf_unsigned, dwarf_signed, unsigned_of, signed_of}
use Rattle.hbc_io_leb.specs.Signed.{sleb_at, low32}
use Rattle.hbc_io_strings.specs.Strings.{zero_ended, prefixed, marked_at}
use Rattle.hbc_io_strings.specs.declared.Prefixed.{Prefixed}
use Rattle.hbc_reader.specs.declared.ByteReader.{ByteReader}
use Rattle.hbc_reader.specs.contracts.ByteReader.new as of_new
use Rattle.hbc_reader.specs.contracts.ByteReader.position as of_position
use Rattle.hbc_reader.specs.contracts.ByteReader.remaining as of_remaining
use Rattle.hbc_reader.specs.contracts.ByteReader.seek as of_seek
use Rattle.hbc_reader.specs.contracts.ByteReader.read_u32 as of_read_u32
use Rattle.hbc_reader.specs.contracts.ByteReader.read_uleb128 as of_read_uleb128
use Rattle.hbc_reader.specs.contracts.ByteReader.read_bytes as of_read_bytes
use Rattle.hbc_reader.specs.contracts.ByteReader.part as of_part
use Rattle.hbc_function_record.specs.declared.Layout.{Layout}
use Rattle.hbc_function_record.specs.declared.Legacy.{Legacy}
use Rattle.hbc_function_record.specs.declared.Modern.{Modern}
use Rattle.hbc_function_record.specs.declared.Record.{Record}
use Rattle.hbc_function_record.specs.declared.Found.{Found}
use Rattle.hbc_function_record.specs.BitLayout.{fields_in}
use Rattle.hbc_function_record.specs.Record.{size_of, large_of, legacy_place, modern_place}
use Rattle.hbc_function_record.specs.Row.{width, row_words, found_at}
use Rattle.hbc_function_header.specs.Header.{header_at, large_found, record_at, function_at, read_function, FunctionRow}
use Rattle.hbc_function_header.specs.Meets.{overlap, meets}
use Rattle.hbc_function.specs.Table.{Table, ReadFunctions}
use Rattle.hbc_function.specs.Refresh.{RefreshFunctions}
use Rattle.hbc_function_write.specs.Write.{WriteFunctions}
use Rattle.hbc_rows.specs.Rows.{entry_at, row_at}
use Rattle.hbc_rows.specs.Until.{until}
use Rattle.hbc_table.specs.Table.{ReadTable}
use Rattle.hbc_table_strings.specs.declared.Mode.{Mode}
use Rattle.hbc_table_strings.specs.declared.Mode.TheVariants.{InOrder, Hermes}
use Rattle.hbc_table_strings.specs.Row.{string_width, string_words, row_of}
use Rattle.hbc_table_strings.specs.Strings.{lesser, DecodeStrings}
use Rattle.hbc_table_bytes.specs.StringBytes.{string_bytes}
use Rattle.hbc_text_forms.specs.Scalars.{Scalars}
use Rattle.hbc_text_forms.specs.Text.{PutText}
use Rattle.hbc_text.specs.StringText.{StringText}
use Rattle.hbc_json.specs.StringsJson.{StringsJson}
use Rattle.hbc_buffer_literal.specs.Literal.{literal_at}
use Rattle.hbc_buffer.specs.Series.{Run, after, head_at, ReadSeries}
use Rattle.hbc_buffer_object.specs.declared.Object.{Object}
use Rattle.hbc_buffer_object.specs.Object.{named as choice, object_part, object_in, ReadObject}
use Rattle.hbc_parsing_handlers.specs.declared.Reason.{Reason}
use Rattle.hbc_parsing_handlers.specs.declared.Table.{Table as Triples}
use Rattle.hbc_parsing_handlers.specs.Why.{why, shown, WhyNoHandlers}
use Rattle.hbc_parsing_handlers.specs.Handlers.{handler_width, total, handler_row, ReadHandlers}
use Rattle.hbc_parsing_sections.specs.declared.Sections.{Sections}
use Rattle.hbc_parsing_sections.specs.Laid.{Laid}
use Rattle.hbc_parsing_sections.specs.Sections.{sections_at}
use Rattle.hbc_debug_parts.specs.declared.InFile.{InFile}
use Rattle.hbc_debug_parts.specs.Along.{along}
use Rattle.hbc_debug_strings.specs.Strings.{strings_of, string_width as debug_width, prefix_number, string_numbers, WriteStrings}
use Rattle.hbc_debug_scopes.specs.declared.ScopeCounts.{ScopeCounts}
use Rattle.hbc_debug_scopes.specs.Scopes.{Scope, scope_at, scopes_of, scope_width, parent_word, name_word, names_in, numbers_at, scope_numbers, WriteScopes}
use Rattle.hbc_debug_rising.specs.Rising.{Callee}
use Rattle.hbc_debug_callees.specs.Callees.{callees_of, callee_width, WriteCallees}
use Rattle.hbc_debug.specs.declared.Counts.{Counts}
use Rattle.hbc_debug.specs.Debug.{Tables, Contents, contents_at, string_count, counts_of, numbers_read, ReadDebug}
use Rattle.hbc_c_code.specs.Code.{code_of}
use Rattle.hbc_c_code.specs.Told.{Moves, Reads as ReadTold}
use Rattle.hbc_c_io.specs.Io.{ReadsSpan, Marked}
use Rattle.hbc_c_function.specs.Function.{Places, ToldFunctions, ToldRefresh, ToldWrite, ToldFunction, ToldGround}
use Rattle.hbc_c_table.specs.Table.{ToldTable, ToldStrings}
use Rattle.hbc_c_text.specs.Text.{ToldText, ToldStringsJson}
use Rattle.hbc_c_buffer.specs.Buffer.{ToldLiteral, ToldSeries, ToldObject}
use Rattle.hbc_c_parsing.specs.Parsing.{ToldHandlers, ToldWhy, ToldSections}
use Rattle.hbc_c_debug.specs.Debug.{Lent as Numbers, ToldDebug}
use Rattle.hbc_claims_law.specs.Law.{All}
use Rattle.hbc_claims_law.specs.Terms.{Fits64, OrBit, leb_left, text_left, PrefixLeft, Behind, count_of}
use Rattle.hbc_claims_law.specs.Terms.{Same, Shared, RowWord, flagged, packed_at, Value, Whose}
use Rattle.hbc_claims_io.specs.Unique as u_io
use Rattle.hbc_claims_io.specs.Reader as u_reader
use Rattle.hbc_claims_io.specs.Leb128.{MarkTells}
use Rattle.hbc_claims_io.specs.Reader.{Lent, LentMut, Read, Move, New, Position, Remaining, Seek, U32, Uleb128, Bytes, Part}
use Rattle.hbc_claims_function.specs.Packed as packed
use Rattle.hbc_claims_function.specs.BitLayout.{Covers, Named}
use Rattle.hbc_claims_function.specs.Unique as u_function
use Rattle.hbc_claims_function.specs.Places.{Tells}
use Rattle.hbc_claims_function.specs.Totals.{size_word, True, Moved as TotalsMoved, Stopped, Passed}
use Rattle.hbc_claims_function.specs.Panes.{Result, Over, OfBoth, SameBut, either, both}
use Rattle.hbc_claims_function.specs.Written.{Words, Written, ReadsBack, SameRecords, Headed, Kept, Placed}
use Rattle.hbc_claims_table.specs.Unique as u_table
use Rattle.hbc_claims_table.specs.Within.{Within}
use Rattle.hbc_claims_table.specs.Before as was
use Rattle.hbc_claims_table.specs.Modes.{ByLengths, PairsThere, FirstLacking, Tidy, AsHermes}
use Rattle.hbc_claims_text.specs.Utf8.{Codes, OfUtf8}
use Rattle.hbc_claims_text.specs.Utf16.{OfUtf16, OfScalars}
use Rattle.hbc_claims_text.specs.Put.{Puts}
use Rattle.hbc_claims_text.specs.Row.{OfRow, PutsRow}
use Rattle.hbc_claims_text.specs.Unique as u_text
use Rattle.hbc_claims_json.specs.Array as json
use Rattle.hbc_claims_json.specs.Rows.{OfRows}
use Rattle.hbc_claims_json.specs.Put.{PutsJson}
use Rattle.hbc_claims_json.specs.Cases as arrays
use Rattle.hbc_claims_json.specs.Unique as u_json
use Rattle.hbc_claims_buffer.specs.Refused.{NoObject}
use Rattle.hbc_claims_buffer.specs.Unique as u_buffer
use Rattle.hbc_claims_parsing.specs.HandlerRows.{OfRecord}
use Rattle.hbc_claims_parsing.specs.Why.{Explains, Lists}
use Rattle.hbc_claims_parsing.specs.SectionPairs.{Fits, SourcesFit}
use Rattle.hbc_claims_parsing.specs.SectionSizes.{Counted}
use Rattle.hbc_claims_parsing.specs.Unique as u_parsing
use Rattle.hbc_claims_debug.specs.Callees.{CalleesRead}
use Rattle.hbc_claims_debug.specs.Left.{PastRows}
use Rattle.hbc_claims_debug.specs.Marks.{Told}
use Rattle.hbc_claims_debug.specs.Unique as u_debug
use Rattle.hbc_clean.specs.Bundle.{Given, Bundle, says_bundle, check_bundle}
use Rattle.hbc_claims_clean.specs.Bundle.{Judges}
use Rattle.hbc_claims_clean.specs.Cases as bundles
use Rattle.hbc_claims_clean.specs.Unique as u_clean
use Rattle.hbc_c_clean.specs.Clean.{ToldBundle}
use Rattle.hbc_claims_c.specs.Unique as u_c
use Rattle.hbc_claims_c.specs.Why.{WhyTold}
use Rattle.hbc_claims.specs.Cases.{cases}
use Rattle.hbc_claims.specs.Unique as u_listing
use Rattle.hbc_claims.specs.Records as u_records

-- ==== 1. The worked cases: P1 to P10, W1 to W5, H1 and H2, T1 to T8, Y1 to Y8, S1 to S7, R1 to R9 of docs/FORMAT.md, section 10, each stated in Cases,
-- one list (`worked`); K1 to K9 in that of hbc_claims_clean (`worked_bundles`), J1 to J7 in that of hbc_claims_json (`worked_arrays`)
-- ==== 2. Uniqueness (`unique`) of every public call, by layers, and of every exported one: two outcomes that both meet its contract, as the checker has it,
-- are equal: the answer, and every word or number that was lent to it; each by the one law of hbc_claims_law, what equals one thing is one thing
pub record Unique : Type 0 where
  pub cursor : u_io.Unique
  pub reader : u_reader.Unique
  pub functions : u_function.Unique
  pub strings : u_table.Unique
  pub texts : u_text.Unique
  pub json : u_json.Unique
  pub literals : u_buffer.Unique
  pub handlers : u_parsing.Unique
  pub debug : u_debug.Unique
  pub bundles : u_clean.Unique
  pub listing : u_listing.Unique
  pub records : u_records.Unique
  pub exported : u_c.Unique

-- of a reader's calls each clause, as the checker has it, is the one fact of its name in hbc_claims_io/specs/Reader, over the reader before, the answer,
-- and the reader after (`reader`)
pub record Reader {M : Type 1} {𝓤 : Ura M} (𝓛 : Logic 𝓤) (mem : Memory → SProp 𝓤) (run : Routine → Fun 𝓤) : Type 2 where
  pub new : (κs : Lfts 1) (a : Bor (List ℕ)) (b : Both (Bor (List ℕ)) (Bor (List ℕ))) (r : ByteReader)
      → of_new.ensures-1 𝓛 κs mem run a b r ≡ fact 𝓤 (New b.entry r)
  pub position : (κs : Lfts 2) (a : Bor ByteReader) (b : Lent) (r : ℕ) → of_position.ensures-1 𝓛 κs mem run a b r ≡ fact 𝓤 (Position b.entry.now r)
  pub remaining : (κs : Lfts 2) (a : Bor ByteReader) (b : Lent) (r : ℕ) → of_remaining.ensures-1 𝓛 κs mem run a b r ≡ fact 𝓤 (Remaining b.entry.now r)
  pub seek : (κs : Lfts 2) (a : MutBor ByteReader) (to : ℕ) (b : LentMut) (t : Both ℕ ℕ) (r : Move)
      → of_seek.ensures-1 𝓛 κs mem run a to b t r ≡ fact 𝓤 (Seek to b.entry.now r b.exit.now)
  pub read_u32 : (κs : Lfts 2) (a : MutBor ByteReader) (b : LentMut) (r : Read ℕ)
      → of_read_u32.ensures-1 𝓛 κs mem run a b r ≡ fact 𝓤 (U32 b.entry.now r b.exit.now)
  pub read_uleb128 : (κs : Lfts 2) (a : MutBor ByteReader) (b : LentMut) (r : Read Uleb)
      → of_read_uleb128.ensures-1 𝓛 κs mem run a b r ≡ fact 𝓤 (Uleb128 b.entry.now r b.exit.now)
  pub read_bytes : (κs : Lfts 2) (a : MutBor ByteReader) (n : ℕ) (b : LentMut) (t : Both ℕ ℕ) (r : Read Span)
      → of_read_bytes.ensures-1 𝓛 κs mem run a n b t r ≡ fact 𝓤 (Bytes n b.entry.now r b.exit.now)
  pub part : (κs : Lfts 2) (a : Bor ByteReader) (p : Span) (b : Lent) (t : Both Span Span) (r : Bor (List ℕ))
      → of_part.ensures-1 𝓛 κs mem run a p b t r ≡ fact 𝓤 (Part p b.entry.now r)

-- ==== 3. A refreshed table is a fresh one (docs/FORMAT.md, section 3.8)
-- given: the table t became t₀ by an accepted read of a; the rows of t₁ are its rows, and its totals are true of them (section 13); b is as long as a and
-- the same outside a valid span [low, high). Bytes are bytes, and words words
pub record Edited (a b : List ℕ) (layout : Layout) (start count low high : ℕ) (t t₀ t₁ : Table) : Type 0 where
  pub same : Same a b low high
  pub valid : (low ≤ high) × (high ≤ length b)
  pub read : ReadFunctions a layout start count t (Ok tt) t₀
  pub rows : t₁.rows ≡ t₀.rows
  pub totals : True t₁ count
  pub bytes : (i : ℕ) → get_or b i 0 < 256
  pub words : Words t₁.rows

-- then (`as_fresh`), r and t₂ being a fresh read's of b into t, and q and t₃ the refresh's of t₁ with b:
pub record AsFresh (r : Res (Unit {0}) Refusal) (q : Res ℕ Refusal) (t₁ t₂ t₃ : Table) : Type 0 where
  -- (a) the refresh is accepted exactly when the fresh read is, and else refused with the same number at the same function
  pub answers : answered r ≡ asked (answered q)
  -- (b) accepted, it leaves the fresh read's table, every word, the 17 of each row among them, and its two totals; refused, the table and the totals as they
  -- were
  pub accepted : r ≡ Ok tt → t₃ ≡ t₂
  pub refused : (x : Refusal) → r ≡ Err x → t₃ ≡ t₁

-- for any table lent, an accepted refresh (refresh_functions) that reports k (`refreshes`):
pub record Refreshes (s : List ℕ) (layout : Layout) (start count low high : ℕ) (t : Table) (k : ℕ) (t' : Table) : Type 0 where
  -- the row of each function that meets the span is written from the new file
  pub rows : (i c : ℕ) → i < count → meets s layout start low high i ≡ true → c < width → RowWord s layout start i c (get_or t'.rows (i * width + c) 0)
  -- no other word is touched, and the table is as long as before; and k is how many functions meet it
  pub others : (i c : ℕ) → meets s layout start low high i ≡ false → c < width → get_or t'.rows (i * width + c) 0 ≡ get_or t.rows (i * width + c) 0
  pub behind : Behind (count * width) t.rows t'.rows
  pub counts : k ≡ count_of (meets s layout start low high) count

-- that function i, whose header is at a place, meets the span (`met`):
pub record Meets (s : List ℕ) (layout : Layout) (start low high i at : ℕ) : Type 0 where
  -- it meets nothing where that header is not wholly in the file
  pub none : length s < at + size_of layout → meets s layout start low high i ≡ false
  -- else where that header shares a byte with it, or, if it is flagged, the large header at its packed place does
  pub own : at + size_of layout ≤ length s → flagged s layout at ≡ false → meets s layout start low high i ≡ overlap at (size_of layout) low high
  pub large : at + size_of layout ≤ length s → flagged s layout at ≡ true
      → meets s layout start low high i ≡ cond (overlap at (size_of layout) low high) true (overlap (packed_at s layout at) (large_of layout) low high)
  -- n bytes from a share one with it exactly when some byte j is in both
  pub shares : (a n : ℕ) → overlap a n low high ≡ true → (j : ℕ) × Shared a n low high j
  pub shared : (a n j : ℕ) → Shared a n low high j → overlap a n low high ≡ true

-- an accepted read (read_functions) writes the row of each function, no word behind them, and the table is as long as before (`reads`)
abbrev pub Reads : List ℕ → Layout → ℕ → ℕ → Table → Table → Type 0
Reads s layout start count t t' =
    ((i c : ℕ) → i < count → c < width → RowWord s layout start i c (get_or t'.rows (i * width + c) 0)) × Behind (count * width) t.rows t'.rows

-- ==== 4. What a refusal leaves; the cursor, by call (`cursor_left`)
pub record CursorLeft (s : List ℕ) (c : Cursor) (k : Refusal) (n : Cursor) : Type 1 where
  -- as it was: read_u8, read_u16, read_u32, read_u64, read_payload (`number`); read_i8, read_i32, read_f64, f making the value (`plain`); and those named
  pub number : (w : ℕ) → refused k n ≡ plain_at w s c → n ≡ c
  pub plain : {A : Type 0} (w : ℕ) (f : ℕ → A) → refused k n ≡ valued f (plain_at w s c) → n ≡ c
  pub read_literal : (tag : ℕ) → refused k n ≡ literal_at tag s c → n ≡ c
  pub bytes : (len : ℕ) → refused k n ≡ bytes_at len s c → n ≡ c
  pub seek : (to : ℕ) → refused k n ≡ seek_to s c to → n ≡ c
  pub align : (a : ℕ) → refused k n ≡ align_to s c a → n ≡ c
  -- read_uleb128, read_sleb128, read_sleb128_bits: after the tenth byte for 5, at the end of the input for 3, else as it was
  pub leb : {A : Type 0} (f : List ℕ → A) → refused k n ≡ valued f (leb_bytes s c)
      → n ≡ cond (eqb k.number 5) (cursor_at (c.at + 10)) (cond (eqb k.number 3) (cursor_at (length s)) c)
  pub bits : {A : Type 0} (f : Sleb → A) → refused k n ≡ valued f (sleb_at s c) → n ≡ leb_left s c k
  -- read_cstring: at the end of the input for 9, else as it was
  pub cstring : refused k n ≡ zero_ended s c → n ≡ cond (eqb k.number 9) (cursor_at (length s)) c
  -- read_length_prefixed_string: where the refused length leaves it, or after the length that was read; with its mark (`marked`) and without
  pub prefix : refused k n ≡ prefixed s c → PrefixLeft s c k n
  pub marked : refused k n ≡ marked_at s c → PrefixLeft s c k n

-- lent tables and rows, by call: as they were (`tables_left`)
pub record TablesLeft (k : Refusal) : Type 0 where
  -- read_u32_table (width 1), read_pair_table (width 2); and the cursor
  pub table : (width : ℕ) (s : List ℕ) (c : Cursor) (count : ℕ) (t t' : List ℕ) (n : Cursor) → ReadTable width s c count t
      (Err (record { refusal = k; cursor = n })) t' → (t' ≡ t) × (n ≡ c)
  pub decode_strings : (mode : Mode) (count : ℕ) (kinds small overflow storage t t' : List ℕ)
      → DecodeStrings mode count kinds small overflow storage t (Err k) t' → t' ≡ t
  -- utf8_text and utf16_text, whatever the text; string_text
  pub put_text : (text s t t' : List ℕ) → PutText text s t (Err k) t' → t' ≡ t
  pub string_text : (storage rows : List ℕ) (index : ℕ) (t t' : List ℕ) → StringText storage rows index t (Err k) t' → t' ≡ t
  -- (escaped_text is a `put_text`)
  pub strings_json : (storage rows : List ℕ) (count : ℕ) (t t' : List ℕ) → StringsJson storage rows count t (Err k) t' → t' ≡ t
  -- the rows and both totals
  pub read_functions : (s : List ℕ) (layout : Layout) (start count : ℕ) (t t' : Table) → ReadFunctions s layout start count t (Err k) t' → t' ≡ t
  pub refresh_functions : (s : List ℕ) (layout : Layout) (start count low high : ℕ) (t t' : Table)
      → RefreshFunctions s layout start count low high t (Err k) t' → t' ≡ t
  pub function_row : (s : List ℕ) (layout : Layout) (start i : ℕ) (t t' : List ℕ) → FunctionRow s layout start i t (Err k) t' → t' ≡ t
  -- the buffer of write_functions
  pub write_functions : (rows : List ℕ) (layout : Layout) (start count large : ℕ) (b b' : List ℕ)
      → WriteFunctions rows layout start count large b (Err k) b' → b' ≡ b
  pub read_series : (s : List ℕ) (offset count : ℕ) (ks ps ks' ps' : List ℕ)
      → ReadSeries s offset count ks ps (Err k) ks' ps' → (ks' ≡ ks) × (ps' ≡ ps)
  -- read_object; of a refused one object_part hands back no bytes, whichever buffer it names, and no object is read of the same words
  pub object : (keys values : List ℕ) (b : Bool) (offset count : ℕ) (ks ps ks' ps' : List ℕ)
      → ReadObject keys values b offset count ks ps (Err k) ks' ps'
      → (ks' ≡ ks) × (ps' ≡ ps) × ((c : Bool) → object_part keys values (object_in c (Err k)) ≡ []) × NoObject keys values b offset count ks ps
  -- read_handlers (why_no_handlers and trailing_sections are lent nothing)
  pub handlers : (s functions : List ℕ) (count : ℕ) (t t' : List ℕ) → ReadHandlers s functions count t (Err k) t' → t' ≡ t
  pub read_debug : (file : List ℕ) (offset : ℕ) (t t' : Tables) → ReadDebug file offset t (Err k) t' → t' ≡ t
  pub write_strings : (s : List ℕ) (base : InFile) (count : ℕ) (t t' : List ℕ) → WriteStrings s base count t (Err k) t' → t' ≡ t
  pub write_scopes : (s : List ℕ) (n : ℕ) (k' : ScopeCounts) (t t' : List ℕ × List ℕ) → WriteScopes s n k' t (Err k) t' → t' ≡ t
  pub write_callees : (s : List ℕ) (n count : ℕ) (t t' : List ℕ) → WriteCallees s n count t (Err k) t' → t' ≡ t

-- the exported calls whose answer r is not 0: every lent number and word is as it was, but for the cursor of a LEB128 number or a string (`exported_left`)
pub record ExportedLeft (s : List ℕ) (at r at' : ℕ) : Type 1 where
  pub hbc_seek : (to : ℕ) → Moves (seek_to s (cursor_at at) to) r at' → at' ≡ at
  pub hbc_align : (a : ℕ) → Moves (align_to s (cursor_at at) a) r at' → at' ≡ at
  -- hbc_read_u8, hbc_read_u16, hbc_read_u32, hbc_read_u64
  pub number : (w : ℕ) {before value : ℕ} → ReadTold (plain_at w s (cursor_at at)) before r at' value → (at' ≡ at) × (value ≡ before)
  -- hbc_read_i8, hbc_read_i32, hbc_read_f64
  pub plain : {A : Type 0} (w : ℕ) (f : ℕ → A) {before value : A} → ReadTold (valued f (plain_at w s (cursor_at at))) before r at' value
      → (at' ≡ at) × (value ≡ before)
  -- hbc_read_uleb128, hbc_read_sleb128
  pub leb : {A : Type 0} (f : List ℕ → A) (mark : List ℕ → Bool) {before value : A} {exact₀ exact : ℕ}
      → Marked (ReadTold (valued f (leb_bytes s (cursor_at at))) before r at' value) (valued mark (leb_bytes s (cursor_at at))) exact₀ exact
      → (k : Refusal) × (r ≡ code_of k) × (at' ≡ (leb_left s (cursor_at at) k).at) × (value ≡ before) × (exact ≡ exact₀)
  pub hbc_read_bytes : (n : ℕ) {start₀ len₀ start len : ℕ} → ReadsSpan (bytes_at n s (cursor_at at)) start₀ len₀ r at' start len
      → (at' ≡ at) × (start ≡ start₀) × (len ≡ len₀)
  pub hbc_read_cstring : {start₀ len₀ start len : ℕ} → ReadsSpan (zero_ended s (cursor_at at)) start₀ len₀ r at' start len
      → (k : Refusal) × (r ≡ code_of k) × (at' ≡ (text_left s (cursor_at at) k).at) × (start ≡ start₀) × (len ≡ len₀)
  pub hbc_read_length_prefixed_string : {start₀ len₀ start len exact₀ exact : ℕ}
      → Marked (ReadsSpan (prefixed s (cursor_at at)) start₀ len₀ r at' start len)
      (valued (λ (p : Prefixed). p.exact) (marked_at s (cursor_at at))) exact₀ exact
      → (k : Refusal) × (r ≡ code_of k) × PrefixLeft s (cursor_at at) k (cursor_at at') × (start ≡ start₀) × (len ≡ len₀) × (exact ≡ exact₀)
  pub hbc_function_ground : (l start i : ℕ) (held : Places) {places : Places} → ToldGround s l start i held r places → places ≡ held
  -- hbc_read_u32_table (width 1), hbc_read_pair_table (width 2)
  pub table : (width count : ℕ) (t : List ℕ) {t' : List ℕ} → ToldTable width s at count t r at' t' → (at' ≡ at) × (t' ≡ t)
  pub hbc_read_literal : (tag : ℕ) {kind word kind' word' : ℕ} {number number' : Float} → ToldLiteral tag s at kind number word r at' kind' number' word'
      → (at' ≡ at) × (kind' ≡ kind) × (number' ≡ number) × (word' ≡ word)
  pub hbc_read_handlers : (functions : List ℕ) (count : ℕ) (t : List ℕ) {total total' : ℕ} {t' : List ℕ} → ToldHandlers s functions count t total r t' total'
      → (t' ≡ t) × (total' ≡ total)
  -- s being the storage here
  pub hbc_strings_json : (rows : List ℕ) (count : ℕ) (t : List ℕ) {n n' : ℕ} {t' : List ℕ} → ToldStringsJson s rows count t n r t' n' → (t' ≡ t) × (n' ≡ n)
  -- a reason is no refusal, and leaves it too
  pub hbc_why_no_handlers : (functions : List ℕ) (id n : ℕ) {n' : ℕ} → ToldWhy s functions id n r n' → n' ≡ n
  pub hbc_read_debug : (offset : ℕ) (t : Tables) (k : Numbers) {k' : Numbers} {t' : Tables} → ToldDebug s offset t k r t' k' → (t' ≡ t) × (k' ≡ k)

-- the exported calls that answer a count or an end, where r tells a refusal, from 2^32 up: every lent word or byte is as it was; l is a layout's number
-- (`counted_left`)
pub record CountedLeft (s : List ℕ) (r : ℕ) : Type 0 where
  -- the rows and both totals
  pub hbc_read_functions : (l start count : ℕ) (t : Table) {t' : Table} → count < 2 ^ 32 → ToldFunctions s l start count t r t' → t' ≡ t
  pub hbc_refresh_functions : (l start count low high : ℕ) (t : Table) {t' : Table} → count < 2 ^ 32 → ToldRefresh s l start count low high t r t' → t' ≡ t
  pub hbc_read_function : (l start i : ℕ) (t : List ℕ) {t' : List ℕ} → ToldFunction s l start i t r t' → t' ≡ t
  -- s being the buffer here
  pub hbc_write_functions : (rows : List ℕ) (l start count large : ℕ) {b' : List ℕ} → ToldWrite rows l start count large s r b' → b' ≡ s
  -- and hbc_decode_strings_hermes
  pub hbc_decode_strings : (mode : Mode) (count : ℕ) (kinds small pairs t : List ℕ) {t' : List ℕ} → count < 2 ^ 32
      → ToldStrings mode count kinds small pairs s t r t' → t' ≡ t
  -- s being a storage of bytes here
  pub hbc_string_text : (rows : List ℕ) (index : ℕ) (t : List ℕ) {t' : List ℕ} → ((i : ℕ) → get_or s i 0 < 256) → ToldText s rows index t r t' → t' ≡ t
  pub hbc_read_series : (offset count : ℕ) (ks ps : List ℕ) {ks' ps' : List ℕ} → ToldSeries s offset count ks ps r ks' ps' → (ks' ≡ ks) × (ps' ≡ ps)
  pub hbc_read_object : (keys values : List ℕ) (n offset count : ℕ) (ks ps : List ℕ) {ks' ps' : List ℕ} → ToldObject keys values n offset count ks ps r ks' ps'
      → (ks' ≡ ks) × (ps' ≡ ps)
  pub hbc_trailing_sections : (start regexps storage cjs : ℕ) (given : Bool) (sources : ℕ) (t : List ℕ) {t' : List ℕ}
      → ToldSections s start regexps storage cjs given sources t r t' → t' ≡ t
  -- the word for the place
  pub hbc_check_bundle : (l start count : ℕ) (kinds : List ℕ) (strings : ℕ) (small overflow storage keys values series : List ℕ) (place : ℕ) {place' : ℕ}
      → ToldBundle s l start count kinds strings small overflow storage keys values series place r place' → place' ≡ place

-- ==== 5. LEB128 (`exact`): the answer is the number that DWARF has for the bytes exactly when that fits 64 bits, and exactly when its mark is true
pub record Exact (bs : List ℕ) : Type 0 where
  pub unsigned : dwarf_unsigned bs < 2 ^ 64 → unsigned_of bs ≡ dwarf_unsigned bs
  pub unsigned_only : unsigned_of bs ≡ dwarf_unsigned bs → dwarf_unsigned bs < 2 ^ 64
  pub signed : Fits64 (dwarf_signed bs) → signed_of bs ≡ dwarf_signed bs
  pub signed_only : signed_of bs ≡ dwarf_signed bs → Fits64 (dwarf_signed bs)
  -- which it does in nine bytes or fewer
  pub nine_unsigned : length bs ≤ 9 → unsigned_of bs ≡ dwarf_unsigned bs
  pub nine_signed : 1 ≤ length bs → length bs ≤ 9 → signed_of bs ≡ dwarf_signed bs
  -- of a number that was read, the mark `exact` is true exactly when the answer is that number, unsigned and signed
  pub mark : (s : List ℕ) (c n : Cursor) → leb_bytes s c ≡ got bs n → MarkTells bs

-- ==== 6. Packed places and large headers (`packing`), and the bits of an inline one (`covered`, `named`)
pub record Packed (s : List ℕ) (at i : ℕ) : Type 0 where
  -- bit b of a packed place is set exactly when it is set in one of its two parts
  pub legacy : (r : Legacy) (b : ℕ) → OrBit b (legacy_place r) (r.info_offset * 65536) r.offset
  pub modern : (r : Modern) (b : ℕ) → OrBit b (modern_place r) (r.name * 2 ^ 24) (r.offset % 2 ^ 24)
  -- P3's is not their sum
  pub not_added : legacy_place (packed.legacy 65552 2 10 3 1 5 1 2 3 4) ≡ 1 * 65536 + 65552 → ⊥
  -- a flagged header is read from the large one at its packed place, whatever that one's own flags: they are a field, and are not followed
  pub large : (layout : Layout) → at + size_of layout ≤ length s → flagged s layout at ≡ true → packed_at s layout at + large_of layout ≤ length s
      → record_at s layout at i ≡ gives (large_found s layout (packed_at s layout at) i)

-- the fields of an inline header, of the two lists that readers and writer go by: they join without a gap from bit 0 to bit 127 in legacy, to bit 95 in
-- modern, and every bit is one of a field, and of one alone (`covered`; Covers in hbc_claims_function/specs/BitLayout); each field of a record is what the
-- bits that the list has under its name hold (`named`). legacy_bits and modern_bits answer the code's lists, and promise that they are these

-- ==== 7. Definitions that count steps never stop early (`whole`)
pub record Whole (s : List ℕ) (k : ℕ) : Type 0 where
  -- the next tag that has values (read_series) is the one that k more tags would find
  pub tags : (c : Cursor) → length s ≤ limit → c.at ≤ length s → head_at (length s + k) s c ≡ head_at (length s) s c
  -- the strings and the scopes of a debug part are all that k more steps read
  pub strings : until (prefixed s) (length s + k) (cursor_at 0) ≡ strings_of s
  pub scopes : until (scope_at s) (length s + k) (cursor_at 0) ≡ scopes_of s
  -- and the numbers that are met on the way, of which the mark is, are those of k more
  pub string_numbers_lem : along (prefixed s) (prefix_number s) (length s + k) (cursor_at 0) ≡ string_numbers s
  pub scope_numbers_lem : along (scope_at s) (numbers_at s) (length s + k) (cursor_at 0) ≡ scope_numbers s

-- ==== 8. What accepted calls give; read_u32_table, read_pair_table (`table_read`):
pub record TableRead (width : ℕ) (s : List ℕ) (c : Cursor) (count : ℕ) (t : List ℕ) (n : Cursor) (t' : List ℕ) : Type 0 where
  -- the cursor stands after the entries, word i is the i-th u32 from where it was, every word past the entries is as it was, and the table as long
  pub cursor : n ≡ cursor_at (c.at + 4 * (width * count))
  pub word : (i : ℕ) → i < width * count → entry_at t' i ≡ le_at s (c.at + 4 * i) 4
  pub behind : Behind (width * count) t t'

-- decode_strings in either mode, n rows (`strings_read`):
pub record StringsRead (mode : Mode) (count : ℕ) (kinds small overflow storage t : List ℕ) (n : ℕ) (t' : List ℕ) : Type 0 where
  -- as many as the lesser of the count and the entries, row i that of string i, every other word as it was, and the table as long
  pub counts : n ≡ lesser count (length small)
  pub row : (i : ℕ) → i < n → row_at string_width t' i ≡ string_words (row_of mode kinds small overflow (length storage) i)
  pub behind : Behind (n * string_width) t t'
  -- a row lies in the storage: a valid one starts before its end and ends in it, an invalid one is empty
  pub within : (i : ℕ) → Within (length storage) (row_of mode kinds small overflow (length storage) i)
  -- and string_bytes then hands back the bytes that it says
  pub bytes : (i : ℕ) → i < n → string_bytes storage t' i
      ≡ take (row_of mode kinds small overflow (length storage) i).bytes (drop (row_of mode kinds small overflow (length storage) i).start storage)
  -- each string of length 255 has its pair: in order the next, in Hermes mode the one whose number is in the offset field
  pub pairs : PairsThere mode small overflow n

-- the two modes of decode_strings (`modes`):
pub record Modes (count : ℕ) (kinds small overflow storage : List ℕ) : Type 0 where
  -- what the old one promises is what decode_strings promised while there was no other, word for word as it was, and the other way round
  pub as_before : (t t' : List ℕ) (r : Res ℕ Refusal) → DecodeStrings InOrder count kinds small overflow storage t r t'
      → was.DecodeStrings count kinds small overflow storage t r t'
  pub before_as : (t t' : List ℕ) (r : Res ℕ Refusal) → was.DecodeStrings count kinds small overflow storage t r t'
      → DecodeStrings InOrder count kinds small overflow storage t r t'
  -- in Hermes mode a string's kind is that of the run one of whose strings it is, by the lengths of runs, added up, and past the last run a plain string's;
  -- and of length 255 it takes the pair whose number is in the offset field
  pub kind : ByLengths kinds
  pub row : (i : ℕ) → AsHermes kinds small overflow (length storage) i
  -- refused 8 in either mode: at the first string of length 255 whose pair, as above, is past the whole pairs lent
  pub lacking : (mode : Mode) (t t' : List ℕ) (k : Refusal) → DecodeStrings mode count kinds small overflow storage t (Err k) t' → k.number ≡ 8
      → FirstLacking mode small overflow (lesser count (length small)) k.place
  -- where the strings of length 255 have the numbers of the pairs in order, and no run is empty, both give the same answer and the same rows
  pub agree : (t t₁ t₂ : List ℕ) (r q : Res ℕ Refusal) → Tidy kinds small (lesser count (length small))
      → DecodeStrings InOrder count kinds small overflow storage t r t₁ → DecodeStrings Hermes count kinds small overflow storage t q t₂ → (r ≡ q) × (t₁ ≡ t₂)

-- read_series of n bytes (`series_read`):
pub record SeriesRead (s : List ℕ) (offset count : ℕ) (ks ps : List ℕ) (n : ℕ) (ks' ps' : List ℕ) : Type 0 where
  -- behind the last value the cursor stands after them; for count 0 there are none, else they lie in the buffer
  pub ends : (last : Run) × (after count s (cursor_at offset) ≡ got last (cursor_at (offset + n)))
  pub none : count ≡ 0 → n ≡ 0
  pub used : (count ≡ 0 → ⊥) → offset + n ≤ length s
  -- entry i of the two tables is kind and payload of value i; every word past the values is as it was, and the tables as long
  pub value : (i : ℕ) → i < count → Value s (cursor_at offset) i (entry_at ks' i) (entry_at ps' i)
  pub behind : Behind count ks ks' × Behind count ps ps'

-- read_object (`object_read`):
pub record ObjectRead (keys values : List ℕ) (b : Bool) (offset count : ℕ) (ks ps : List ℕ) (o : Object) (ks' ps' : List ℕ) : Type 0 where
  -- all that read_series of as many bytes gives, in the buffer that was named
  pub series : SeriesRead (choice b keys values) offset count ks ps o.len ks' ps'
  -- it names that buffer and the place of the bytes, and object_part hands them back; for count 0, the buffer's empty beginning
  pub names : o.«yes» ≡ b
  pub some : (count ≡ 0 → ⊥) → (o.start ≡ offset) × (object_part keys values o ≡ take o.len (drop offset (choice b keys values)))
  pub none : count ≡ 0 → (o.start ≡ 0) × (object_part keys values o ≡ [])

-- read_handlers, n rows (`handlers_read`):
pub record HandlersRead (s functions : List ℕ) (count : ℕ) (t : List ℕ) (n : ℕ) (t' : List ℕ) : Type 0 where
  -- as many as the functions have; function i has rows exactly when its reason is "shown", and then as many as that says
  pub counts : n ≡ total s functions count
  pub some : (i : ℕ) (w : Triples) → why s functions i ≡ Ok w → (0 < w.count) × (total s functions (suc i) ≡ total s functions i + w.count)
  pub only : (i : ℕ) → 0 < (shown s functions i).count → (w : Triples) × (why s functions i ≡ Ok w)
  -- each row is of one of the functions; handler j of function i is row total i + j; no word behind the rows changes, and the table is as long
  pub whose : (k : ℕ) → k < n → Whose s functions count k
  pub row : (i j : ℕ) → i < count → j < (shown s functions i).count
      → row_at handler_width t' (total s functions i + j) ≡ handler_row s i (shown s functions i).place j
  pub behind : Behind (n * handler_width) t t'

-- trailing_sections: one after another from the start to the end; each with the entries and the bytes asked for, padded to 4, sources if given; and
-- read_pair_table at each table's start is accepted and reads its entries (`sections_read`)
abbrev pub SectionsRead : List ℕ → ℕ → ℕ → ℕ → ℕ → Bool → ℕ → Sections → Type 0
SectionsRead s start regexps storage cjs given sources v =
    Laid s start v × Counted regexps storage cjs given sources v × Fits s v.regexps × Fits s v.cjs × SourcesFit s v.sources

-- read_debug, b being the bytes of the three parts that it finds (`debug_read`):
pub record DebugRead (b : Contents) (t : Tables) (k : Counts) (e : Bool) (t' : Tables) : Type 0 where
  -- as many rows as there are strings, scopes, names and callees
  pub counts : k ≡ counts_of b
  -- the mark e is true exactly when of every LEB128 number that was read (`numbers_read`: which they are, part by part in file order) the answer is DWARF's;
  -- where none was read it is true
  pub exact : Told e (numbers_read b)
  -- the string after xs: its start in the file, behind its prefix, and its byte length
  pub strings : (xs ys : List Span) (p : Span) → strings_of b.strings ≡ xs ++ p ∷ ys
      → row_at debug_width t'.strings (length xs) ≡ (b.base.0 + p.start) ∷ p.len ∷ []
  -- the scope after xs: offset in its part, parent or 2^32 - 1, low 32 bits of the flags, first name, number of names
  pub scopes : (xs ys : List Scope) (x : Scope) → scopes_of b.scopes ≡ xs ++ x ∷ ys
      → row_at scope_width t'.scopes (length xs) ≡ x.offset ∷ parent_word x.front.parent ∷ low32 x.front.flags ∷ names_in xs ∷ length x.names ∷ []
  -- its name after vs: the number of a string, or 2^32 - 1
  pub names : (xs ys : List Scope) (x : Scope) (vs ws : List Sleb) (z : Sleb) → scopes_of b.scopes ≡ xs ++ x ∷ ys → x.names ≡ vs ++ z ∷ ws
      → get_or t'.names (names_in xs + length vs) 0 ≡ name_word (string_count b) z.value
  -- the callee after xs: address and name; addresses rise, each with its last known name, each that has one has its row, and nothing else is so
  pub callees : (xs ys : List Callee) (x : Callee) → callees_of (string_count b) b.callees ≡ xs ++ x ∷ ys
      → row_at callee_width t'.callees (length xs) ≡ x.address ∷ x.name ∷ []
  pub rising : CalleesRead (string_count b) b.callees
  -- the words past the rows of each table are as they were, and it is as long
  pub past : PastRows k t t'

-- ==== 9. Writing a table of functions (docs/FORMAT.md, section 3.9); each part stands in full in hbc_claims_function/specs/Written
-- given (`Written`): rows of u32 words, and an accepted write of them (write_functions) that makes b into b' and answers e; then (`writes`):
pub record Writes (rows : List ℕ) (layout : Layout) (start count large : ℕ) (b : List ℕ) (e : ℕ) (b' : List ℕ) : Type 0 where
  -- any read_functions of b' into a table with room for the rows is accepted, and leaves in each row the first 16 words of the row that was written and,
  -- as 17th, the place where its large header was put, or 2^32 - 1 if it has none; and behind the rows every word as it was
  pub back : ReadsBack rows layout start count large b'
  -- row i's header is flagged exactly when the row does not go inline, and its packed place is then where its large header is; the function that is
  -- found there has those words
  pub header : (i : ℕ) → i < count → Headed b' layout (row_at width rows) start large i
  -- the buffer is as long as before, and every byte of no header, inline or large, is as it was
  pub kept : Kept layout (row_at width rows) start large count b b'
  -- large headers begin at multiples of 4, from the large place on, which is behind the table, and each behind all earlier ones; e is where the last of
  -- them ends, or the table's end if there is none, and within the buffer
  pub placed : Placed layout (row_at width rows) start large count (length b) e

-- ==== 10. Texts (docs/FORMAT.md, section 4.8). What a character, a maximal ill-formed part, a cut, a lone surrogate are stands in
-- hbc_text_forms/specs, to be held beside the Unicode Standard; each part here stands in full in hbc_claims_text/specs (`texts`):
pub record Texts : Type 0 where
  -- table 3-7's rows have the encodings of the scalar values, each of one alone, and nothing else: no surrogate, no overlong form, nothing past U+10FFFF
  pub codes : Codes
  -- UTF-8, of any bytes: the text is well formed; well-formed bytes come out unchanged, and so a text is its own text. However the bytes are cut from the
  -- front into characters and maximal ill-formed parts, and they can be, each character as it is and one U+FFFD for each such part make the text; it has
  -- as many U+FFFD as the bytes had and one for each part, no more; without such a part they are well formed. At most three bytes for each byte
  pub utf8 : (s : List ℕ) → OfUtf8 s
  -- UTF-16, of any bytes: the text is well formed; of an odd number of bytes it is empty. Of an even number it is the encodings of the values of the
  -- units: however those are taken from the front, and they can be, of a pair its scalar value, of each lone surrogate U+FFFD, of any other unit itself;
  -- it has as many U+FFFD as there were units U+FFFD and lone surrogates; without a lone one the bytes are the UTF-16 of those values. At most three
  -- bytes for each two
  pub utf16 : (s : List ℕ) → ((i : ℕ) → get_or s i 0 < 256) → OfUtf16 s
  -- the UTF-16 of scalar values has no lone surrogate, and its text is the encodings of the same scalar values
  pub same : (cs : List ℕ) → Scalars cs → OfScalars cs
  -- of row k of any numbers t: the text is well formed; it is that of the bytes which the row names, as UTF-16 where bit 0 of its marks is set, else as
  -- UTF-8; empty where it is marked invalid, where it leaves the storage, and of UTF-16 of an odd number of bytes. At most three bytes for each byte of
  -- the storage
  pub row : (s t : List ℕ) (k : ℕ) → ((i : ℕ) → get_or s i 0 < 256) → OfRow s t k

-- of a call that puts a text of bytes s into t, and answers r, as utf8_text and utf16_text do (`text_put`; in full `Puts`): it is accepted exactly when
-- the bytes are not too many and there is room; r is then the text's length, the text stands in front of t', whole, and behind it nothing is written. It
-- is refused 1 for too many bytes, else 4, and t' is then t
-- of string_text, which puts the text of row k (`row_put`; in full `PutsRow`): the same, accepted exactly when the storage is not too long, the row is
-- there and the text has room, else refused 1, then 11, then 4

-- ==== 11. Why a function has no handlers (docs/FORMAT.md, section 6.1); each part stands in full in hbc_claims_parsing/specs/Why
-- of why_no_handlers, asked for function id, which answers r (`explained`; in full `Explains`): it is refused 1 exactly where the file is too long, else 11
-- exactly where the function has no row. Else it answers a reason exactly where that reason is true of the file and none before it in their order is: bit 3
-- of its flags is clear; info_offset is 0; it is at or past the end; the four bytes at the first multiple of 4 from it on go past the end; their number, the
-- count, is 0; it is above 1000; one of so many triples, 12 bytes each, behind it goes past the end (`Says`). And it answers that handlers are shown, with
-- their number and the place of the first, exactly where no reason is true; the number is then the count, 1 to 1000, and all of them lie in the file (`Shows`)
-- beside an accepted read_handlers of the same file and function rows, with a count above id, which lists n rows in t' (`explained_rows`; in full `Lists`):
-- handlers are shown exactly where one of the rows has the function's number as its first word, and exactly so many rows have it; for a reason none has
-- in a table that read_functions read from the file, the two words of a row below the count that are looked at are info_offset and flags of that function's
-- own record there (`explained_header`)
-- hbc_why_no_handlers, which answers r and leaves n' where n was, tells what why_no_handlers answers: 0 shown, n' being how many; 1 to 7 the reasons in
-- their order, else the refusal, n' being n (`explained_told`; in full `WhyTold`)

-- ==== 12. The place of a large header in its row (docs/FORMAT.md, section 3.4); in full `Tells` in hbc_claims_function/specs/Places
-- the last word of a row that read_functions, refresh_functions or function_row wrote, function i's header being at a place: where the header is not flagged
-- it is 2^32 - 1, and the other 16 words are that header's own record's; where it is, it is the packed place, and they are the record's of the large header
-- at just that place. It is 2^32 - 1 only of a header that is not flagged: any other is below 2^30, and the large header that it names lies in the file.
-- Of a table read (`place_read`), of each row that a refresh wrote (`place_refreshed`; the others it does not touch), of one row (`place_row`), and of the
-- record and the place that read_function answers, as the row that they make (`place_one`)

-- ==== 13. The totals beside the table (docs/FORMAT.md, section 3.10); each part stands in full in hbc_claims_function/specs/Totals
-- two totals are lent beside the rows of a table: how many of them were read from a large header, which are those whose 17th word is not 2^32 - 1, and the sum
-- of their size words. They are true of the first `count` rows where they are just that by the table's own words, whoever wrote it (`True`)
-- after every accepted read they are true of the rows that were read, whatever totals were lent (`totals_read`)
-- totals that were true are true after every accepted refresh with that count (`totals_kept`)
-- of any table and totals lent, an accepted refresh that reports k: what the rows that meet the span added to a total as they were is taken out of it, and what
-- they add as they are is added; and if there is one, k not being 0, neither total is above 2^63 - 1 (`totals_moved`; in full `Moved`)
-- and each row that was exchanged could be (`totals_passed`; in full `Passed`): of the functions before it alone the refresh is accepted too, and with the
-- totals that it leaves none fails at this row (`Fails`)
-- with totals that are true no refresh is refused 16, bytes being below 256 and words below 2^32 (`totals_fit`)
-- one that is refused 16 at row i (`totals_stopped`; in full `Stopped`): i is below the count, function i meets the span, and each function that does can be
-- read. Of the functions before i alone the refresh is accepted, so that i is the first; and with the totals that it leaves, row i cannot be exchanged for
-- function i of the file: a total is less than that row adds to it, or, that taken out and the function's added, above 2^63 - 1 (`Fails`)

-- ==== 14. Two refreshes of one file (docs/FORMAT.md, section 3.11): two panes have changed bytes of it, and each has the table refreshed over its own span
-- given: the results of two refreshes of one file, which has both edits, in both orders, each by the call's own promise (`Over`). a is the first pane's, of the
-- table t, and ab then the second's, of what a left; b is the second's, of t, and ba then the first's. The spans may be any: apart, touching, overlapping, one
-- within the other, equal, empty, and such as are refused 10
pub record Panes (s : List ℕ) (layout : Layout) (start count low₁ high₁ low₂ high₂ : ℕ) (t : Table) (a ab b ba : Result) : Type 0 where
  pub first : Over s layout start count low₁ high₁ t a
  pub second_after : Over s layout start count low₂ high₂ a.table ab
  pub second : Over s layout start count low₂ high₂ t b
  pub first_after : Over s layout start count low₁ high₁ b.table ba

-- and that the totals of t are true of its rows, whoever wrote them; bytes are bytes, and sizes words
pub record Sound (s : List ℕ) (count : ℕ) (t : Table) : Type 0 where
  pub totals : True t count
  pub bytes : (i : ℕ) → get_or s i 0 < 256
  pub sizes : (i : ℕ) → i < count → size_word t.rows i < 2 ^ 32

-- then (`either_order`):
pub record EitherOrder (s : List ℕ) (count : ℕ) (a ab b ba : Result) : Type 0 where
  -- a pane is told the same whether its refresh comes before the other's or after it: how many functions were read again, or the refusal, number and place
  pub first_told : ba.answer ≡ a.answer
  pub second_told : ab.answer ≡ b.answer
  -- the table is the same in the end, every word and both totals; these are true of it, and what was given of t holds of it: more refreshes may follow
  pub same : ab.table ≡ ba.table
  pub sound : Sound s count ab.table
  -- if the first pane's is refused, only the second's effect stands, before or after it: what the second's alone leaves; and the other way round
  pub first_refused : (x : Refusal) → a.answer ≡ Err x → (ab.table ≡ b.table) × (ba.table ≡ b.table)
  pub second_refused : (x : Refusal) → b.answer ≡ Err x → (ab.table ≡ a.table) × (ba.table ≡ a.table)

-- where the totals are true, one done twice is done once: the second time the same answer, with the same number, and the same table (`twice`)
-- of any table and any totals, true or not: refreshes that are all accepted report the same, first or second, and leave the same table (`any_order`); and so
-- does one that is accepted twice (`any_twice`). With totals that are not true the order may decide whether one is refused 16, and one that was accepted may
-- be refused 16 when it is done again (R7 of the worked cases)
-- accepted, one and then the other, of any table and totals, make t into t' so (`both_written`):
pub record BothWritten (s : List ℕ) (layout : Layout) (start count low₁ high₁ low₂ high₂ : ℕ) (t t' : Table) : Type 0 where
  -- the row of each function that meets one span or the other is the file's
  pub rows : (i c : ℕ) → i < count → either (meets s layout start low₁ high₁) (meets s layout start low₂ high₂) i ≡ true → c < width
      → RowWord s layout start i c (get_or t'.rows (i * width + c) 0)
  -- no other word is touched, and the table is as long as before
  pub others : (i c : ℕ) → either (meets s layout start low₁ high₁) (meets s layout start low₂ high₂) i ≡ false → c < width
      → get_or t'.rows (i * width + c) 0 ≡ get_or t.rows (i * width + c) 0
  pub behind : Behind (count * width) t.rows t'.rows

-- what is not so: that the two counts together are the count of the functions that meet one span or the other. A function that meets both is counted by
-- both: the sum is more, by as many as meet both (`counts_shared`)

-- two spans, neither of them reversed, that touch or overlap
pub record Touching (low₁ high₁ low₂ high₂ : ℕ) : Type 0 where
  pub rise : (low₁ ≤ high₁) × (low₂ ≤ high₂)
  pub touch : (low₁ ≤ high₂) × (low₂ ≤ high₁)

-- then of one refresh c over both, from the first byte of them to the last (`as_one`):
pub record AsOne (s : List ℕ) (layout : Layout) (start count low₁ high₁ low₂ high₂ : ℕ) (t : Table) (a ab b c : Result) : Type 0 where
  -- it is accepted exactly when both are, and is else refused as one of them is, and neither at a lower place
  pub answers : OfBoth (answered a.answer) (answered b.answer) (answered c.answer)
  -- accepted, it leaves the table that the two leave, and reports how many functions meet one span or the other
  pub table : (j : ℕ) → c.answer ≡ Ok j → c.table ≡ ab.table
  pub counts : (j : ℕ) → c.answer ≡ Ok j → j ≡ count_of (either (meets s layout start low₁ high₁) (meets s layout start low₂ high₂)) count
  -- refused, it leaves the table as it was, also where one of the two alone would have had its effect
  pub refused : (x : Refusal) → c.answer ≡ Err x → c.table ≡ t

-- given, as in section 3: t₀ became t₁ by an accepted read of an older file o, and t has its rows; the file s, with both edits, is as long as o and the same
-- outside the two spans, each of which is in the file
pub record EditedTwice (o s : List ℕ) (layout : Layout) (start count low₁ high₁ low₂ high₂ : ℕ) (t₀ t₁ t : Table) : Type 0 where
  pub same : SameBut o s low₁ high₁ low₂ high₂
  pub first : (low₁ ≤ high₁) × (high₁ ≤ length s)
  pub second : (low₂ ≤ high₂) × (high₂ ≤ length s)
  pub read : ReadFunctions o layout start count t₀ (Ok tt) t₁
  pub rows : t.rows ≡ t₁.rows

-- then (`both_fresh`), r and t₂ being a fresh read's of s into t₀:
pub record BothFresh (r : Res (Unit {0}) Refusal) (t₂ : Table) (a ab b ba : Result) : Type 0 where
  -- the fresh read is accepted exactly when both refreshes are, and is else refused as one of them is, and neither at a lower place
  pub answers : OfBoth (answered a.answer) (answered b.answer) (answered r)
  -- and accepted, both in either order leave its table, every word and both totals
  pub table : r ≡ Ok tt → (ab.table ≡ t₂) × (ba.table ≡ t₂)

-- and if the first pane's was refused, or is not yet done: the second's is accepted, and makes t into u; then the first pane changes bytes of its span again,
-- or puts them back, so that s' is as long as s and the same outside that span, and has its span refreshed with s'. That is as a fresh read of s' is, in
-- answer and table (`mended`; `AsFresh` of section 3)

-- ==== 15. The clean-bundle profile (docs/FORMAT.md, section 12): of headers, kinds, strings and literal series, which are given, check_bundle answers so
-- (`judged`, hbc_claims_clean/specs/Bundle; the five rules, and what breaks each at a place, are written out in hbc_claims_clean/specs/Rules, large headers
-- by the bytes that they have in common, and in no word of how they are looked for):
-- clean exactly when all five rules hold and nothing is refused (`CleanExactly`): large headers start at or after the table's end, and no byte is in two of
-- them; no run is empty, and their lengths add up to the string count; each string that is decoded is valid in Hermes mode; on the way to no value that a
-- series is asked for stands a tag without values; each such value that is a string has a number below the string count
-- a rule k at a place (`BrokenTruly`): k is one of 1 to 5, the place breaks it, no lower place does, every rule before it holds, and nothing is refused. The
-- place of rule 1 is a function whose large header starts before the table's end or has a byte in common with that of any other; of rule 2 a run, or the
-- number of runs
-- a refusal (`RefusedFirst`): it is the reader's own, with its number and place, whatever room that is lent if it is enough: that of the headers; else of the
-- strings in Hermes mode; else of the first series that is refused

-- ==== 16. Strings as JSON (docs/FORMAT.md, section 4.9). The grammar of RFC 8259 of arrays of strings, every rule by the RFC's name and with all escapes,
-- stands in hbc_claims_json/specs/Rfc8259, to be held beside the RFC, and has nothing of the writer; each part here stands in full in that crate's specs
pub record Json : Type 0 where
  -- the RFC reads any bytes as one list of texts at most; what it reads are bytes and texts of well-formed UTF-8
  pub reading : json.Reading
  -- of any list of well-formed texts: the RFC reads its output as exactly these texts, in order; the output is well-formed UTF-8; and no other list of
  -- texts has it
  pub texts : (ts : List (List ℕ)) → json.Texts ts → json.OfTexts ts
  -- of the first count rows of any numbers t, over a storage of bytes: there are so many texts, each the one of section 10 of its row, and all of the above
  -- holds of them; the output has at most two bytes, and for each string three and six times its bytes
  pub rows : (s t : List ℕ) (count : ℕ) → ((i : ℕ) → get_or s i 0 < 256) → OfRows s t count

-- of strings_json, which puts their output into t and answers r (`json_put`; in full `PutsJson`): accepted exactly when the storage is not too long, so many
-- rows are lent and the output has room; r is then its length, it stands in front of t', whole, where the RFC reads it as the texts and as nothing else, and
-- behind it nothing is written. It is refused 1 for the storage, else 11 for fewer rows than the count, else 4, and t' is then t

-- ==== The theorems
pub record Theorems : Type 2 where
  pub worked : All cases
  pub worked_bundles : All bundles.cases
  pub worked_arrays : All arrays.cases
  pub unique : Unique
  pub reader : {M : Type 1} {𝓤 : Ura M} (𝓛 : Logic 𝓤) (mem : Memory → SProp 𝓤) (run : Routine → Fun 𝓤) → Reader 𝓛 mem run
  pub as_fresh : (a b : List ℕ) (layout : Layout) (start count low high : ℕ) (t t₀ t₁ t₂ t₃ : Table) (r : Res (Unit {0}) Refusal) (q : Res ℕ Refusal)
      → Edited a b layout start count low high t t₀ t₁ → ReadFunctions b layout start count t r t₂ → RefreshFunctions b layout start count low high t₁ q t₃
      → AsFresh r q t₁ t₂ t₃
  pub refreshes : (s : List ℕ) (layout : Layout) (start count low high k : ℕ) (t t' : Table)
      → RefreshFunctions s layout start count low high t (Ok k) t' → Refreshes s layout start count low high t k t'
  pub met : (s : List ℕ) (layout : Layout) (start low high i : ℕ) → Meets s layout start low high i (header_at layout start i)
  pub reads : (s : List ℕ) (layout : Layout) (start count : ℕ) (t t' : Table) → ReadFunctions s layout start count t (Ok tt) t'
      → Reads s layout start count t t'
  pub cursor_left : (s : List ℕ) (c : Cursor) (k : Refusal) (n : Cursor) → CursorLeft s c k n
  pub tables_left : (k : Refusal) → TablesLeft k
  pub exported_left : (s : List ℕ) (at r at' : ℕ) → (r ≡ 0 → ⊥) → ExportedLeft s at r at'
  pub counted_left : (s : List ℕ) (r : ℕ) → 2 ^ 32 ≤ r → CountedLeft s r
  pub exact : (bs : List ℕ) → Exact bs
  pub packing : (s : List ℕ) (at i : ℕ) → Packed s at i
  pub covered : (layout : Layout) → Covers (fields_in layout) (8 * size_of layout)
  pub named : (i n : ℕ) → Named i n
  pub whole : (s : List ℕ) (k : ℕ) → Whole s k
  pub table_read : (width : ℕ) (s : List ℕ) (c : Cursor) (count : ℕ) (t : List ℕ) (n : Cursor) (t' : List ℕ)
      → ReadTable width s c count t (Ok n) t' → TableRead width s c count t n t'
  pub strings_read : (mode : Mode) (count : ℕ) (kinds small overflow storage t : List ℕ) (n : ℕ) (t' : List ℕ)
      → DecodeStrings mode count kinds small overflow storage t (Ok n) t' → StringsRead mode count kinds small overflow storage t n t'
  pub modes : (count : ℕ) (kinds small overflow storage : List ℕ) → Modes count kinds small overflow storage
  pub texts : Texts
  pub text_put : (text s t : List ℕ) (r : Res ℕ Refusal) (t' : List ℕ) → PutText text s t r t' → Puts text s t r t'
  pub row_put : (s rows : List ℕ) (k : ℕ) (t : List ℕ) (r : Res ℕ Refusal) (t' : List ℕ) → StringText s rows k t r t' → PutsRow s rows k t r t'
  pub json : Json
  pub json_put : (s rows : List ℕ) (count : ℕ) (t : List ℕ) (r : Res ℕ Refusal) (t' : List ℕ) → ((i : ℕ) → get_or s i 0 < 256)
      → StringsJson s rows count t r t' → PutsJson s rows count t r t'
  pub series_read : (s : List ℕ) (offset count : ℕ) (ks ps : List ℕ) (n : ℕ) (ks' ps' : List ℕ)
      → ReadSeries s offset count ks ps (Ok n) ks' ps' → SeriesRead s offset count ks ps n ks' ps'
  pub object_read : (keys values : List ℕ) (b : Bool) (offset count : ℕ) (ks ps : List ℕ) (o : Object) (ks' ps' : List ℕ)
      → ReadObject keys values b offset count ks ps (Ok o) ks' ps' → ObjectRead keys values b offset count ks ps o ks' ps'
  pub handlers_read : (s functions : List ℕ) (count : ℕ) (t : List ℕ) (n : ℕ) (t' : List ℕ)
      → ReadHandlers s functions count t (Ok n) t' → HandlersRead s functions count t n t'
  pub explained : (s functions : List ℕ) (id : ℕ) (r : Res (Res Triples Reason) Refusal) → WhyNoHandlers s functions id r → Explains s functions id r
  pub explained_rows : (s functions : List ℕ) (id count : ℕ) (t : List ℕ) (r : Res (Res Triples Reason) Refusal) (n : ℕ) (t' : List ℕ) → id < count
      → WhyNoHandlers s functions id r → ReadHandlers s functions count t (Ok n) t' → Lists id r n t'
  pub explained_header : (s : List ℕ) (layout : Layout) (start count : ℕ) (t t' : Table) → ReadFunctions s layout start count t (Ok tt) t'
      → (id : ℕ) → id < count → (f : Found) × (function_at s layout start id ≡ gives f) × OfRecord f.own t'.rows id
  pub explained_told : (s functions : List ℕ) (id n r n' : ℕ) → ToldWhy s functions id n r n'
      → (q : Res (Res Triples Reason) Refusal) × WhyNoHandlers s functions id q × WhyTold q n r n'
  pub sections_read : (s : List ℕ) (start regexps storage cjs : ℕ) (given : Bool) (sources : ℕ) (v : Sections)
      → answered (Ok v) ≡ told (sections_at start regexps storage cjs given sources s) → SectionsRead s start regexps storage cjs given sources v
  pub debug_read : (file : List ℕ) (offset : ℕ) (t : Tables) (k : Counts) (e : Bool) (t' : Tables)
      → ReadDebug file offset t (Ok (record { value = k; exact = e })) t' → DebugRead (contents_at file offset) t k e t'
  pub writes : (rows : List ℕ) (layout : Layout) (start count large : ℕ) (b : List ℕ) (e : ℕ) (b' : List ℕ)
      → Written rows layout start count large b e b' → Writes rows layout start count large b e b'
  -- two writes that leave the same buffer were of the same rows but for the 17th word, wherever their large headers went and whatever the buffers were
  pub same_rows : (rows₁ rows₂ : List ℕ) (layout : Layout) (start count large₁ large₂ : ℕ) (b₁ b₂ : List ℕ) (e₁ e₂ : ℕ) (b' : List ℕ)
      → Written rows₁ layout start count large₁ b₁ e₁ b' → Written rows₂ layout start count large₂ b₂ e₂ b'
      → SameRecords rows₁ rows₂ count
  -- and the same rows, whatever their 17th words and whatever is lent behind them, give one answer and one buffer: the writer does not look at those
  pub one_output : (rows₁ rows₂ : List ℕ) (layout : Layout) (start count large : ℕ) (b : List ℕ) (r q : Res ℕ Refusal) (b₁ b₂ : List ℕ)
      → count * width ≤ length rows₁ → count * width ≤ length rows₂ → SameRecords rows₁ rows₂ count
      → WriteFunctions rows₁ layout start count large b r b₁ → WriteFunctions rows₂ layout start count large b q b₂ → (r ≡ q) × (b₁ ≡ b₂)
  pub place_read : (s : List ℕ) (layout : Layout) (start count : ℕ) (t t' : Table) → ReadFunctions s layout start count t (Ok tt) t'
      → (i : ℕ) → i < count → Tells s layout (header_at layout start i) i (row_at width t'.rows i)
  pub place_refreshed : (s : List ℕ) (layout : Layout) (start count low high k : ℕ) (t t' : Table)
      → RefreshFunctions s layout start count low high t (Ok k) t' → (i : ℕ) → i < count → meets s layout start low high i ≡ true
      → Tells s layout (header_at layout start i) i (row_at width t'.rows i)
  pub place_row : (s : List ℕ) (layout : Layout) (start i : ℕ) (row row' : List ℕ) → FunctionRow s layout start i row (Ok tt) row'
      → Tells s layout (header_at layout start i) i row'
  pub place_one : (s : List ℕ) (layout : Layout) (start i : ℕ) (r : Record) (place : ℕ) → answered (Ok (found_at place r)) ≡ read_function s layout start i
      → Tells s layout (header_at layout start i) i (row_words (found_at place r))
  pub totals_read : (s : List ℕ) (layout : Layout) (start count : ℕ) (t t' : Table) → ReadFunctions s layout start count t (Ok tt) t' → True t' count
  pub totals_kept : (s : List ℕ) (layout : Layout) (start count low high k : ℕ) (t t' : Table)
      → RefreshFunctions s layout start count low high t (Ok k) t' → True t count → True t' count
  pub totals_moved : (s : List ℕ) (layout : Layout) (start count low high k : ℕ) (t t' : Table)
      → RefreshFunctions s layout start count low high t (Ok k) t' → TotalsMoved (meets s layout start low high) count k t t'
  pub totals_passed : (s : List ℕ) (layout : Layout) (start count low high k : ℕ) (t t' : Table)
      → RefreshFunctions s layout start count low high t (Ok k) t' → (i : ℕ) → i < count → meets s layout start low high i ≡ true
      → Passed s layout start low high t i
  pub totals_fit : (s : List ℕ) (layout : Layout) (start count low high : ℕ) (t t' : Table) (x : Refusal) → ((i : ℕ) → get_or s i 0 < 256) → Words t.rows
      → True t count → RefreshFunctions s layout start count low high t (Err x) t' → x.number ≡ 16 → ⊥
  pub totals_stopped : (s : List ℕ) (layout : Layout) (start count low high : ℕ) (t t' : Table) (x : Refusal)
      → RefreshFunctions s layout start count low high t (Err x) t' → x.number ≡ 16 → Stopped s layout start count low high t x.place
  pub either_order : (s : List ℕ) (layout : Layout) (start count low₁ high₁ low₂ high₂ : ℕ) (t : Table) (a ab b ba : Result) → Sound s count t
      → Panes s layout start count low₁ high₁ low₂ high₂ t a ab b ba → EitherOrder s count a ab b ba
  pub twice : (s : List ℕ) (layout : Layout) (start count low high : ℕ) (t : Table) (a aa : Result) → True t count → Over s layout start count low high t a
      → Over s layout start count low high a.table aa → aa ≡ a
  pub any_order : (s : List ℕ) (layout : Layout) (start count low₁ high₁ low₂ high₂ k m m' k' : ℕ) (t t₁ t₁₂ t₂ t₂₁ : Table)
      → RefreshFunctions s layout start count low₁ high₁ t (Ok k) t₁ → RefreshFunctions s layout start count low₂ high₂ t₁ (Ok m) t₁₂
      → RefreshFunctions s layout start count low₂ high₂ t (Ok m') t₂ → RefreshFunctions s layout start count low₁ high₁ t₂ (Ok k') t₂₁
      → (k' ≡ k) × (m ≡ m') × (t₁₂ ≡ t₂₁)
  pub any_twice : (s : List ℕ) (layout : Layout) (start count low high k m : ℕ) (t t₁ t₂ : Table)
      → RefreshFunctions s layout start count low high t (Ok k) t₁ → RefreshFunctions s layout start count low high t₁ (Ok m) t₂
      → (m ≡ k) × (t₂ ≡ t₁)
  pub both_written : (s : List ℕ) (layout : Layout) (start count low₁ high₁ low₂ high₂ k m : ℕ) (t t₁ t' : Table)
      → RefreshFunctions s layout start count low₁ high₁ t (Ok k) t₁ → RefreshFunctions s layout start count low₂ high₂ t₁ (Ok m) t'
      → BothWritten s layout start count low₁ high₁ low₂ high₂ t t'
  pub counts_shared : (s : List ℕ) (layout : Layout) (start count low₁ high₁ low₂ high₂ k m : ℕ) (t t' u u' : Table)
      → RefreshFunctions s layout start count low₁ high₁ t (Ok k) t' → RefreshFunctions s layout start count low₂ high₂ u (Ok m) u'
      → k + m ≡ count_of (either (meets s layout start low₁ high₁) (meets s layout start low₂ high₂)) count
      + count_of (both (meets s layout start low₁ high₁) (meets s layout start low₂ high₂)) count
  pub as_one : (s : List ℕ) (layout : Layout) (start count low₁ high₁ low₂ high₂ : ℕ) (t : Table) (a ab b ba c : Result) → Sound s count t
      → Panes s layout start count low₁ high₁ low₂ high₂ t a ab b ba → Touching low₁ high₁ low₂ high₂
      → Over s layout start count (min low₁ low₂) (max high₁ high₂) t c → AsOne s layout start count low₁ high₁ low₂ high₂ t a ab b c
  pub both_fresh : (o s : List ℕ) (layout : Layout) (start count low₁ high₁ low₂ high₂ : ℕ) (t₀ t₁ t t₂ : Table) (a ab b ba : Result)
      (r : Res (Unit {0}) Refusal) → Sound s count t → EditedTwice o s layout start count low₁ high₁ low₂ high₂ t₀ t₁ t
      → Panes s layout start count low₁ high₁ low₂ high₂ t a ab b ba → ReadFunctions s layout start count t₀ r t₂ → BothFresh r t₂ a ab b ba
  pub mended : (o s s' : List ℕ) (layout : Layout) (start count low₁ high₁ low₂ high₂ k : ℕ) (t₀ t₁ t t₂ t₃ u : Table)
      (r : Res (Unit {0}) Refusal) (q : Res ℕ Refusal) → Sound s count t → EditedTwice o s layout start count low₁ high₁ low₂ high₂ t₀ t₁ t
      → RefreshFunctions s layout start count low₂ high₂ t (Ok k) u → Same s s' low₁ high₁ → ((i : ℕ) → get_or s' i 0 < 256)
      → ReadFunctions s' layout start count t₀ r t₂ → RefreshFunctions s' layout start count low₁ high₁ u q t₃ → AsFresh r q u t₂ t₃
  pub judged : (g : Given) (r : Bundle) → says_bundle r ≡ check_bundle g → Judges g r
