-- What proves each theorem of specs/Theorems.
use Prim.Native.Nat.{ℕ, ◌^◌, ◌≤◌, ◌<◌, min, max}
use mathlib.Core.Path.{◌≡◌, ap, sym, ◌∙◌}
use mathlib.Core.List.{List}
use mathlib.Core.Bool.{Bool}
use native.Mathlib.Omega.{arith}
use lib.ListN.{length, get_or}
use seplogic.Ra.Ura.{Ura}
use base.Logic.{SProp}
use prog.Memory.{Memory}
use prog.Routine.{Routine}
use types.Logic.{Logic}
use contract.Monad.{Fun}
use Rattle.std.specs.Prelude.{Result as Res, Ok, Err}
use Rattle.hbc_io.specs.Answer.{gives, told}
use Rattle.hbc_io.specs.Answers.{answered}
use Rattle.hbc_io.specs.declared.Cursor.{Cursor}
use Rattle.hbc_io.specs.declared.Refusal.{Refusal}
use Rattle.hbc_rows.specs.Rows.{entry_at}
use Rattle.hbc_function_record.specs.declared.Layout.{Layout}
use Rattle.hbc_function_record.specs.declared.Found.{Found}
use Rattle.hbc_function_record.specs.Row.{ROW_INFO_OFFSET, ROW_FLAGS, row_words}
use Rattle.hbc_function_header.specs.Header.{header_at, function_at}
use Rattle.hbc_function.specs.Table.{Table, ReadFunctions}
use Rattle.hbc_function.specs.Refresh.{RefreshFunctions}
use Rattle.hbc_table.specs.Table.{ReadTable}
use Rattle.hbc_table_strings.specs.declared.Mode.{Mode}
use Rattle.hbc_table_strings.specs.Strings.{DecodeStrings}
use Rattle.hbc_buffer.specs.Series.{ReadSeries}
use Rattle.hbc_buffer_object.specs.declared.Object.{Object}
use Rattle.hbc_buffer_object.specs.Object.{named as choice, ReadObject}
use Rattle.hbc_parsing_handlers.specs.Handlers.{ReadHandlers}
use Rattle.hbc_parsing_sections.specs.declared.Sections.{Sections}
use Rattle.hbc_parsing_sections.specs.Sections.{sections_at}
use Rattle.hbc_parsing_sections.proofs.Laid.{laid}
use Rattle.hbc_debug.specs.Debug.{Tables, contents_at, string_count, ReadDebug}
use Rattle.hbc_debug.specs.declared.Counts.{Counts}
use Rattle.hbc_claims_io.proofs.Leb128 as leb
use Rattle.hbc_claims_io.proofs.Left as r_io
use Rattle.hbc_claims_io.proofs.Unique as u_io
use Rattle.hbc_claims_io.proofs.Reader as u_reader
use Rattle.hbc_claims_function.proofs.Meeting as meeting
use Rattle.hbc_claims_function.proofs.Packed as packs
use Rattle.hbc_claims_function.proofs.BitLayout as layouts
use Rattle.hbc_claims_function.proofs.Refreshed as fresh
use Rattle.hbc_claims_function.proofs.Tables.{filled, rewritten}
use Rattle.hbc_claims_function.proofs.Totals as totals
use Rattle.hbc_claims_function.proofs.Stops as stops
use Rattle.hbc_claims_function.proofs.Panes as panes
use Rattle.hbc_claims_function.proofs.Again as again
use Rattle.hbc_claims_function.proofs.Together as together
use Rattle.hbc_claims_function.proofs.Unique as u_function
use Rattle.hbc_claims_function.proofs.Written as written
use Rattle.hbc_claims_function.proofs.Places as places
use Rattle.hbc_claims_function.proofs.OneOutput as outputs
use Rattle.hbc_claims_law.specs.Terms.{Same}
use Rattle.hbc_claims_function.specs.Written.{Written}
use Rattle.hbc_claims_function.specs.Panes.{Result, Over}
use Rattle.hbc_claims_table.proofs.Tables as r_table
use Rattle.hbc_claims_table.proofs.Strings as r_strings
use Rattle.hbc_claims_table.proofs.Modes as r_modes
use Rattle.hbc_claims_table.proofs.Unique as u_table
use Rattle.hbc_claims_text.proofs.Utf8 as utf8
use Rattle.hbc_claims_text.proofs.Utf16 as utf16
use Rattle.hbc_claims_text.proofs.Put as r_text
use Rattle.hbc_claims_text.proofs.Row as r_row
use Rattle.hbc_claims_text.proofs.Unique as u_text
use Rattle.hbc_claims_json.proofs.Array as r_array
use Rattle.hbc_claims_json.proofs.Rows as r_rows
use Rattle.hbc_claims_json.proofs.Put as r_json
use Rattle.hbc_claims_json.proofs.Cases as arrays
use Rattle.hbc_claims_json.proofs.Unique as u_json
use Rattle.hbc_claims_buffer.proofs.Refused as r_buffer
use Rattle.hbc_claims_buffer.proofs.Used as used
use Rattle.hbc_claims_buffer.proofs.Parts as parts
use Rattle.hbc_claims_buffer.proofs.Values as values
use Rattle.hbc_claims_buffer.proofs.Tags as tags
use Rattle.hbc_claims_buffer.proofs.Unique as u_buffer
use Rattle.hbc_claims_parsing.specs.HandlerRows.{OfRecord}
use Rattle.hbc_claims_parsing.proofs.HandlerRows as rows_of_lem
use Rattle.hbc_claims_parsing.proofs.Why as whys
use Rattle.hbc_claims_parsing.proofs.Lists as lists
use Rattle.hbc_claims_parsing.proofs.SectionPairs as pairs
use Rattle.hbc_claims_parsing.proofs.SectionSizes as sizes
use Rattle.hbc_claims_parsing.proofs.Unique as u_parsing
use Rattle.hbc_claims_debug.proofs.AllRead as steps
use Rattle.hbc_claims_debug.proofs.Callees as callees
use Rattle.hbc_claims_debug.proofs.DebugRows as debug_rows
use Rattle.hbc_claims_debug.proofs.Left as r_debug
use Rattle.hbc_claims_debug.proofs.Marks as marks
use Rattle.hbc_claims_debug.proofs.Unique as u_debug
use Rattle.hbc_claims_clean.proofs.Cases as bundles
use Rattle.hbc_claims_clean.proofs.Judging as bundle_judging
use Rattle.hbc_claims_clean.proofs.Unique as u_clean
use Rattle.hbc_claims_c.proofs.Left as r_c
use Rattle.hbc_claims_c.proofs.Why as c_whys
use Rattle.hbc_claims_c.proofs.Unique as u_c
use Rattle.hbc_claims.specs.Theorems.{Unique, Theorems, AsFresh, AsOne, BothFresh, CountedLeft, CursorLeft, DebugRead, Edited, EditedTwice, EitherOrder, Exact, ExportedLeft, HandlersRead, Meets, Modes, ObjectRead, Packed, Panes, Reader, Reads, Refreshes, SectionsRead, SeriesRead, Sound, StringsRead, TableRead, TablesLeft, Texts, Touching, Whole, Writes}
use Rattle.hbc_claims.proofs.Cases.{hold}
use Rattle.hbc_claims.proofs.Unique as u_listing
use Rattle.hbc_claims.proofs.Records as u_records

unique : Unique
unique = record {
  cursor = u_io.unique;
  reader = u_reader.unique;
  functions = u_function.unique;
  strings = u_table.unique;
  texts = u_text.unique;
  json = u_json.unique;
  literals = u_buffer.unique;
  handlers = u_parsing.unique;
  debug = u_debug.unique;
  bundles = u_clean.unique;
  listing = u_listing.unique;
  records = u_records.unique;
  exported = u_c.unique;
}

reader : {M : Type 1} {𝓤 : Ura M} (𝓛 : Logic 𝓤) (mem : Memory → SProp 𝓤) (run : Routine → Fun 𝓤) → Reader 𝓛 mem run
reader 𝓛 mem run = record {
  new = u_reader.new_clause 𝓛 mem run;
  position = u_reader.position_clause 𝓛 mem run;
  remaining = u_reader.remaining_clause 𝓛 mem run;
  seek = u_reader.seek_clause 𝓛 mem run;
  read_u32 = u_reader.read_u32_clause 𝓛 mem run;
  read_uleb128 = u_reader.read_uleb128_clause 𝓛 mem run;
  read_bytes = u_reader.read_bytes_clause 𝓛 mem run;
  part = u_reader.part_clause 𝓛 mem run;
}

as_fresh : {a b : List ℕ} {layout : Layout} {start count low high : ℕ} {t t₀ t₁ t₂ t₃ : Table} {r : Res (Unit {0}) Refusal} {q : Res ℕ Refusal} → Edited a b layout start count low high t t₀ t₁
    → ReadFunctions b layout start count t r t₂ → RefreshFunctions b layout start count low high t₁ q t₃ → AsFresh r q t₁ t₂ t₃
as_fresh {layout = layout} {start = start} {count = count} v f g =
    let d = fresh.refreshed_as_fresh v.same layout start count v.read v.rows v.totals v.valid.0 v.valid.1 v.bytes v.words f g in
    record {
      answers = fresh.answers v.same layout start count v.read v.rows v.totals v.valid.0 v.valid.1 v.bytes v.words f g;
      accepted = λ e. (d.when_read e).2;
      refused = λ x e. (d.when_refused x e).1;
    }

refreshes : {s : List ℕ} {layout : Layout} {start count low high k : ℕ} {t t' : Table} → RefreshFunctions s layout start count low high t (Ok k) t'
    → Refreshes s layout start count low high t k t'
refreshes v = let w = rewritten v in record { rows = w.met; others = w.unmet; behind = w.behind; counts = w.counts }

-- ---- two refreshes of one file

fit : (s : List ℕ) (count : ℕ) (t : Table) → Sound s count t → panes.Fit count t
fit s count t v = record { true_of = v.totals; sized = λ i h. let x = v.sizes i h in omega arith }

either_order : (s : List ℕ) (layout : Layout) (start count low₁ high₁ low₂ high₂ : ℕ) (t : Table) (a ab b ba : Result) → Sound s count t
    → Panes s layout start count low₁ high₁ low₂ high₂ t a ab b ba → EitherOrder s count a ab b ba
either_order s layout start count low₁ high₁ low₂ high₂ t a ab b ba w v =
    let f = fit s count t w in let y = w.bytes in
    let p = v.first in let q = v.second_after in let g = v.second in let h = v.first_after in
    record {
      first_told = panes.one_says s y layout start count t f low₂ high₂ low₁ high₁ b ba a g h p;
      second_told = panes.one_says s y layout start count t f low₁ high₁ low₂ high₂ a ab b p q g;
      same = panes.tables_same s y layout start count t f low₁ high₁ low₂ high₂ a ab b ba p q g h;
      sound = let z = panes.after s y layout start count low₂ high₂ ab.answer a.table ab.table q
          (panes.after s y layout start count low₁ high₁ a.answer t a.table p f) in
          record { totals = z.true_of; bytes = y; sizes = λ i l. let x = z.sized i l in omega arith };
      first_refused = λ x e. (
        panes.other_stands s y layout start count t f low₁ high₁ low₂ high₂ a ab b x p q g e,
        panes.refused_after s y layout start count t f low₂ high₂ low₁ high₁ b ba a x g h p e,
      );
      second_refused = λ x e. (
        panes.refused_after s y layout start count t f low₁ high₁ low₂ high₂ a ab b x p q g e,
        panes.other_stands s y layout start count t f low₂ high₂ low₁ high₁ b ba a x g h p e,
      );
    }

as_one : (s : List ℕ) (layout : Layout) (start count low₁ high₁ low₂ high₂ : ℕ) (t : Table) (a ab b ba c : Result) → Sound s count t
    → Panes s layout start count low₁ high₁ low₂ high₂ t a ab b ba → Touching low₁ high₁ low₂ high₂
    → Over s layout start count (min low₁ low₂) (max high₁ high₂) t c → AsOne s layout start count low₁ high₁ low₂ high₂ t a ab b c
as_one s layout start count low₁ high₁ low₂ high₂ t a ab b ba c w v u o =
    let f = fit s count t w in
    let one = together.as_one s w.bytes layout start count t f low₁ high₁ low₂ high₂ a b v.first v.second u.rise.0 u.rise.1 u.touch.0 u.touch.1 c o ab in
    record {
      answers = together.says_one s w.bytes layout start count t f low₁ high₁ low₂ high₂ a b v.first v.second u.rise.0 u.rise.1 u.touch.0 u.touch.1 c o;
      table = λ j e. (one j v.second_after e).1;
      counts = λ j e. (one j v.second_after e).0;
      refused = λ x e. (panes.told s layout start count (min low₁ low₂) (max high₁ high₂) t c o e).leaves;
    }

both_fresh : (o s : List ℕ) (layout : Layout) (start count low₁ high₁ low₂ high₂ : ℕ) (t₀ t₁ t t₂ : Table) (a ab b ba : Result) (r : Res (Unit {0}) Refusal) → Sound s count t
    → EditedTwice o s layout start count low₁ high₁ low₂ high₂ t₀ t₁ t → Panes s layout start count low₁ high₁ low₂ high₂ t a ab b ba
    → ReadFunctions s layout start count t₀ r t₂ → BothFresh r t₂ a ab b ba
both_fresh o s layout start count low₁ high₁ low₂ high₂ t₀ t₁ t t₂ a ab b ba r w u v g =
    let f = fit s count t w in
    let e = either_order s layout start count low₁ high₁ low₂ high₂ t a ab b ba w v in
    let last = together.both_fresh u.same w.bytes layout start count u.read u.rows f a b v.first v.second u.first.0 u.first.1 u.second.0
    u.second.1 r t₂ g ab v.second_after in
    record {
      answers = together.says_fresh u.same w.bytes layout start count u.read u.rows f a b v.first v.second u.first.0 u.first.1 u.second.0
          u.second.1 r t₂ g;
      table = λ h. (last h, sym e.same ∙ last h);
    }

mended : (o s s' : List ℕ) (layout : Layout) (start count low₁ high₁ low₂ high₂ k : ℕ) (t₀ t₁ t t₂ t₃ u : Table) (r : Res (Unit {0}) Refusal) (q : Res ℕ Refusal) → Sound s count t
    → EditedTwice o s layout start count low₁ high₁ low₂ high₂ t₀ t₁ t → RefreshFunctions s layout start count low₂ high₂ t (Ok k) u → Same s s' low₁ high₁
    → ((i : ℕ) → get_or s' i 0 < 256) → ReadFunctions s' layout start count t₀ r t₂ → RefreshFunctions s' layout start count low₁ high₁ u q t₃ → AsFresh r q u t₂ t₃
mended o s s' layout start count low₁ high₁ low₂ high₂ k t₀ t₁ t t₂ t₃ u r q w v p m y f g =
    let ends : high₁ ≤ length s' = rw (← m.long) v.first.1 in
    record {
      answers = together.mended_answers v.same m layout start count k v.read v.rows p w.bytes y (fit s count t w) v.first.0 ends f g;
      accepted = together.mended_table v.same m layout start count k v.read v.rows p w.bytes y (fit s count t w) v.first.0 ends f g;
      refused = λ x e. panes.left_when s' layout start count low₁ high₁ q u t₃ x g
          (sym (together.mended_answers v.same m layout start count k v.read v.rows p w.bytes y (fit s count t w) v.first.0 ends f g) ∙ ap answered e);
    }

met : (s : List ℕ) (layout : Layout) (start low high i : ℕ) → Meets s layout start low high i (header_at layout start i)
met s layout start low high i = record {
  none = meeting.met_none s layout start low high i;
  own = meeting.met_own s layout start low high i;
  large = meeting.met_large s layout start low high i;
  shares = λ a n e. (max a low, meeting.shares_byte a n low high e);
  shared = λ a n j v. meeting.byte_shares v;
}

reads : {s : List ℕ} {layout : Layout} {start count : ℕ} {t t' : Table} → ReadFunctions s layout start count t (Ok tt) t' → Reads s layout start count t t'
reads v = ((filled v).rows, (filled v).behind)

cursor_left : (s : List ℕ) (c : Cursor) (k : Refusal) (n : Cursor) → CursorLeft s c k n
cursor_left s c k n = record {
  number = r_io.number_left s c;
  plain = r_io.plain_left s c;
  read_literal = λ tag. r_buffer.literal_left tag s c;
  bytes = r_io.bytes_left s c;
  seek = r_io.seek_left s c;
  align = r_io.align_left s c;
  leb = r_io.leb_left_lem s c;
  bits = r_io.bits_left s c;
  cstring = r_io.zero_left s c;
  prefix = r_io.prefix_left s c;
  marked = r_io.marked_left s c;
}

tables_left : (k : Refusal) → TablesLeft k
tables_left k = record {
  table = λ width s c count t t' n. r_table.table_left width s c count t t' k n;
  decode_strings = λ mode count kinds small overflow storage t t' v. v.leaves;
  put_text = λ text s t t' v. v.leaves;
  string_text = λ storage rows index t t' v. v.leaves;
  strings_json = λ storage rows count t t' v. v.leaves;
  read_functions = λ s layout start count t t' v. v.leaves;
  refresh_functions = λ s layout start count low high t t' v. v.leaves;
  function_row = λ s layout start i t t' v. v.leaves;
  write_functions = λ rows layout start count large b b' v. v.leaves;
  read_series = λ s offset count ks ps ks' ps'. r_buffer.series_left s offset count;
  object = λ keys values b offset count ks ps ks' ps'. r_buffer.object_left keys values b offset count;
  handlers = λ s functions count t t' v. v.leaves;
  read_debug = λ file offset t t' v. v.leaves;
  write_strings = λ s base count t t'. (r_debug.left).strings s base count t t' k;
  write_scopes = λ s strings counts t t'. (r_debug.left).scopes s strings counts t t' k;
  write_callees = λ s strings count t t'. (r_debug.left).callees s strings count t t' k;
}

exported_left : (s : List ℕ) (at r at' : ℕ) → (r ≡ 0 → ⊥) → ExportedLeft s at r at'
exported_left s at r at' h = record {
  hbc_seek = r_c.hbc_seek s at h;
  hbc_align = r_c.hbc_align s at h;
  number = r_c.hbc_number s at h;
  plain = r_c.hbc_plain s at h;
  leb = r_c.hbc_leb s at h;
  hbc_read_bytes = λ n. r_c.hbc_bytes s at h n;
  hbc_read_cstring = r_c.hbc_cstring s at h;
  hbc_read_length_prefixed_string = r_c.hbc_prefixed s at h;
  hbc_function_ground = λ l start i held. r_c.hbc_ground l s start i held h;
  table = λ width count t. r_c.hbc_table width s at count t h;
  hbc_read_literal = λ tag. r_c.hbc_literal tag s at h;
  hbc_read_handlers = λ functions count t. r_c.hbc_handlers s functions count t h;
  hbc_strings_json = λ rows count t. r_c.hbc_strings_json s rows count t h;
  hbc_why_no_handlers = λ functions id n. r_c.hbc_why s functions id n h;
  hbc_read_debug = λ offset t held. r_c.hbc_debug s offset t held h;
}

counted_left : (s : List ℕ) (r : ℕ) → 2 ^ 32 ≤ r → CountedLeft s r
counted_left s r h = record {
  hbc_read_functions = λ l start count t. r_c.hbc_functions l s start t h count;
  hbc_refresh_functions = λ l start count low high t. r_c.hbc_refresh l s start t h count low high;
  hbc_read_function = λ l start i t. r_c.hbc_function l s start t h i;
  hbc_write_functions = λ rows l start count large. r_c.hbc_write l rows start count large s h;
  hbc_decode_strings = λ mode count kinds small overflow t k. r_c.hbc_strings mode count kinds small overflow s t k h;
  hbc_string_text = λ rows index t b. r_c.hbc_text s rows index t b h;
  hbc_read_series = λ offset count ks ps. r_c.hbc_series s offset count ks ps h;
  hbc_read_object = λ keys values n offset count ks ps. r_c.hbc_object keys values n offset count ks ps h;
  hbc_trailing_sections = λ start regexps storage cjs given sources t. r_c.hbc_sections s start regexps storage cjs given sources t h;
  hbc_check_bundle = λ l start count kinds strings small overflow storage keys values series place.
      r_c.hbc_bundle l s start count kinds strings small overflow storage keys values series place h;
}

exact : (bs : List ℕ) → Exact bs
exact bs = record {
  unsigned = leb.unsigned_kept bs;
  unsigned_only = leb.unsigned_only bs;
  signed = leb.signed_kept bs;
  signed_only = leb.signed_only bs;
  nine_unsigned = leb.nine_unsigned bs;
  nine_signed = leb.nine_signed bs;
  mark = leb.mark_tells bs;
}

packing : (s : List ℕ) (at i : ℕ) → Packed s at i
packing s at i = record { legacy = packs.legacy_bits; modern = packs.modern_bits; not_added = packs.not_added; large = λ layout. packs.large s layout at i }

whole : (s : List ℕ) (k : ℕ) → Whole s k
whole s k =
    let all = steps.all_read s k in
    record { tags = tags.enough k s; strings = all.strings; scopes = all.scopes; string_numbers_lem = all.string_numbers_lem; scope_numbers_lem = all.scope_numbers_lem }

table_read : {width : ℕ} {s : List ℕ} {c : Cursor} {count : ℕ} {t : List ℕ} {n : Cursor} {t' : List ℕ} → ReadTable width s c count t (Ok n) t'
    → TableRead width s c count t n t'
table_read {width} {s} {c} {count} {t} {n} {t'} v = record {
  cursor = r_table.read_moves width s c count t t' n v;
  word = r_table.read_word width s c count t t' n v;
  behind = r_table.read_behind width s c count t t' n v;
}

strings_read : (mode : Mode) (count : ℕ) (kinds small overflow storage t : List ℕ) (n : ℕ) (t' : List ℕ) → DecodeStrings mode count kinds small overflow storage t (Ok n) t'
    → StringsRead mode count kinds small overflow storage t n t'
strings_read mode count kinds small overflow storage t n t' v =
    let e = r_strings.decoded_count mode count kinds small overflow storage t t' n v in
    record {
      counts = e;
      row = r_strings.decoded_row mode count kinds small overflow storage t t' n v;
      behind = r_strings.decoded_behind mode count kinds small overflow storage t t' n v;
      within = r_strings.row_within mode kinds small overflow (length storage);
      bytes = r_strings.decoded_bytes mode count kinds small overflow storage t t' n v;
      pairs = rw e (r_modes.pairs_there mode small overflow count storage t n (sym v.says));
    }

modes : (count : ℕ) (kinds small overflow storage : List ℕ) → Modes count kinds small overflow storage
modes count kinds small overflow storage = record {
  as_before = λ t t' r v. r_modes.as_before kinds small overflow count storage t r t' v;
  before_as = λ t t' r v. r_modes.before_as kinds small overflow count storage t r t' v;
  kind = r_modes.by_lengths kinds;
  row = r_modes.as_hermes kinds small overflow (length storage);
  lacking = λ mode t t' k v e. r_modes.pair_lacking mode small overflow count storage t k e (sym v.says);
  agree = λ t t₁ t₂ r q v a b. r_modes.modes_agree kinds small overflow count storage t r q t₁ t₂ v a b;
}

texts : Texts
texts = record { codes = utf8.all_codes; utf8 = utf8.of_utf8; utf16 = utf16.of_utf16; same = utf16.of_scalars; row = r_row.of_row }

series_read : (s : List ℕ) (offset count : ℕ) (ks ps : List ℕ) (n : ℕ) (ks' ps' : List ℕ) → ReadSeries s offset count ks ps (Ok n) ks' ps'
    → SeriesRead s offset count ks ps n ks' ps'
series_read s offset count ks ps n ks' ps' v = record {
  ends = values.series_ends s offset count ks ps n ks' ps' v;
  none = values.series_none s offset count ks ps n ks' ps' v;
  used = λ some. used.used_within s offset count (length ks) (length ps) n some (sym v.says);
  value = values.series_value s offset count ks ps n ks' ps' v;
  behind = (values.series_kinds s offset count ks ps n ks' ps' v, values.series_payloads s offset count ks ps n ks' ps' v);
}

object_read : (keys values : List ℕ) (b : Bool) (offset count : ℕ) (ks ps : List ℕ) (o : Object) (ks' ps' : List ℕ)
    → ReadObject keys values b offset count ks ps (Ok o) ks' ps' → ObjectRead keys values b offset count ks ps o ks' ps'
object_read keys values b offset count ks ps o ks' ps' v = record {
  series = series_read (choice b keys values) offset count ks ps o.len ks' ps' (parts.object_series keys values b offset count ks ps o ks' ps' v);
  names = parts.object_names keys values b offset count ks ps o ks' ps' v;
  some = parts.object_some keys values b offset count ks ps o ks' ps' v;
  none = parts.object_none keys values b offset count ks ps o ks' ps' v;
}

handlers_read : (s functions : List ℕ) (count : ℕ) (t : List ℕ) (n : ℕ) (t' : List ℕ) → ReadHandlers s functions count t (Ok n) t'
    → HandlersRead s functions count t n t'
handlers_read s fs count t n t' v = record {
  counts = rows_of_lem.listed_count s fs count t n t' v;
  some = rows_of_lem.shown_rows s fs;
  only = rows_of_lem.rows_shown s fs;
  whose = rows_of_lem.listed_whose s fs count t n t' v;
  row = rows_of_lem.listed_row s fs count t n t' v;
  behind = rows_of_lem.listed_behind s fs count t n t' v;
}

-- two words of a row, of what is found there
own_header : (s : List ℕ) (layout : Layout) (start count : ℕ) (t t' : Table) → ReadFunctions s layout start count t (Ok tt) t'
    → (id : ℕ) → id < count → (f : Found) × (function_at s layout start id ≡ gives f) × OfRecord f.own t'.rows id
unfolding entry_at
own_header s layout start count t t' v id h =
    let all : Reads s layout start count t t' = reads v in
    let info = all.0 id ROW_INFO_OFFSET h (omega arith) in
    let flags = all.0 id ROW_FLAGS h (omega arith) in
    let same : flags.read_as ≡ info.read_as = cc (sym flags.found ∙ info.found) in
    (info.read_as, info.found, rows_of_lem.of_record info.read_as info.is (flags.is ∙ ap (λ (r : Found). get_or (row_words r) ROW_FLAGS 0) same))

sections_read : (s : List ℕ) (start regexps storage cjs : ℕ) (given : Bool) (sources : ℕ) (v : Sections)
    → answered (Ok v) ≡ told (sections_at start regexps storage cjs given sources s) → SectionsRead s start regexps storage cjs given sources v
sections_read s start regexps storage cjs given sources v e =
    let g = sizes.was_got (sections_at start regexps storage cjs given sources s) v e in
    let f = pairs.sections_fit start regexps storage cjs given sources s v g.0 g.1 in
    (laid start regexps storage cjs given sources s v g.0 g.1, sizes.counted start regexps storage cjs given sources s v g.0 g.1, f.0, f.1, f.2)

debug_read : (file : List ℕ) (offset : ℕ) (t : Tables) (k : Counts) (e : Bool) (t' : Tables) → ReadDebug file offset t (Ok (record { value = k; exact = e })) t'
    → DebugRead (contents_at file offset) t k e t'
debug_read file offset t k e t' v = record {
  counts = debug_rows.counts_are file offset t k e t' v;
  exact = marks.told (contents_at file offset) (debug_rows.mark_is file offset t k e t' v);
  strings = debug_rows.string_row_lem file offset t k e t' v;
  scopes = debug_rows.scope_row_lem file offset t k e t' v;
  names = debug_rows.name_row_lem file offset t k e t' v;
  callees = debug_rows.callee_row_lem file offset t k e t' v;
  rising = callees.callees_read (string_count (contents_at file offset)) (contents_at file offset).callees;
  past = debug_rows.past_rows file offset t k e t' v;
}

writes : {rows : List ℕ} {layout : Layout} {start count large : ℕ} {b : List ℕ} {e : ℕ} {b' : List ℕ} → Written rows layout start count large b e b'
    → Writes rows layout start count large b e b'
writes v = record { back = written.reads_back v; header = written.headed v; kept = written.kept v; placed = written.placed v }

-- every one of them
pub theorems : Theorems
theorems = record {
  worked = hold;
  worked_bundles = bundles.hold;
  worked_arrays = arrays.hold;
  unique = unique;
  reader = reader;
  as_fresh = λ a b layout start count low high t t₀ t₁ t₂ t₃ r q v f g. as_fresh v f g;
  refreshes = λ s layout start count low high k t t' v. refreshes v;
  met = met;
  reads = λ s layout start count t t' v. reads v;
  cursor_left = cursor_left;
  tables_left = tables_left;
  exported_left = exported_left;
  counted_left = counted_left;
  exact = exact;
  packing = packing;
  covered = layouts.covered;
  named = layouts.named;
  whole = whole;
  table_read = λ width s c count t n t' v. table_read {width = width} {s = s} {c = c} {count = count} v;
  strings_read = strings_read;
  modes = modes;
  texts = texts;
  text_put = λ text s t r t' v. r_text.puts text s t v;
  row_put = λ s rows k t r t' v. r_row.puts_row s rows k t v;
  json = record { reading = r_array.reading; texts = r_array.of_texts; rows = r_rows.of_rows };
  json_put = λ s rows count t r t' b v. r_json.puts_json s rows count t b v;
  series_read = series_read;
  object_read = object_read;
  handlers_read = handlers_read;
  explained = λ s functions id r v. whys.explains s functions id r v;
  explained_rows = λ s functions id count t r n t' h v w. lists.lists s functions count t n t' w id r h v;
  explained_header = own_header;
  explained_told = c_whys.why_told;
  sections_read = sections_read;
  debug_read = debug_read;
  writes = λ rows layout start count large b e b' v. writes v;
  same_rows = λ rows₁ rows₂ layout start count large₁ large₂ b₁ b₂ e₁ e₂ b' v w. written.same_rows v w;
  one_output = λ rows₁ rows₂ layout start count large b r q b₁ b₂ h k e. outputs.one_output rows₁ rows₂ layout start count large b h k e;
  place_read = places.place_read;
  place_refreshed = places.place_refreshed;
  place_row = places.place_row;
  place_one = places.place_one;
  totals_read = totals.totals_read;
  totals_kept = totals.totals_kept;
  totals_moved = totals.totals_moved;
  totals_passed = stops.totals_passed;
  totals_fit = stops.totals_fit;
  totals_stopped = stops.totals_stopped;
  either_order = either_order;
  twice = λ s layout start count low high t a aa w p q. again.twice s layout start count low high t w a aa p q;
  any_order = panes.accepted_either;
  any_twice = panes.accepted_twice;
  both_written = λ s layout start count low₁ high₁ low₂ high₂ k m t t₁ t' p q. record {
    rows = together.both_met s layout start count low₁ high₁ low₂ high₂ k m t t₁ t' p q;
    others = together.both_unmet s layout start count low₁ high₁ low₂ high₂ k m t t₁ t' p q;
    behind = together.both_behind s layout start count low₁ high₁ low₂ high₂ k m t t₁ t' p q;
  };
  counts_shared = panes.counts_of;
  as_one = as_one;
  both_fresh = both_fresh;
  mended = mended;
  judged = bundle_judging.judges;
}
