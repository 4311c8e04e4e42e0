-- What a refused call leaves of the numbers and tables that were lent. A call that answers a count is refused where its answer is 2^32 or more, any
-- other where it is not 0.
use mathlib.Core.Path.{◌≡◌, refl, sym, ap, subst, ◌∙◌}
use mathlib.Core.Bool.{Bool, true, false, cond}
use mathlib.Core.List.{List}
use Prim.Native.Nat.{ℕ, ◌^◌, ◌≤◌, ◌<◌}
use native.Mathlib.Omega.{arith}
use lib.Ieee.{Float}
use lib.ListN.{length, get_or}
use lib.Dec.{ltb, eqb}
use borrow.Author.Tests.{ltb-false}
use Rattle.hbc_bits.specs.Bits.{field}
use Rattle.hbc_io.specs.Outcome.{Outcome, got, refused, valued, cursor_at}
use Rattle.hbc_io.specs.Answer.{Answer, gives, refuses, told}
use Rattle.std.specs.Prelude.{Option, Some, None, Result, Ok, Err}
use Rattle.hbc_io.specs.Answers.{answered, says_moved}
use Rattle.hbc_io.specs.Lends.{Lends}
use Rattle.hbc_io.specs.Plain.{plain_at, bytes_at, seek_to, align_to}
use Rattle.hbc_io.specs.declared.Cursor.{Cursor}
use Rattle.hbc_io.specs.declared.Refusal.{Refusal}
use Rattle.hbc_io.specs.declared.Stopped.{Stopped as Left}
use Rattle.hbc_io.specs.declared.Span.{Span}
use Rattle.hbc_io.proofs.Reading.{valued_refused}
use Rattle.hbc_io_leb.specs.Leb.{leb_bytes}
use Rattle.hbc_io_strings.specs.Strings.{zero_ended, prefixed, marked_at}
use Rattle.hbc_io_strings.specs.declared.Prefixed.{Prefixed}
use Rattle.hbc_io_strings.proofs.Strings.{mark_refused}
use Rattle.hbc_rows.specs.Rows.{rows}
use Rattle.hbc_function_record.specs.declared.Layout.{Layout}
use Rattle.hbc_function_header.specs.declared.Ground.{Ground}
use Rattle.hbc_function_header.specs.Header.{function_at, function_ground}
use Rattle.hbc_function_header.specs.Meets.{meets}
use Rattle.hbc_function.specs.Table.{Table}
use Rattle.hbc_function.specs.Refresh.{refresh_answer}
use Rattle.hbc_function_write.specs.Write.{write_answer}
use Rattle.hbc_table.specs.Table.{ReadTable}
use Rattle.hbc_table_strings.specs.declared.Mode.{Mode}
use Rattle.hbc_table_strings.specs.Strings.{lesser}
use Rattle.hbc_buffer_literal.specs.declared.Literal.{Literal}
use Rattle.hbc_buffer_literal.specs.Literal.{literal_at}
use Rattle.hbc_buffer.specs.Series.{series_answer}
use Rattle.hbc_buffer.proofs.Exits.{apart}
use Rattle.hbc_buffer_object.specs.declared.Object.{Object}
use Rattle.hbc_buffer_object.specs.Object.{named, object_answer}
use Rattle.hbc_parsing_handlers.specs.Why.{why_answer}
use Rattle.hbc_parsing_handlers.specs.declared.Reason.{Reason}
use Rattle.hbc_parsing_handlers.specs.declared.Table.{Table as Triples}
use Rattle.hbc_parsing_sections.specs.declared.Sections.{Sections}
use Rattle.hbc_io.proofs.Exits.{not_given}
use Rattle.hbc_debug.specs.Debug.{Tables}
use Rattle.hbc_debug.specs.declared.Counts.{Counts}
use Rattle.hbc_debug_parts.specs.declared.Marked.{Marked as Exact}
use Rattle.hbc_c_code.specs.Code.{code_of, code_in, always, value_in, truth}
use Rattle.hbc_c_code.specs.Told.{ToldValue, Moves, Reads}
use Rattle.hbc_c_code.proofs.Tolds.{left}
use Rattle.hbc_c_io.specs.Io.{ReadsSpan, Marked}
use Rattle.hbc_c_function.specs.Function.{Places, GroundTold, ToldFunctions, ToldRefresh, ToldWrite, ToldFunction, ToldGround}
use Rattle.hbc_c_function.proofs.ByLayouts.{by_layout}
use Rattle.hbc_c_table.specs.Table.{ToldTable, ToldStrings}
use Rattle.hbc_c_buffer.specs.Buffer.{yes_of, LiteralTold, ToldLiteral, ToldSeries, ToldObject}
use Rattle.hbc_c_parsing.specs.Parsing.{why_number, handlers_in, section_width, into_by, sections_answer, ToldHandlers, ToldWhy, ToldSections}
use Rattle.hbc_c_debug.specs.Debug.{Lent as Numbers, says_lent, ToldDebug}
use Rattle.hbc_claims_law.specs.Terms.{count_of, leb_left, text_left, PrefixLeft}
use Rattle.hbc_claims_io.proofs.Left.{plain_left, number_left, bytes_left, seek_left, align_left, leb_left_lem, zero_left, prefix_left}
use Rattle.hbc_claims_function.proofs.Scans.{count_le, scan_counts}
use Rattle.hbc_claims_function.proofs.Accepted.{refreshable, writable}
use Rattle.hbc_claims_table.proofs.Tables.{table_left}
use Rattle.hbc_claims_table.proofs.Strings.{decoded_count}
use Rattle.hbc_claims_text.proofs.Row.{of_row, puts_row}
use Rattle.hbc_text.specs.StringText.{string_text}
use Rattle.hbc_c_text.specs.Text.{ToldText, ToldStringsJson}
use Rattle.hbc_clean.specs.Bundle.{Given, given, Bundle, says_bundle, check_bundle}
use Rattle.hbc_claims_clean.proofs.Judging.{judges}
use Rattle.hbc_c_clean.specs.Clean.{rule_of, place_left, BundleTold, ToldBundle}
use Rattle.hbc_claims_buffer.proofs.Refused.{literal_left}
use Rattle.hbc_claims_buffer.proofs.Parts.{gave}
use Rattle.hbc_claims_buffer.proofs.Used.{used_small}

-- ---- the cursor layer

-- the refusal, and where the read left the cursor
pub record Stopped {A : Type 0} (o : Outcome A) (r at : ℕ) : Type 0 where
  pub why : Refusal
  pub next : Cursor
  pub was : refused why next ≡ o
  pub code : r ≡ code_of why
  pub cursor : at ≡ next.at

stopped : {A : Type 0} (o : Outcome A) {r at : ℕ} → Moves o r at → (r ≡ 0 → ⊥) → Stopped o r at
stopped (got v n) m h = absurd (h m.says)
stopped (refused k n) m h = record { why = k; next = n; was = refl; code = m.says; cursor = m.moves }

value_left : {A : Type 0} (o : Outcome A) {before value : A} {r at : ℕ} → Reads o before r at value → (r ≡ 0 → ⊥) → value ≡ before
value_left (got v n) t h = absurd (h t.tells.says)
value_left (refused k n) t h = t.leaves

span_left : (o : Outcome Span) {start₀ len₀ r at start len : ℕ} → ReadsSpan o start₀ len₀ r at start len → (r ≡ 0 → ⊥)
    → (start ≡ start₀) × (len ≡ len₀)
span_left (got v n) t h = absurd (h t.tells.says)
span_left (refused k n) t h = (t.starts, t.counts)

mark_left : {P : Type 0} {o : Outcome Bool} {exact₀ exact : ℕ} {k : Refusal} {n : Cursor} → Marked P o exact₀ exact → o ≡ refused k n → exact ≡ exact₀
mark_left {exact₀ = exact₀} t e = t.marks ∙ ap (λ (o : Outcome Bool). value_in (told (valued truth o)) exact₀) e

-- where no refusal moves the cursor it is where it was
at_left : {A : Type 0} {o : Outcome A} {r at at' : ℕ} → ((k : Refusal) (n : Cursor) → refused k n ≡ o → n ≡ cursor_at at) → Stopped o r at' → at' ≡ at
at_left f v = v.cursor ∙ ap (λ (c : Cursor). c.at) (f v.why v.next v.was)

module _ (s : List ℕ) (at : ℕ) {r at' : ℕ} (h : r ≡ 0 → ⊥) where
  pub hbc_seek : (to : ℕ) → Moves (seek_to s (cursor_at at) to) r at' → at' ≡ at
  hbc_seek to m = at_left (λ k n. seek_left s (cursor_at at) to) (stopped _ m h)

  pub hbc_align : (a : ℕ) → Moves (align_to s (cursor_at at) a) r at' → at' ≡ at
  hbc_align a m = at_left (λ k n. align_left s (cursor_at at) a) (stopped _ m h)

  pub hbc_number : (w : ℕ) {before value : ℕ} → Reads (plain_at w s (cursor_at at)) before r at' value → (at' ≡ at) × (value ≡ before)
  hbc_number w t = (at_left (λ k n. number_left s (cursor_at at) w) (stopped _ t.tells h), value_left _ t h)

  pub hbc_plain : {A : Type 0} (w : ℕ) (f : ℕ → A) {before value : A} → Reads (valued f (plain_at w s (cursor_at at))) before r at' value
      → (at' ≡ at) × (value ≡ before)
  hbc_plain w f t = (at_left (λ k n. plain_left s (cursor_at at) w f) (stopped _ t.tells h), value_left _ t h)

  pub hbc_leb : {A : Type 0} (f : List ℕ → A) (mark : List ℕ → Bool) {before value : A} {exact₀ exact : ℕ}
      → Marked (Reads (valued f (leb_bytes s (cursor_at at))) before r at' value) (valued mark (leb_bytes s (cursor_at at))) exact₀ exact
      → (k : Refusal) × (r ≡ code_of k) × (at' ≡ (leb_left s (cursor_at at) k).at) × (value ≡ before) × (exact ≡ exact₀)
  hbc_leb f mark t =
      let v = stopped _ t.promised.tells h in
      let w : leb_bytes s (cursor_at at) ≡ refused v.why v.next = valued_refused f (leb_bytes s (cursor_at at)) v.why v.next (sym v.was) in (
        v.why,
        v.code,
        v.cursor ∙ ap (λ (c : Cursor). c.at) (leb_left_lem s (cursor_at at) f v.was),
        value_left _ t.promised h,
        mark_left t (ap (valued mark) w),
      )

  module _ {start₀ len₀ start len : ℕ} where
    pub hbc_bytes : (n : ℕ) → ReadsSpan (bytes_at n s (cursor_at at)) start₀ len₀ r at' start len → (at' ≡ at) × (start ≡ start₀) × (len ≡ len₀)
    hbc_bytes n t = let u = span_left _ t h in (at_left (λ k m. bytes_left s (cursor_at at) n) (stopped _ t.tells h), u.0, u.1)

    pub hbc_cstring : ReadsSpan (zero_ended s (cursor_at at)) start₀ len₀ r at' start len
        → (k : Refusal) × (r ≡ code_of k) × (at' ≡ (text_left s (cursor_at at) k).at) × (start ≡ start₀) × (len ≡ len₀)
    hbc_cstring t =
        let v = stopped _ t.tells h in
        let u = span_left _ t h in
        (v.why, v.code, v.cursor ∙ ap (λ (c : Cursor). c.at) (zero_left s (cursor_at at) v.was), u.0, u.1)

    pub hbc_prefixed : {exact₀ exact : ℕ}
        → Marked (ReadsSpan (prefixed s (cursor_at at)) start₀ len₀ r at' start len) (valued (λ (p : Prefixed). p.exact) (marked_at s (cursor_at at))) exact₀ exact
        → (k : Refusal) × (r ≡ code_of k) × PrefixLeft s (cursor_at at) k (cursor_at at') × (start ≡ start₀) × (len ≡ len₀) × (exact ≡ exact₀)
    hbc_prefixed t =
        let v = stopped _ t.promised.tells h in
        let u = span_left _ t.promised h in (
          v.why,
          v.code,
          subst (PrefixLeft s (cursor_at at) v.why) (ap cursor_at (sym v.cursor)) (prefix_left s (cursor_at at) v.was),
          u.0,
          u.1,
          mark_left t (ap (valued (λ (p : Prefixed). p.exact)) (mark_refused s (cursor_at at) (sym v.was))),
        )

-- ---- function tables

-- the rows and the totals
module _ (n : ℕ) (s : List ℕ) (start : ℕ) (t : Table) {r : ℕ} {t' : Table} (h : 2 ^ 32 ≤ r) where
  pub hbc_functions : (count : ℕ) → count < 2 ^ 32 → ToldFunctions s n start count t r t' → t' ≡ t
  hbc_functions count k = by_layout (λ l. left (λ a e q. omega arith)) (λ p. p.1)

  pub hbc_refresh : (count low high : ℕ) → count < 2 ^ 32 → ToldRefresh s n start count low high t r t' → t' ≡ t
  hbc_refresh count low high k = by_layout (λ l. left (λ a e q. let z = small l a e in omega arith)) (λ p. p.1)
    where
      small : (l : Layout) (x : ℕ) → refresh_answer s l start count low high t ≡ gives x → x < 2 ^ 32
      small l x e =
          let a = refreshable s l start count low high t x e in
          let b : x ≡ count_of (meets s l start low high) count = scan_counts (meets s l start low high) (function_at s l start) count x a.scans in
          omega (arith, count_le (meets s l start low high) count)

pub hbc_function : (n : ℕ) (s : List ℕ) (start : ℕ) (t : List ℕ) {r : ℕ} {t' : List ℕ} → 2 ^ 32 ≤ r → (i : ℕ) → ToldFunction s n start i t r t' → t' ≡ t
hbc_function n s start t h i = by_layout (λ l. left (λ a e q. omega arith)) (λ p. p.1)

pub hbc_write : (n : ℕ) (rows : List ℕ) (start count large : ℕ) (b : List ℕ) {r : ℕ} {b' : List ℕ} → 2 ^ 32 ≤ r → ToldWrite rows n start count large b r b'
    → b' ≡ b
hbc_write n rows start count large b {r} h = by_layout (λ l. left (λ a e q. let z = small l a e in omega arith)) (λ p. p.1)
  where
    small : (l : Layout) (x : ℕ) → write_answer rows l start count large b ≡ gives x → x < 2 ^ 32
    small l x e = let a = writable rows l start count large b x e in omega (arith, a)

ground_kept : (a : Answer Ground) {before after : Places} {r : ℕ} → (r ≡ 0 → ⊥) → GroundTold a before r after → after ≡ before
ground_kept (gives g) h v = absurd (h v.says)
ground_kept (refuses k) h v = v.holds

pub hbc_ground : (n : ℕ) (s : List ℕ) (start i : ℕ) (before : Places) {r : ℕ} {after : Places} → (r ≡ 0 → ⊥) → ToldGround s n start i before r after
    → after ≡ before
hbc_ground n s start i before h = by_layout (λ l. ground_kept (function_ground s l start i) h) (λ p. p.1)

-- ---- string tables

-- hbc_read_u32_table (width 1), hbc_read_pair_table (width 2)
module _ (width : ℕ) (s : List ℕ) (at count : ℕ) (t : List ℕ) {r at' : ℕ} {t' : List ℕ} (h : r ≡ 0 → ⊥) where
  by_table : (m : Result Cursor Left) → ReadTable width s (cursor_at at) count t m t' → Moves (says_moved m) r at' → (at' ≡ at) × (t' ≡ t)
  by_table (Ok n) v m = absurd (h m.says)
  by_table (Err e) v m =
      let z = table_left width s (cursor_at at) count t t' e.refusal e.cursor v in
      (m.moves ∙ ap (λ (c : Cursor). c.at) z.1, z.0)

  pub hbc_table : ToldTable width s at count t r at' t' → (at' ≡ at) × (t' ≡ t)
  hbc_table v = by_table v.answer v.promised v.tells

lesser_le : (a b : ℕ) → lesser a b ≤ a
unfolding lesser
lesser_le a b = by (ltb a b) refl
  where
    by : (c : Bool) → ltb a b ≡ c → cond c a b ≤ a
    by true e = omega arith
    by false e = ltb-false a b e

pub hbc_strings : (mode : Mode) (count : ℕ) (kinds small overflow storage before : List ℕ) {r : ℕ} {after : List ℕ} → count < 2 ^ 32 → 2 ^ 32 ≤ r
    → ToldStrings mode count kinds small overflow storage before r after → after ≡ before
hbc_strings mode count kinds small overflow storage before k h = left (λ n e q.
    let a : n ≡ lesser count (length small) = decoded_count mode count kinds small overflow storage before _ n (record { says = sym e; leaves = refl }) in
    omega (arith, lesser_le count (length small)))

-- ---- texts

pub hbc_text : (s rows : List ℕ) (index : ℕ) (before : List ℕ) {r : ℕ} {after : List ℕ} → ((i : ℕ) → get_or s i 0 < 256) → 2 ^ 32 ≤ r
    → ToldText s rows index before r after → after ≡ before
hbc_text s rows index before b h = left (λ n e q.
    let p = puts_row s rows index before (record { says = sym e; leaves = refl }) in
    let a : n ≡ length (string_text s rows index) = p.wrote.counts n refl in
    omega (arith, (p.only n refl).0, (of_row s rows index b).most))

-- ---- literals

by_literal : (tag : ℕ) (s : List ℕ) (at : ℕ) {kind word r at' kind' word' : ℕ} {number number' : Float} (o : Outcome Literal) → o ≡ literal_at tag s (cursor_at at)
    → LiteralTold o kind number word r at' kind' number' word' → (r ≡ 0 → ⊥) → (at' ≡ at) × (kind' ≡ kind) × (number' ≡ number) × (word' ≡ word)
by_literal tag s at (got v n) e t h = absurd (h t.tells.says)
by_literal tag s at (refused k n) e t h =
    (t.tells.moves ∙ ap (λ (c : Cursor). c.at) (literal_left tag s (cursor_at at) e), t.kind_left, t.number_left, t.word_left)

pub hbc_literal : (tag : ℕ) (s : List ℕ) (at : ℕ) {kind word r at' kind' word' : ℕ} {number number' : Float} → (r ≡ 0 → ⊥)
    → ToldLiteral tag s at kind number word r at' kind' number' word' → (at' ≡ at) × (kind' ≡ kind) × (number' ≡ number) × (word' ≡ word)
hbc_literal tag s at h t = by_literal (field 4 3 tag) s at (literal_at (field 4 3 tag) s (cursor_at at)) refl t h

pub hbc_series : (s : List ℕ) (offset count : ℕ) (ks ps : List ℕ) {r : ℕ} {ks' ps' : List ℕ} → 2 ^ 32 ≤ r → ToldSeries s offset count ks ps r ks' ps'
    → (ks' ≡ ks) × (ps' ≡ ps)
hbc_series s offset count ks ps {r} {ks'} {ps'} h v = by (answered v.answer) refl
  where
    by : (x : Answer ℕ) → answered v.answer ≡ x → (ks' ≡ ks) × (ps' ≡ ps)
    by (gives n) e =
        let k = used_small s offset count (length ks) (length ps) n (sym v.promised.says ∙ e) in
        let q : r ≡ n = v.says ∙ ap (code_in (λ m. m)) e in
        absurd (omega arith)
    by (refuses k) e = apart (rw e at v.promised.leaves)

pub hbc_object : (keys values : List ℕ) (n offset count : ℕ) (ks ps : List ℕ) {r : ℕ} {ks' ps' : List ℕ} → 2 ^ 32 ≤ r
    → ToldObject keys values n offset count ks ps r ks' ps' → (ks' ≡ ks) × (ps' ≡ ps)
hbc_object keys values n offset count ks ps {r} {ks'} {ps'} h v = by (answered v.answer) refl
  where
    by : (x : Answer Object) → answered v.answer ≡ x → (ks' ≡ ks) × (ps' ≡ ps)
    by (gives o) e =
        let s = named (yes_of n) keys values in
        let q : r ≡ o.len = v.says ∙ ap (code_in (λ (p : Object). p.len)) e in
        let a = gave (yes_of n) offset count o (series_answer s offset count (length ks) (length ps)) (sym e ∙ v.promised.says) in
        let k = used_small s offset count (length ks) (length ps) o.len a.0 in
        absurd (omega arith)
    by (refuses k) e = apart (rw e at v.promised.leaves)

-- ---- handlers, strings as JSON, sections, debug

-- a number that is not 0 tells a refusal: numbers and words are as they were
value_kept : {A B R W : Type 0} {told : R → Answer A} {of : R → Answer B} {o : Answer B} {new before : W} {held value : A} {r : ℕ} {after : W}
    → ((a : R) (k : Refusal) → told a ≡ refuses k → of a ≡ refuses k) → (r ≡ 0 → ⊥)
    → ToldValue told (Lends of o new before) held r after value → (after ≡ before) × (value ≡ held)
value_kept {A} {B} {R} {W} {told} {of} {o} {new} {before} {held} {value} {r} {after} one h v = by (told v.answer) refl
  where
    by : (x : Answer A) → told v.answer ≡ x → (after ≡ before) × (value ≡ held)
    by (gives a) e = absurd (h (v.says ∙ ap (code_in (always 0)) e))
    by (refuses k) e = let f = one v.answer k e in (rw f at v.promised.leaves, rw e at v.holds)

pub hbc_handlers : (s functions : List ℕ) (count : ℕ) (before : List ℕ) {total₀ r total : ℕ} {after : List ℕ} → (r ≡ 0 → ⊥)
    → ToldHandlers s functions count before total₀ r after total → (after ≡ before) × (total ≡ total₀)
hbc_handlers s functions count before h = value_kept (λ a k e. e) h

pub hbc_strings_json : (s rows : List ℕ) (count : ℕ) (before : List ℕ) {length₀ r length : ℕ} {after : List ℕ} → (r ≡ 0 → ⊥)
    → ToldStringsJson s rows count before length₀ r after length → (after ≡ before) × (length ≡ length₀)
hbc_strings_json s rows count before h = value_kept (λ a k e. e) h

-- told in numbers or not, it is refused in the same way
debug_refused : (a : Result (Exact Counts) Refusal) (k : Refusal) → says_lent a ≡ refuses k → answered a ≡ refuses k
debug_refused (Ok n) k e = absurd (not_given (sym e))
debug_refused (Err r) k e = cc

pub hbc_debug : (file : List ℕ) (offset : ℕ) (before : Tables) (held : Numbers) {r : ℕ} {numbers : Numbers} {after : Tables} → (r ≡ 0 → ⊥)
    → ToldDebug file offset before held r after numbers → (after ≡ before) × (numbers ≡ held)
hbc_debug file offset before held h = value_kept debug_refused h

-- hbc_why_no_handlers: also where it tells a reason
why_kept : (a : Answer (Result Triples Reason)) (n : ℕ) → (code_in why_number a ≡ 0 → ⊥) → handlers_in a n ≡ n
why_kept (gives (Ok t)) n h = absurd (h refl)
why_kept (gives (Err x)) n h = refl
why_kept (refuses k) n h = refl

pub hbc_why : (s functions : List ℕ) (id n : ℕ) {r n' : ℕ} → (r ≡ 0 → ⊥) → ToldWhy s functions id n r n' → n' ≡ n
hbc_why s functions id n h v = v.leaves ∙ why_kept (why_answer s functions id) n (λ e. h (v.says ∙ e))

-- hbc_trailing_sections
sections_kept : (a : Answer Sections) (t : List ℕ) → 2 ^ 32 ≤ code_in (always 5) a → into_by a t ≡ t
sections_kept (gives v) t h = absurd (omega arith)
sections_kept (refuses k) t h = refl

pub hbc_sections : (s : List ℕ) (start regexps storage cjs : ℕ) (given : Bool) (sources : ℕ) (before : List ℕ) {r : ℕ} {after : List ℕ} → 2 ^ 32 ≤ r
    → ToldSections s start regexps storage cjs given sources before r after → after ≡ before
hbc_sections s start regexps storage cjs given sources before h v =
    v.leaves ∙ sections_kept (sections_answer s start regexps storage cjs given sources (rows section_width before)) before (rw (← v.says) h)

-- ---- the clean-bundle profile

module _ (g : Given) {before r after : ℕ} (big : 4294967296 ≤ r) where
  bundle_by : (b : Bundle) → says_bundle b ≡ check_bundle g → r ≡ code_in rule_of (says_bundle b) → after ≡ place_left (says_bundle b) before → after ≡ before
  bundle_by (Ok None) e d f = f
  bundle_by (Ok (Some b)) e d f = let z = ((judges g (Ok (Some b)) e).broken b refl).number.1 in absurd (omega (arith, z, d, big))
  bundle_by (Err x) e d f = f

  bundle_told : BundleTold g before r after → after ≡ before
  bundle_told t = bundle_by t.answer t.promised.is t.says t.promised.left

pub hbc_bundle : (l : ℕ) (s : List ℕ) (start count : ℕ) (kinds : List ℕ) (strings : ℕ) (small overflow storage keys values series : List ℕ) (place : ℕ) {r place' : ℕ}
    → 4294967296 ≤ r → ToldBundle s l start count kinds strings small overflow storage keys values series place r place' → place' ≡ place
hbc_bundle l s start count kinds strings small overflow storage keys values series place h t =
    by_layout (λ layout. bundle_told (given s layout start count kinds strings small overflow storage keys values series) h) (λ m. m.1) t
