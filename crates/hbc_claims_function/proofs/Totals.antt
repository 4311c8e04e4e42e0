-- The totals beside a table: true after a read, kept true by a refresh, moved by the sums in any table; and when 16 cannot be.
use Rattle.std.specs.Prelude.{Option, Some, None, Result, Ok, Err}
use Rattle.hbc_io.specs.declared.Reason.{Reason}
use Prim.Native.Nat.{ℕ, zero, suc, ◌+◌, ◌*◌, ◌^◌, ◌≤◌, ◌<◌}
use mathlib.Core.Path.{◌≡◌, refl, ap, sym, ◌∙◌}
use mathlib.Core.List.{List}
use mathlib.Core.Bool.{Bool, true, false, cond}
use native.Mathlib.Omega.{arith}
use lib.ListN.{get_or}
use lib.Dec.{eqb}
use Rattle.hbc_bits.specs.Bits.{le_at}
use Rattle.hbc_bits.specs.Fields.{fields_of}
use Rattle.hbc_bits.proofs.Laws.{Bytes, le_lt, field_lt}
use Rattle.hbc_io.specs.Outcome.{limit}
use Rattle.hbc_io.specs.Answer.{Answer, gives, refuses}
use Rattle.hbc_io.proofs.Exits.{not_given}
use Rattle.hbc_rows.specs.Rows.{entry_at, row_at}
use Rattle.hbc_rows.proofs.RowsAt.{word_of}
use Rattle.hbc_function_record.specs.declared.Layout.{Layout}
use Rattle.hbc_function_record.specs.declared.Found.{Found}
use Rattle.hbc_function_record.specs.declared.Layout.TheVariants as lay
use Rattle.hbc_function_record.specs.BitLayout.{legacy_bits, modern_bits}
use Rattle.hbc_function_record.specs.Record.{size_of, inline_of, legacy_of, modern_of, legacy_by, modern_by, large_at, legacy_large, modern_large}
use Rattle.hbc_function_record.specs.Row.{width, inline, row_words, legacy_words, modern_words, inline_found, ROW_SIZE, ROW_LARGE_PLACE}
use Rattle.hbc_function_header.specs.Header.{header_at, where_at, large_found, found, record_at, function_at}
use Rattle.hbc_function_header.specs.Meets.{meets}
use Rattle.hbc_function_totals.specs.declared.Share.{Share}
use Rattle.hbc_function_totals.specs.declared.Totals.{Totals}
use Rattle.hbc_function_totals.specs.Totals.{large_row, size_row, share_of, totals, sum, most, next, kept}
use Rattle.hbc_function_totals.proofs.Sums.{sum_next, sum_skip, sum_same, sum_part, sum_most, sum_swap}
use Rattle.hbc_function_totals.proofs.Kepts.{given_is, exchange_gave, kept_safe}
use Rattle.hbc_function.proofs.Laws.{row_at_lem}
use Rattle.hbc_function.specs.Table.{all, share_by, Table, totals_of, ReadFunctions}
use Rattle.hbc_function.specs.Refresh.{kept_met, left_by, RefreshFunctions}
use Rattle.hbc_claims_law.specs.Terms.{count_of}
use Rattle.hbc_claims_function.specs.Totals.{one_if_large, size_word, True, Moved}
use Rattle.hbc_claims_function.specs.Written.{Words}
use Rattle.hbc_claims_function.proofs.Scans.{a_record, scan_each, scan_counts}
use Rattle.hbc_claims_function.proofs.Accepted.{refreshable}
use Rattle.hbc_claims_function.proofs.Tables.{rewritten}

-- ---- a row's share, by the table's own words

pub large_word : (t : List ℕ) (i : ℕ) → (share_of (row_at width t i)).large ≡ one_if_large t i
unfolding large_row entry_at
large_word t i = ap (λ (x : ℕ). cond (eqb x 4294967295) 0 1) (word_of width t i ROW_LARGE_PLACE (omega arith))

pub size_word_lem : (t : List ℕ) (i : ℕ) → (share_of (row_at width t i)).size ≡ size_word t i
unfolding size_row entry_at
size_word_lem t i = word_of width t i ROW_SIZE (omega arith)

module _ (chosen : ℕ → Bool) (t : List ℕ) (n : ℕ) where
  pub large_sum : sum chosen (λ i. (share_of (row_at width t i)).large) n ≡ sum chosen (one_if_large t) n
  large_sum = sum_same chosen _ _ n (λ i h c. large_word t i)

  pub size_sum : sum chosen (λ i. (share_of (row_at width t i)).size) n ≡ sum chosen (size_word t) n
  size_sum = sum_same chosen _ _ n (λ i h c. size_word_lem t i)

-- ---- true after a read

pub true_by : {t : Table} {n : ℕ} → t.totals ≡ totals_of t.rows n → True t n
true_by {t} {n} e = record {
  large = ap (λ (x : Totals). x.large) e ∙ large_sum all t.rows n;
  sizes = ap (λ (x : Totals). x.sizes) e ∙ size_sum all t.rows n;
}

pub totals_read : (s : List ℕ) (layout : Layout) (start count : ℕ) (t t' : Table) → ReadFunctions s layout start count t (Ok tt) t' → True t' count
totals_read s layout start count t t' p =
    true_by (ap (λ (x : Table). x.totals) p.leaves ∙ ap (λ (u : List ℕ). totals_of u count) (sym (ap (λ (x : Table). x.rows) p.leaves)))

-- a table is known by its rows and its two totals
pub table_is : {t u : Table} → t.rows ≡ u.rows → t.totals.large ≡ u.totals.large → t.totals.sizes ≡ u.totals.sizes → t ≡ u
table_is {t} {u} e l s =
    ap (λ (x : List ℕ). record { rows = x; totals = t.totals }) e
    ∙ ap (λ (x : ℕ). record { rows = u.rows; totals = totals x t.totals.sizes }) l
    ∙ ap (λ (x : ℕ). record { rows = u.rows; totals = totals u.totals.large x }) s

-- tables of the same rows with true totals are the same
pub true_same : {t u : Table} {n : ℕ} → t.rows ≡ u.rows → True t n → True u n → t ≡ u
true_same {t} {u} {n} e v w =
    table_is e (v.large ∙ ap (λ (x : List ℕ). sum all (one_if_large x) n) e ∙ sym w.large) (v.sizes ∙ ap (λ (x : List ℕ). sum all (size_word x) n) e ∙ sym w.sizes)

-- ---- by the sums, in any table

-- totals that were kept through rows 0 to n - 1, of which k were exchanged
record Gone (chosen : ℕ → Bool) (old new : ℕ → Share) (before : Totals) (n : ℕ) (now : Totals) : Type 0 where
  large : now.large + sum chosen (λ i. (old i).large) n ≡ before.large + sum chosen (λ i. (new i).large) n
  sizes : now.sizes + sum chosen (λ i. (old i).size) n ≡ before.sizes + sum chosen (λ i. (new i).size) n
  few : 0 < count_of chosen n → (now.large ≤ most) × (now.sizes ≤ most)

module _ (chosen : ℕ → Bool) (old new : ℕ → Share) (before : Totals) where
  gone_by : (n : ℕ) (b : Bool) (a : Answer Totals) (now : Totals) → chosen n ≡ b → ((x : Totals) → a ≡ gives x → Gone chosen old new before n x)
      → next b a (λ x. Rattle.hbc_function_totals.specs.Totals.exchanged n x (old n) (new n)) ≡ gives now → Gone chosen old new before (suc n) now
  unfolding next count_of
  gone_by n false a now c p e =
      let v = p now e in
      let w = sum_skip chosen (λ i. (old i).large) n c in let x = sum_skip chosen (λ i. (old i).size) n c in
      let y = sum_skip chosen (λ i. (new i).large) n c in let z = sum_skip chosen (λ i. (new i).size) n c in
      let l = v.large in let s = v.sizes in
      record { large = omega arith; sizes = omega arith; few = rw c v.few }
  gone_by n true (gives x) now c p e =
      let v = p x refl in
      let q = exchange_gave n x (old n) (new n) now e in
      let w = sum_next chosen (λ i. (old i).large) n c in let u = sum_next chosen (λ i. (old i).size) n c in
      let y = sum_next chosen (λ i. (new i).large) n c in let z = sum_next chosen (λ i. (new i).size) n c in
      let l = v.large in let s = v.sizes in let ql = q.large in let qs = q.sizes in
      record { large = omega arith; sizes = omega arith; few = λ h. (q.large_most, q.sizes_most) }
  gone_by n true (refuses x) now c p e = absurd (not_given e)

  gone : (n : ℕ) (now : Totals) → kept chosen old new before n ≡ gives now → Gone chosen old new before n now
  unfolding kept sum count_of
  gone zero now e =
      let q : now ≡ before = given_is e in
      let l = ap (λ (x : Totals). x.large) q in let s = ap (λ (x : Totals). x.sizes) q in
      record { large = omega arith; sizes = omega arith; few = λ h. absurd (omega arith) }
  gone (suc n) now e = gone_by n (chosen n) (kept chosen old new before n) now refl (gone n) e

-- what a total is beyond the sum over all rows, or short of it, is the same of two tables
pub record Along (count : ℕ) (t t' : Table) : Type 0 where
  pub large : t'.totals.large + sum all (one_if_large t.rows) count ≡ t.totals.large + sum all (one_if_large t'.rows) count
  pub sizes : t'.totals.sizes + sum all (size_word t.rows) count ≡ t.totals.sizes + sum all (size_word t'.rows) count

module _ (s : List ℕ) (layout : Layout) (start count low high k : ℕ) (t t' : Table) (p : RefreshFunctions s layout start count low high t (Ok k) t') where
  -- the share of a function that was read again is that of its row now
  pub share_now : (i : ℕ) → i < count → meets s layout start low high i ≡ true → share_by (function_at s layout start i) ≡ share_of (row_at width t'.rows i)
  share_now i h m =
      let a = refreshable s layout start count low high t k (sym p.says) in
      let r = a_record (function_at s layout start i) (scan_each (meets s layout start low high) (function_at s layout start) count k i h a.scans m) in
      ap share_by r.1
      ∙ ap share_of (sym (ap (λ (x : Table). row_at width x.rows i) p.leaves ∙ row_at_lem (meets s layout start low high) (function_at s layout start) t.rows count i r.0 a.holds h m r.1))

  pub totals_moved : Moved (meets s layout start low high) count k t t'
  totals_moved =
      let chosen = meets s layout start low high in
      let a = refreshable s layout start count low high t k (sym p.says) in
      let v = gone chosen (λ i. share_of (row_at width t.rows i)) (λ i. share_by (function_at s layout start i)) t.totals count a.now a.keeps in
      let e : t'.totals ≡ a.now = ap (λ (x : Table). x.totals) p.leaves ∙ ap (λ (x : Answer Totals). left_by x t.totals) a.keeps in
      let el = ap (λ (x : Totals). x.large) e in let es = ap (λ (x : Totals). x.sizes) e in
      let ol = large_sum chosen t.rows count in let os = size_sum chosen t.rows count in
      let nl : sum chosen (λ i. (share_by (function_at s layout start i)).large) count ≡ sum chosen (one_if_large t'.rows) count =
      sum_same chosen _ _ count (λ i h m. ap (λ (x : Share). x.large) (share_now i h m)) ∙ large_sum chosen t'.rows count in
      let ns : sum chosen (λ i. (share_by (function_at s layout start i)).size) count ≡ sum chosen (size_word t'.rows) count =
      sum_same chosen _ _ count (λ i h m. ap (λ (x : Share). x.size) (share_now i h m)) ∙ size_sum chosen t'.rows count in
      let l = v.large in let z = v.sizes in
      let n = scan_counts chosen (function_at s layout start) count k a.scans in
      record {
        large = omega arith;
        sizes = omega arith;
        most = λ h. let f = v.few (omega arith) in let g = f.0 in let u = f.1 in (omega arith, omega arith);
      }

  -- each total moves as the sum over the whole table does
  pub moved_along : Along count t t'
  moved_along =
      let w = rewritten p in
      let m = totals_moved in
      let a = sum_swap (meets s layout start low high) (one_if_large t.rows) (one_if_large t'.rows) (one_if_large t'.rows) count (λ i h c. refl)
      (λ i h c. ap (λ (x : ℕ). cond (eqb x 4294967295) 0 1) (w.unmet i ROW_LARGE_PLACE c (omega arith))) in
      let b = sum_swap (meets s layout start low high) (size_word t.rows) (size_word t'.rows) (size_word t'.rows) count (λ i h c. refl)
      (λ i h c. w.unmet i ROW_SIZE c (omega arith)) in
      let ml = m.large in let ms = m.sizes in
      record { large = omega arith; sizes = omega arith }

  -- ---- kept true by a refresh
  pub totals_kept : True t count → True t' count
  totals_kept v =
      let m = moved_along in
      let ml = m.large in let ms = m.sizes in let vl = v.large in let vs = v.sizes in
      record { large = omega arith; sizes = omega arith }

-- ---- where no refresh is refused 16

-- a size is that of 32 bits
size_of_lem : {m n : ℕ} → m ≡ n → n < 2 ^ 32 → m ≤ 4294967295
size_of_lem e h = omega arith

module _ (s : List ℕ) (b : Bytes s) where
  inline-size : (layout : Layout) (i n : ℕ) → (share_of (row_words (inline_found layout i n))).size ≤ 4294967295
  unfolding size_row entry_at row_words legacy_words modern_words inline_of legacy_of modern_of legacy_by modern_by fields_of
  inline-size lay.Legacy16 i n = size_of_lem refl (field_lt 32 legacy_bits.size.0 legacy_bits.size.1 n (omega arith))
  inline-size lay.Modern12 i n = size_of_lem refl (field_lt 32 modern_bits.size.0 modern_bits.size.1 n (omega arith))

  large_size : (layout : Layout) (place i : ℕ) → (share_of (row_words (large_found s layout place i))).size ≤ 4294967295
  unfolding size_row entry_at row_words legacy_words modern_words large_at legacy_large modern_large
  large_size lay.Legacy16 place i = size_of_lem refl (le_lt s (place + 8) 4 b)
  large_size lay.Modern12 place i = size_of_lem refl (le_lt s (place + 12) 4 b)

  found_size : (layout : Layout) (at i : ℕ) (w : Result (Option ℕ) Reason) → (share_by (found s layout at i w)).size ≤ 4294967295
  found_size layout at i (Ok None) = inline-size layout i (le_at s at (size_of layout))
  found_size layout at i (Ok (Some place)) = large_size layout place i
  found_size layout at i (Err k) = omega arith

  new_size : (layout : Layout) (start i : ℕ) → (share_by (function_at s layout start i)).size ≤ 4294967295
  unfolding function_at record_at
  new_size layout start i = found_size layout (header_at layout start i) i (where_at s layout (header_at layout start i))

large_by : (b : Bool) → cond b 0 1 ≤ 1
large_by true = omega arith
large_by false = omega arith

new_large : (a : Answer Found) → (share_by a).large ≤ 1
unfolding large_row
new_large (gives f) = large_by (eqb (entry_at (row_words f) ROW_LARGE_PLACE) inline)
new_large (refuses x) = omega arith

-- sizes that fit 32 bits, as all words do; and so after a refresh
abbrev pub Sized : List ℕ → ℕ → Type 0
Sized t count = (i : ℕ) → i < count → size_word t i ≤ 4294967295

pub words_sized : (t : List ℕ) (count : ℕ) → Words t → Sized t count
words_sized t count w = λ i h. let x = w (i * width + ROW_SIZE) in omega arith

pub sized_kept : (s : List ℕ) (layout : Layout) (start count low high k : ℕ) (t t' : Table) → Bytes s
    → RefreshFunctions s layout start count low high t (Ok k) t' → Sized t.rows count → Sized t'.rows count
sized_kept s layout start count low high k t t' b p z = λ i h. by i h (meets s layout start low high i) refl
  where
    by : (i : ℕ) → i < count → (met : Bool) → meets s layout start low high i ≡ met → size_word t'.rows i ≤ 4294967295
    by i h true m =
        let n = new_size s b layout start i in
        let e = ap (λ (x : Share). x.size) (share_now s layout start count low high k t t' p i h m) ∙ size_word_lem t'.rows i in
        omega arith
    by i h false m = let n = z i h in let e = (rewritten p).unmet i ROW_SIZE m (omega arith) in omega arith

-- true totals can be kept
pub kept_true : (s : List ℕ) (layout : Layout) (start count low high : ℕ) (t : Table) → Bytes s → Sized t.rows count → True t count → count ≤ limit
    → (now : Totals) × (kept_met s layout start low high t count ≡ gives now)
kept_true s layout start count low high t b w v h =
    let chosen = meets s layout start low high in
    let old : ℕ → Share = λ i. share_of (row_at width t.rows i) in
    let new : ℕ → Share = λ i. share_by (function_at s layout start i) in
    let vl = v.large in let vs = v.sizes in
    let al = large_sum all t.rows count in let az = size_sum all t.rows count in
    let pl = sum_part chosen (λ i. (old i).large) count in let ps = sum_part chosen (λ i. (old i).size) count in
    let ml = sum_most all (one_if_large t.rows) 1 count (λ i k. large_by (eqb (get_or t.rows (i * width + ROW_LARGE_PLACE) 0) 4294967295)) in
    let ms = sum_most all (size_word t.rows) 4294967295 count w in
    let nl = sum_most chosen (λ i. (new i).large) 1 count (λ i k. new_large (function_at s layout start i)) in
    let ns = sum_most chosen (λ i. (new i).size) 4294967295 count (λ i k. new_size s b layout start i) in
    (_, kept_safe chosen old new t.totals count (record { large = omega arith; sizes = omega arith; large_most = omega arith; sizes_most = omega arith }))
