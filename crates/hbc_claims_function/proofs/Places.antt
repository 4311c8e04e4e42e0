-- The last word of a row, from the promises of the calls that write it.
use Rattle.hbc_io.specs.declared.Reason.TheVariants as reason
use Rattle.std.specs.Prelude.{Some, Ok, Err}
use Prim.Native.Nat.{ℕ, ◌+◌, ◌*◌, ◌^◌, ◌≤◌, ◌<◌}
use mathlib.Core.Path.{◌≡◌, refl, sym, ap, ◌∙◌}
use mathlib.Core.List.{List}
use mathlib.Core.Bool.{Bool, true, false, cond}
use native.Mathlib.Omega.{arith}
use lib.ListN.{length}
use lib.Dec.{ltb, eqb}
use borrow.Author.Tests.{le-ltb, ltb-false}
use Rattle.hbc_bits.specs.Bits.{le_at}
use Rattle.hbc_io.specs.Outcome.{limit}
use Rattle.hbc_io.specs.Answer.{Answer, gives, refused_at, asked}
use Rattle.hbc_io.specs.Lends.{below, choose}
use Rattle.hbc_io.proofs.Exits.{not_given, reached}
use Rattle.hbc_rows.specs.Rows.{row_at}
use Rattle.hbc_function_record.specs.declared.Layout.{Layout}
use Rattle.hbc_function_record.specs.declared.Record.{Record}
use Rattle.hbc_function_record.specs.declared.Found.{Found}
use Rattle.hbc_function_record.specs.Record.{size_of, large_of, link_of, large_at}
use Rattle.hbc_function_record.specs.Row.{width, inline, record_words, row_words, found_at, inline_found}
use Rattle.hbc_function_header.specs.Header.{header_at, ground_of, where_of, where_at, large_found, found, record_at, function_at, read_function, row_of, row_answer, FunctionRow}
use Rattle.hbc_function_header.specs.Meets.{meets}
use Rattle.hbc_function.proofs.Laws.{row_at_lem}
use Rattle.hbc_function.specs.Table.{scan, put_rows, all, Table, ReadFunctions}
use Rattle.hbc_function.specs.Refresh.{RefreshFunctions}
use Rattle.hbc_function_write.proofs.Places.{large_some}
use Rattle.hbc_claims_law.specs.Terms.{flagged, packed_at}
use Rattle.hbc_claims_function.specs.Places.{place_in, Tells}
use Rattle.hbc_claims_function.proofs.Rows.{named_row}
use Rattle.hbc_claims_function.proofs.Packed as packs
use Rattle.hbc_claims_function.proofs.Function.{ends}
use Rattle.hbc_claims_function.proofs.Scans.{a_record, scan_each}
use Rattle.hbc_claims_function.proofs.Accepted.{accepted, refreshable}

-- a large header that is found is in the file
module _ (s : List ℕ) (layout : Layout) (at i : ℕ) {r : Found} where
  in-by : (p n : ℕ) (b c : Bool) → ltb (length s) (p + n) ≡ c → found s layout at i (cond b (Err reason.PastEnd) (cond c (Err reason.Cut) (Ok (Some p)))) ≡ gives r
      → p + n ≤ length s
  in-by p n true c k e = absurd (not_given e)
  in-by p n false true k e = absurd (not_given e)
  in-by p n false false k e = ltb-false (length s) (p + n) k

  large_in : at + size_of layout ≤ length s → flagged s layout at ≡ true → record_at s layout at i ≡ gives r → packed_at s layout at + large_of layout ≤ length s
  unfolding record_at where_at ground_of where_of below choose link_of
  large_in h f e =
      in-by (packed_at s layout at) (large_of layout) (ltb (length s) (packed_at s layout at)) (ltb (length s) (packed_at s layout at + large_of layout)) refl
      (rw (le-ltb (length s) (at + size_of layout) h, f) at e)

-- the row of what is found
module _ (s : List ℕ) (layout : Layout) (at i : ℕ) (r : Found) (small : length s ≤ limit) (h : at + size_of layout ≤ length s) (e : record_at s layout at i ≡ gives r) where
  abbrev row : List ℕ
  row = row_words r

  is_own : flagged s layout at ≡ false → r ≡ inline_found layout i (le_at s at (size_of layout))
  is_own f = cc (sym e ∙ packs.own s layout at i h f)

  is_large : flagged s layout at ≡ true → r ≡ large_found s layout (packed_at s layout at) i
  is_large f = cc (sym e ∙ packs.large s layout at i h f (large_in s layout at i h f e))

  place_is : {p : ℕ} → r.place ≡ p → place_in row ≡ p
  place_is q = (named_row r).place ∙ q

  own_place : flagged s layout at ≡ false → place_in row ≡ inline
  own_place f = place_is (ap (λ (x : Found). x.place) (is_own f))

  large_place : flagged s layout at ≡ true → place_in row ≡ packed_at s layout at
  large_place f = place_is (ap (λ (x : Found). x.place) (is_large f))

  large_small : flagged s layout at ≡ true → (place_in row < 2 ^ 30) × (place_in row + large_of layout ≤ length s)
  large_small f =
      let k = large_in s layout at i h f e in
      let q = large_place f in
      let l = large_some layout in
      (omega arith, omega arith)

  only_by : (b : Bool) → flagged s layout at ≡ b → place_in row ≡ inline → flagged s layout at ≡ false
  only_by true f q = let k = (large_small f).0 in absurd (omega arith)
  only_by false f q = f

  below_by : (b : Bool) → flagged s layout at ≡ b → (place_in row ≡ inline → ⊥) → (place_in row < 2 ^ 30) × (place_in row + large_of layout ≤ length s)
  below_by true f q = large_small f
  below_by false f q = absurd (q (own_place f))

  tells : Tells s layout at i row
  tells =
      record {
        own = λ f. (own_place f, (named_row r).first ∙ ap (λ (x : Found). record_words x.own) (is_own f));
        large =
            λ f. (
              large_place f,
              (named_row r).first ∙ ap (λ (x : Found). record_words x.own) (is_large f)
                  ∙ ap (λ (p : ℕ). record_words (large_at s layout p i)) (sym (large_place f)),
            );
        only = only_by (flagged s layout at) refl;
        below = below_by (flagged s layout at) refl;
      }

-- function i of a table
module _ (s : List ℕ) (layout : Layout) (start i : ℕ) (small : length s ≤ limit) where
  tells_of : (r : Found) → function_at s layout start i ≡ gives r → Tells s layout (header_at layout start i) i (row_words r)
  unfolding function_at
  tells_of r e = tells s layout (header_at layout start i) i r small (ends s layout start i (ap asked e)) e

  row_tells : (chosen : ℕ → Bool) (n k : ℕ) (t : List ℕ) → n * width ≤ length t → scan chosen (function_at s layout start) n ≡ gives k → i < n → chosen i ≡ true
      → Tells s layout (header_at layout start i) i (row_at width (put_rows chosen (function_at s layout start) t n) i)
  row_tells chosen n k t h e l p =
      let f = function_at s layout start in
      let r = a_record (f i) (scan_each chosen f n k i l e p) in
      rw (row_at_lem chosen f t n i r.0 h l p r.1) (tells_of r.0 r.1)

  -- one row that is lent
  one_by : (b : Bool) (t t' : List ℕ) → choose b (asked (function_at s layout start i)) (refused_at 4 0) ≡ gives tt → t' ≡ row_of (function_at s layout start i) t
      → Tells s layout (header_at layout start i) i t'
  unfolding choose
  one_by true t t' e l =
      let r = a_record (function_at s layout start i) e in
      rw (l ∙ ap (λ (a : Answer Found). row_of a t) r.1) (tells_of r.0 r.1)
  one_by false t t' e l = absurd (not_given e)

-- ---- the calls

pub place_read : (s : List ℕ) (layout : Layout) (start count : ℕ) (t t' : Table) → ReadFunctions s layout start count t (Ok tt) t' → (i : ℕ) → i < count
    → Tells s layout (header_at layout start i) i (row_at width t'.rows i)
place_read s layout start count t t' v i l =
    let a = accepted s layout start count (length t.rows) (sym v.says) in
    rw (ap (λ (x : Table). x.rows) v.leaves) (row_tells s layout start i a.short all count a.number t.rows a.holds a.scans l refl)

pub place_refreshed : (s : List ℕ) (layout : Layout) (start count low high k : ℕ) (t t' : Table)
    → RefreshFunctions s layout start count low high t (Ok k) t' → (i : ℕ) → i < count → meets s layout start low high i ≡ true
    → Tells s layout (header_at layout start i) i (row_at width t'.rows i)
place_refreshed s layout start count low high k t t' v i l m =
    let a = refreshable s layout start count low high t k (sym v.says) in
    rw (ap (λ (x : Table). x.rows) v.leaves) (row_tells s layout start i a.short (meets s layout start low high) count k t.rows a.holds a.scans l m)

pub place_row : (s : List ℕ) (layout : Layout) (start i : ℕ) (t t' : List ℕ) → FunctionRow s layout start i t (Ok tt) t'
    → Tells s layout (header_at layout start i) i t'
unfolding row_answer
place_row s layout start i t t' v =
    let a = reached _ _ _ _ not_given (sym v.says) in
    let b = reached _ _ _ _ not_given a.1 in
    one_by s layout start i a.0 (eqb (length t) width) t t' b.1 v.leaves

pub place_one : (s : List ℕ) (layout : Layout) (start i : ℕ) (r : Record) (place : ℕ) → gives (found_at place r) ≡ read_function s layout start i
    → Tells s layout (header_at layout start i) i (row_words (found_at place r))
unfolding read_function
place_one s layout start i r place e =
    let a = reached _ _ _ _ not_given (sym e) in
    let b = reached _ _ _ _ not_given a.1 in
    tells_of s layout start i a.0 (found_at place r) b.1
