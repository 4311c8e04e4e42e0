-- The laws of scans and rows, over any functions and any choice among them.
use Prim.Native.Nat.{ℕ, suc, ◌+◌, ◌*◌, ◌-◌, ◌≤◌, ◌<◌}
use mathlib.Core.Path.{◌≡◌, refl, ap, sym, ◌∙◌}
use mathlib.Core.List.{List, [], append_assoc}
use mathlib.Core.Bool.{Bool, true, false, cond}
use native.Mathlib.Omega.{arith}
use native.Mathlib.Nat.{zero-add}
use native.Mathlib.Numerals.{add-one}
use native.Mathlib.Decide.{le_ind}
use lib.ListN.{length, get_or, take, drop, length-drop, take-append-drop}
use lib.Seq.{sets, sets-eq, drop-drop, length-take-le}
use lib.Dec.{ltb, lit<}
use borrow.Rule.Slice.PartMut.{put_mid}
use borrow.Author.Tests.{le-ltb}
use Rattle.hbc_io.specs.Outcome.{limit}
use Rattle.std.specs.Prelude.{Result}
use Rattle.hbc_io.specs.declared.Refusal.{Refusal}
use Rattle.hbc_io.specs.Answer.{Answer, gives, refuses, asked}
use Rattle.hbc_io.specs.Lends.{below}
use Rattle.hbc_rows.specs.Rows as rows
use Rattle.hbc_rows.proofs.RowsAt.{rows_length, rows_at, row_is as row_words_lem}
use Rattle.hbc_function_record.specs.declared.Layout.{Layout}
use Rattle.hbc_function_record.specs.declared.Layout.TheVariants as lay
use Rattle.hbc_function_record.specs.declared.Found.{Found}
use Rattle.hbc_function_record.specs.Record.{size_of}
use Rattle.hbc_function_record.specs.Row.{width, row_words}
use Rattle.hbc_function_record.proofs.Rows.{words_length}
use Rattle.hbc_function_header.specs.Header.{function_at, row_of, FunctionRow}
use Rattle.hbc_function_header.proofs.Headers.{row_is}
use Rattle.hbc_function.specs.Private.{Put}
use Rattle.hbc_function.specs.Table.{counted, step, scan, row_by, row_if, put_rows, all, read_answer}

-- ---- one function more

counted_by : (n : ℕ) (a : Answer Found) → asked a ≡ gives tt → counted n a ≡ gives (n + 1)
counted_by n (gives r) e = refl
counted_by n (refuses x) e = let z : ◌≡◌ {A = ℕ} 0 1 = cc in absurd (omega arith)

refused_by : (n : ℕ) (a : Answer Found) {x : Refusal} → asked a ≡ refuses x → counted n a ≡ refuses x
refused_by n (gives r) e = let z : ◌≡◌ {A = ℕ} 0 1 = cc in absurd (omega arith)
refused_by n (refuses y) {x} e = let q : y ≡ x = cc in rw q

module _ {chosen : Bool} (n : ℕ) (a : Answer Found) where
  pub step_read : chosen ≡ true → gives tt ≡ asked a → gives (n + 1) ≡ step chosen (gives n) a
  unfolding step
  step_read e f = rw e (sym (counted_by n a (sym f)))

  pub step_refused : {x : Refusal} → chosen ≡ true → refuses x ≡ asked a → refuses x ≡ step chosen (gives n) a
  unfolding step
  step_refused e f = rw e (sym (refused_by n a (sym f)))

-- a refusal stays
step_kept : (chosen : Bool) (a : Answer Found) (x : Refusal) → step chosen (refuses x) a ≡ refuses x
unfolding step
step_kept false a x = refl
step_kept true a x = refl

module _ (chosen : ℕ → Bool) (f : ℕ → Answer Found) where
  pub scan_more : {x : Answer ℕ} (i n : ℕ) → scan chosen f i ≡ gives n → x ≡ step (chosen i) (gives n) (f i) → scan chosen f (i + 1) ≡ x
  unfolding scan
  scan_more i n e p = rw (p, add-one) (ap (λ (k : Answer ℕ). step (chosen i) k (f i)) e)

  pub scan_kept : {x : Refusal} (i n : ℕ) → i ≤ n → scan chosen f i ≡ refuses x → scan chosen f n ≡ refuses x
  unfolding scan
  scan_kept {x} i n h e = le_ind (λ (m : ℕ). scan chosen f m ≡ refuses x) e (λ m k p. rw p (step_kept (chosen m) (f m) x)) n h

  pub scan_stops : {x : Refusal} (i n k : ℕ) → i < n → scan chosen f i ≡ gives k → refuses x ≡ step (chosen i) (gives k) (f i) → refuses x ≡ scan chosen f n
  scan_stops i n k h e p = sym (scan_kept (i + 1) n (omega arith) (scan_more i k e p))

  pub scan_done : (i n k : ℕ) → i ≡ n → scan chosen f i ≡ gives k → gives k ≡ scan chosen f n
  scan_done i n k h e = rw (← h) (sym e)

-- what a check of all functions cites
pub ruleset scanning = (step_read, step_refused, scan_more, scan_stops, scan_done)

-- ---- one row more

pub short_by : (a : Answer Found) → length (row_by a) ≤ width
short_by (gives r) = rw (words_length r) (omega arith)
short_by (refuses x) = omega arith

short_if : (b : Bool) (a : Answer Found) → length (cond b (row_by a) []) ≤ width
short_if true a = short_by a
short_if false a = omega arith

pub short : (chosen : ℕ → Bool) (f : ℕ → Answer Found) (i : ℕ) → length (row_if chosen f i) ≤ width
short chosen f i = short_if (chosen i) (f i)

-- no row puts nothing
pub put_nothing : (t : List ℕ) (k : ℕ) → rows.put_row width t k [] ≡ t
unfolding rows.put_row
put_nothing t k = by (ltb (length t) (k * width + width))
  where
    by : (b : Bool) → cond b t (sets t (k * width) []) ≡ t
    by true = refl
    by false = refl

-- what the call for one row leaves of the table: the row of an answer, put into row i
pub put_mid_lem : (i : ℕ) (a : Answer Found) (t : List ℕ) {row : List ℕ} → i * width + width ≤ length t
    → row ≡ row_of a (take (i * width + width - i * width) (drop (i * width) t))
    → put_mid (i * width) (i * width + width - i * width) t row ≡ rows.put_row width t i (row_by a)
unfolding rows.put_row
put_mid_lem i (gives r) t h e =
    let n : i * width + (i * width + width - i * width) ≡ i * width + width = omega arith in
    let l : i * width + length (row_words r) ≤ length t = rw (words_length r) h in
    rw (e, drop-drop, n, le-ltb (length t) (i * width + width) h, sets-eq (row_words r) t (i * width) l, words_length r, append_assoc)
put_mid_lem i (refuses x) t h e = rw (e, take-append-drop, take-append-drop) (sym (put_nothing t i))

pub part_length : (i : ℕ) (t : List ℕ) → i * width + width ≤ length t → length (take (i * width + width - i * width) (drop (i * width) t)) ≡ width
part_length i t h =
    let k : i * width + width - i * width ≤ length (drop (i * width) t) = rw length-drop (omega arith) in
    length-take-le (i * width + width - i * width) (drop (i * width) t) k ∙ omega arith

pub row_put : (s : List ℕ) (layout : Layout) (start id i : ℕ) (t : List ℕ) {r : Result (Unit {0}) Refusal} {row : List ℕ} → length s ≤ limit → start ≤ length s
    → i * width + width ≤ length t → FunctionRow s layout start id (take (i * width + width - i * width) (drop (i * width) t)) r row
    → put_mid (i * width) (i * width + width - i * width) t row ≡ rows.put_row width t i (row_by (function_at s layout start id))
row_put s layout start id i t h k l e =
    put_mid_lem i (function_at s layout start id) t l
    (row_is s layout start id (take (i * width + width - i * width) (drop (i * width) t)) h k (part_length i t l) e)

module _ (chosen : ℕ → Bool) (f : ℕ → Answer Found) (t : List ℕ) where
  pub put_none : put_rows chosen f t 0 ≡ t
  unfolding put_rows rows.put_rows
  put_none = refl

  step_by : (n : ℕ) (row : List ℕ) → row_if chosen f n ≡ row → put_rows chosen f t (suc n) ≡ rows.put_row width (put_rows chosen f t n) n row
  unfolding put_rows rows.put_rows
  step_by n row e = rw (zero-add, e)

  -- one that is chosen, and one that is not
  pub put_next : (n : ℕ) → chosen n ≡ true → put_rows chosen f t (suc n) ≡ rows.put_row width (put_rows chosen f t n) n (row_by (f n))
  put_next n e = step_by n (row_by (f n)) (rw e)

  pub put_skip : (n : ℕ) → chosen n ≡ false → put_rows chosen f t (suc n) ≡ put_rows chosen f t n
  put_skip n e = step_by n [] (rw e) ∙ put_nothing (put_rows chosen f t n) n

  pub put_length : (n : ℕ) → length (put_rows chosen f t n) ≡ length t
  unfolding put_rows
  put_length n = rows_length width (row_if chosen f) (short chosen f) 0 t n

  -- word c of a chosen function's row is that of what it is read as
  pub word_at : (n i c : ℕ) (r : Found) → n * width ≤ length t → i < n → c < width → chosen i ≡ true → f i ≡ gives r
      → get_or (put_rows chosen f t n) (i * width + c) 0 ≡ get_or (row_words r) c 0
  unfolding put_rows
  word_at n i c r h k l p e =
      let q : row_if chosen f i ≡ row_words r = rw (p, e) in
      let z : 0 + i ≡ i = zero-add i in
      ap (λ (j : ℕ). get_or (rows.put_rows width (row_if chosen f) 0 n t) (j * width + c) 0) (sym z)
      ∙ rows_at width (row_if chosen f) (short chosen f) 0 t n i c k (rw (q, words_length r) l) (rw z (omega arith))
      ∙ ap (λ (o : List ℕ). get_or o c 0) q

  -- and so the row is all of its words
  pub row_at_lem : (n i : ℕ) (r : Found) → n * width ≤ length t → i < n → chosen i ≡ true → f i ≡ gives r → rows.row_at width (put_rows chosen f t n) i ≡ row_words r
  row_at_lem n i r h k p e =
      row_words_lem width (put_rows chosen f t n) i (row_words r) (rw (put_length n) (omega arith)) (words_length r) (λ c l. word_at n i c r h k l p e)

module _ {chosen : ℕ → Bool} {f : ℕ → Answer Found} {i : ℕ} {t₀ t : List ℕ} (v : Put chosen f i t₀ t) where
  pub put_long : length t ≡ length t₀
  put_long = ap length v.is ∙ put_length chosen f t₀ i

  pub put_more : {t' : List ℕ} → chosen i ≡ true → t' ≡ rows.put_row width t i (row_by (f i)) → Put chosen f (i + 1) t₀ t'
  put_more c e = record {
    is = rw add-one (e ∙ ap (λ (u : List ℕ). rows.put_row width u i (row_by (f i))) v.is ∙ sym (put_next chosen f t₀ i c));
  }

  pub put_done : {n : ℕ} → i ≡ n → t ≡ put_rows chosen f t₀ n
  put_done h = rw (← h) v.is

-- ---- the headers that fit

pub size_pos : (layout : Layout) → 0 < size_of layout
size_pos lay.Legacy16 = lit< tt
size_pos lay.Modern12 = lit< tt

-- ---- past every test: what is scanned is the answer

pub scanned : (s : List ℕ) (layout : Layout) (start count words : ℕ) → length s ≤ limit → start ≤ length s → count * width ≤ words
    → asked (scan all (function_at s layout start) count) ≡ read_answer s layout start count words
unfolding read_answer below
scanned s layout start count words h k l = sym (simp (le-ltb _ _ h, le-ltb _ _ k, le-ltb _ _ l))
