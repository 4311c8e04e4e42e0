-- Which rows the handlers' reader lists: those of the functions whose handlers are shown, each at its own place, and nothing else is written.
use Rattle.hbc_parsing_handlers.specs.declared.Reason.{Reason}
use Rattle.std.specs.Prelude.{Result, Ok, Err}
use Prim.Native.Nat.{ℕ, zero, suc, ◌+◌, ◌-◌, ◌*◌, ◌≤◌, ◌<◌}
use mathlib.Core.Path.{◌≡◌, refl, sym, ◌∙◌}
use mathlib.Core.List.{List}
use mathlib.Core.Bool.{Bool, true, false}
use native.Mathlib.Omega.{arith}
use lib.ListN.{length, get_or}
use lib.Dec.{ltb, eqb}
use borrow.Author.Tests.{eqb-true, eqb-false, ltb-true, ltb-false}
use Rattle.hbc_io.specs.Outcome.{limit}
use Rattle.hbc_io.specs.Answer.{gives}
use Rattle.hbc_io.proofs.Exits.{reached, not_given}
use Rattle.hbc_rows.specs.Rows.{entry_at, row_at, rows, put_rows}
use Rattle.hbc_rows.proofs.RowsAt as at
use Rattle.hbc_function_record.specs.declared.Record.{Record}
use Rattle.hbc_function_record.specs.declared.Record.TheVariants as rec
use Rattle.hbc_function_record.specs.declared.Found.{Found}
use Rattle.hbc_function_record.specs.Record.{flags_of}
use Rattle.hbc_function_record.specs.Row.{width, ROW_INFO_OFFSET, ROW_FLAGS, legacy_words, modern_words, row_words, found_at}
use Rattle.hbc_parsing_handlers.specs.declared.Table.{Table}
use Rattle.hbc_parsing_handlers.specs.Why.{why, shown_by, shown}
use Rattle.hbc_parsing_handlers.specs.Handlers.{handler_width, total, handler_row, put_handlers, handlers_answer, ReadHandlers}
use Rattle.hbc_parsing_handlers.proofs.Laws.{good, row_length, row_short, handlers_length}
use Rattle.hbc_claims_law.specs.Terms.{Behind, Whose}
use Rattle.hbc_claims_parsing.specs.HandlerRows.{OfRecord, HeaderWords}

by_record : (r : Record) (place : ℕ) {t : List ℕ} {i : ℕ} → entry_at t (i * width + ROW_INFO_OFFSET) ≡ get_or (row_words (found_at place r)) ROW_INFO_OFFSET 0
    → entry_at t (i * width + ROW_FLAGS) ≡ get_or (row_words (found_at place r)) ROW_FLAGS 0 → OfRecord r t i
unfolding legacy_words modern_words row_words flags_of
by_record (rec.Legacy r) place e f = record { info = e; flags = f }
by_record (rec.Modern r) place e f = record { info = e; flags = f }

pub of_record : (r : Found) {t : List ℕ} {i : ℕ} → entry_at t (i * width + ROW_INFO_OFFSET) ≡ get_or (row_words r) ROW_INFO_OFFSET 0
    → entry_at t (i * width + ROW_FLAGS) ≡ get_or (row_words r) ROW_FLAGS 0 → OfRecord r.own t i
of_record r e f = by_record r.own r.place e f

pub header_words : HeaderWords
unfolding entry_at
header_words r = of_record r {t = row_words r} {i = 0} refl refl

-- a word outside the rows that are put is as it was
rows_other : (f : ℕ → List ℕ) → ((j : ℕ) → length (f j) ≤ handler_width) → (base n y : ℕ) (t : List ℕ) → (base * handler_width ≤ y → y < (base + n) * handler_width → ⊥)
    → get_or (put_rows handler_width f base n t) y 0 ≡ get_or t y 0
unfolding put_rows
rows_other f short base zero y t out = refl
rows_other f short base (suc n) y t out =
    at.put_other handler_width (f n) (short n) (put_rows handler_width f base n t) (base + n) y (λ p q. out (omega arith) (omega arith))
    ∙ rows_other f short base n y t (λ p q. out (omega arith) (omega arith))

only_shown : (v : Result Table Reason) → 0 < (shown_by v).count → (t : Table) × (v ≡ Ok t)
only_shown (Ok t) h = (t, refl)
only_shown (Err x) h = absurd (omega arith)

module _ (s functions : List ℕ) where
  -- ---- a function has rows exactly when its handlers are shown, and then as many as that says

  pub shown_rows : (i : ℕ) (t : Table) → why s functions i ≡ Ok t → (0 < t.count) × (total s functions (suc i) ≡ total s functions i + t.count)
  unfolding total shown
  shown_rows i t e = (rw e at (good s functions i).some, rw e)

  pub rows_shown : (i : ℕ) → 0 < (shown s functions i).count → (t : Table) × (why s functions i ≡ Ok t)
  unfolding shown
  rows_shown i h = only_shown (why s functions i) h

  -- ---- where they lie

  pub total_more : (i : ℕ) → total s functions (suc i) ≡ total s functions i + (shown s functions i).count
  unfolding total
  total_more i = refl

  whose_step : (n k : ℕ) (b : Bool) → ltb k (total s functions n) ≡ b → (k < total s functions n → Whose s functions n k) → k < total s functions (suc n)
      → Whose s functions (suc n) k
  whose_step n k true e p h =
      let v = p (ltb-true k (total s functions n) e) in
      let l : v.i < n = v.before in
      record { i = v.i; j = v.j; before = omega arith; own = v.own; place = v.place }
  whose_step n k false e p h =
      let l : total s functions n ≤ k = ltb-false k (total s functions n) e in
      let m = total_more n in
      record { i = n; j = k - total s functions n; before = omega arith; own = omega arith; place = omega arith }

  -- every row listed is a handler of some function whose handlers are shown, by rows-shown
  pub whose : (n k : ℕ) → k < total s functions n → Whose s functions n k
  unfolding total
  whose zero k h = absurd (omega arith)
  whose (suc n) k h = whose_step n k (ltb k (total s functions n)) refl (whose n k) h

  up_step : (n i : ℕ) (b : Bool) → eqb i n ≡ b → (i < n → total s functions i + (shown s functions i).count ≤ total s functions n) → i < suc n
      → total s functions i + (shown s functions i).count ≤ total s functions (suc n)
  up_step n i true e p h = let z : i ≡ n = eqb-true i n e in rw z (omega (arith, total_more n))
  up_step n i false e p h = let z : (i ≡ n → ⊥) = eqb-false i n e in omega (arith, total_more n, p (omega arith))

  total_up : (n i : ℕ) → i < n → total s functions i + (shown s functions i).count ≤ total s functions n
  total_up zero i h = absurd (omega arith)
  total_up (suc n) i h = up_step n i (eqb i n) refl (total_up n i) h

  -- ---- what they are

  -- row j of function i
  abbrev of_function : ℕ → ℕ → List ℕ
  of_function i j = handler_row s i (shown s functions i).place j

  module _ (t : List ℕ) where
    -- every word after the rows is as it was
    pub rest_stays : (n y : ℕ) → total s functions n * handler_width ≤ y → entry_at (put_handlers s functions n t) y ≡ entry_at t y
    unfolding put_handlers entry_at
    rest_stays zero y h = refl
    rest_stays (suc n) y h =
        rows_other (of_function n) (row_short s n _) (total s functions n) (shown s functions n).count y (put_handlers s functions n t) (λ p q. omega (arith, total_more n))
        ∙ rest_stays n y (omega (arith, total_more n))

    word_step : (n i j c : ℕ) (b : Bool) → eqb i n ≡ b → total s functions (suc n) ≤ rows handler_width t → i < suc n → j < (shown s functions i).count → c < handler_width
        → (i < n → get_or (put_handlers s functions n t) ((total s functions i + j) * handler_width + c) 0 ≡ get_or (of_function i j) c 0)
        → get_or (put_handlers s functions (suc n) t) ((total s functions i + j) * handler_width + c) 0 ≡ get_or (of_function i j) c 0
    unfolding put_handlers
    word_step n i j c true e l h o k p =
        let z : i ≡ n = eqb-true i n e in
        let m = handlers_length s functions n t in
        rw z
        (at.rows_at handler_width (of_function n) (row_short s n _) (total s functions n) (put_handlers s functions n t) (shown s functions n).count j c
        (rw z at o)
        (rw (row_length s n (shown s functions n).place j) k)
        (omega (arith, total_more n, rw z at o)))
    word_step n i j c false e l h o k p =
        let z : (i ≡ n → ⊥) = eqb-false i n e in
        let u = total_up n i (omega arith) in
        at.rows_apart handler_width (of_function n) (row_short s n _) (total s functions n) (put_handlers s functions n t) (shown s functions n).count (total s functions i + j) c k
        (λ m q r. omega arith)
        ∙ p (omega arith)

    pub word_is : (n i j c : ℕ) → total s functions n ≤ rows handler_width t → i < n → j < (shown s functions i).count → c < handler_width
        → get_or (put_handlers s functions n t) ((total s functions i + j) * handler_width + c) 0 ≡ get_or (of_function i j) c 0
    word_is zero i j c l h o k = absurd (omega arith)
    word_is (suc n) i j c l h o k = word_step n i j c (eqb i n) refl l h o k (λ q. word_is n i j c (omega (arith, total_more n)) q o k)

    -- and handler j of function i is row total i + j
    pub row_is : (n i j : ℕ) → total s functions n ≤ rows handler_width t → i < n → j < (shown s functions i).count
        → row_at handler_width (put_handlers s functions n t) (total s functions i + j) ≡ handler_row s i (shown s functions i).place j
    row_is n i j l h o =
        let m = handlers_length s functions n t in
        let u = total_up n i h in
        at.row_is handler_width (put_handlers s functions n t) (total s functions i + j) (of_function i j) (omega arith) (row_length s i (shown s functions i).place j)
        (λ c k. word_is n i j c l h o k)

-- ---- from the call's promise

pub record Accepted (s functions : List ℕ) (count room n : ℕ) : Type 0 where
  pub short : length s ≤ limit
  pub lent : count ≤ rows width functions
  pub all : n ≡ total s functions count
  pub holds : total s functions count ≤ room

accept : (s functions : List ℕ) (count room n : ℕ) → handlers_answer s functions count room ≡ gives n → Accepted s functions count room n
unfolding handlers_answer
accept s functions count room n e =
    let p = reached _ _ _ _ not_given e in
    let q = reached _ _ _ _ not_given p.1 in
    let r = reached _ _ _ _ not_given q.1 in
    record { short = p.0; lent = q.0; all = cc r.1; holds = r.0 }

module _ (s functions : List ℕ) (count : ℕ) (t : List ℕ) (n : ℕ) (t' : List ℕ) (v : ReadHandlers s functions count t (Ok n) t') where
  pub ok : Accepted s functions count (rows handler_width t) n
  ok = accept s functions count (rows handler_width t) n (sym v.says)

  -- the answer is how many rows there are
  pub listed_count : n ≡ total s functions count
  listed_count = ok.all

  -- each of them is a handler of one function below the count
  pub listed_whose : (k : ℕ) → k < n → Whose s functions count k
  listed_whose k h = whose s functions count k (omega (arith, ok.all))

  -- handler j of function i is row total i + j
  pub listed_row : (i j : ℕ) → i < count → j < (shown s functions i).count
      → row_at handler_width t' (total s functions i + j) ≡ handler_row s i (shown s functions i).place j
  listed_row i j h k = rw v.leaves (row_is s functions t count i j ok.holds h k)

  -- and every word behind the rows is as it was
  pub listed_behind : Behind (n * handler_width) t t'
  unfolding entry_at
  listed_behind =
      rw v.leaves
      (record { rest = λ j h. rest_stays s functions t count j (omega (arith, ok.all)); long = handlers_length s functions count t })
