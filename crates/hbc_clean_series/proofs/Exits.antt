-- The ways out of one series, and of all of them.
use Prim.Native.Nat.{ℕ, suc, ◌+◌, ◌*◌, ◌≤◌, ◌<◌}
use mathlib.Core.Path.{◌≡◌, refl, sym, ap, ◌∙◌}
use mathlib.Core.Bool.{Bool, false, cond}
use mathlib.Core.List.{List}
use native.Mathlib.Omega.{arith}
use native.Mathlib.Numerals.{add-one}
use native.Mathlib.Decide.{le_ind}
use borrow.Author.Tests.{eq-eqb, ne_eqb, lt-ltb, le-ltb, le-leb, lt-leb}
use lib.ListN.{length}
use lib.Dec.{ltb}
use Rattle.hbc_io.specs.Outcome.{refusal_at, cursor_at, limit}
use Rattle.hbc_io.specs.Answer.{Answer, gives, refuses}
use Rattle.hbc_io.specs.Lends.{below, choose}
use Rattle.hbc_io.specs.declared.Refusal.{Refusal}
use Rattle.hbc_io.proofs.Exits.{not_given}
use Rattle.hbc_rows.specs.Rows.{entry_at, rows}
use Rattle.hbc_buffer.specs.Series.{after, used_of, series_answer}
use Rattle.hbc_lowest.specs.Lowest.{some, lowest_of}
use Rattle.hbc_lowest.proofs.Laws.{lower_is}
use Rattle.hbc_clean_series.specs.declared.Marks.{Marks}
use Rattle.hbc_clean_series.specs.Series.{series_width, offset_of, count_of, passes_empty, holds_high, breaks_empty, breaks_string, read_series, read_all, lows, check_series}
use Rattle.hbc_clean_series.specs.Private.{marks, marked}

-- ---- one series

module _ {a : Answer ℕ} where
  pub marked_refused : {r : Refusal} (x y : Bool) → refuses r ≡ a → refuses r ≡ marked a x y
  marked_refused x y e = ap (λ (b : Answer ℕ). marked b x y) e

  pub marked_given : {n : ℕ} {x y u v : Bool} → gives n ≡ a → x ≡ u → y ≡ v → gives (marks x y) ≡ marked a u v
  marked_given e f g = rw (← e, f, g)

module _ (s : List ℕ) (offset count : ℕ) where
  pub series_long : limit < length s → refuses (refusal_at 1 0) ≡ series_answer s offset count count count
  unfolding series_answer below
  series_long h = rw (lt-ltb _ _ h)

  -- no values: none passes a tag, none is high
  pub series_none : length s ≤ limit → count ≡ 0 → gives 0 ≡ series_answer s offset count count count
  unfolding series_answer below choose
  series_none h e = rw (le-ltb _ _ h, eq-eqb _ _ e)

  pub none_empty : count ≡ 0 → false ≡ passes_empty s offset count
  unfolding passes_empty some
  none_empty e = rw e refl

  pub none_high : (strings : ℕ) → count ≡ 0 → false ≡ holds_high strings s offset count
  unfolding holds_high some
  none_high strings e = rw e refl

  pub series_past : length s ≤ limit → (count ≡ 0 → ⊥) → length s ≤ offset → refuses (refusal_at 7 0) ≡ series_answer s offset count count count
  unfolding series_answer below choose
  series_past h e l = rw (le-ltb _ _ h, ne_eqb _ _ e, le-leb _ _ l)

  -- with room for its values, a series answers what its data say
  series_data : length s ≤ limit → (count ≡ 0 → ⊥) → offset < length s → used_of offset (after count s (cursor_at offset)) ≡ series_answer s offset count count count
  unfolding series_answer below choose
  series_data h e l = rw (le-ltb _ _ h, ne_eqb _ _ e, lt-leb _ _ l, le-ltb count count (omega arith))

  pub marked_data : {a : Answer Marks} (x y : Bool) → length s ≤ limit → (count ≡ 0 → ⊥) → offset < length s
      → a ≡ marked (used_of offset (after count s (cursor_at offset))) x y → a ≡ marked (series_answer s offset count count count) x y
  marked_data x y h e l f = f ∙ ap (λ (b : Answer ℕ). marked b x y) (series_data h e l)

-- ---- the buffer that a row names

module _ (strings : ℕ) (keys values table : List ℕ) (j : ℕ) {w offset count : ℕ} {a : Answer Marks} (which : w ≡ entry_at table (j * series_width))
    (place : offset ≡ offset_of table j) (many : count ≡ count_of table j) where
  pub in_values : w ≡ 0 → a ≡ marked (series_answer values offset count count count) (passes_empty values offset count) (holds_high strings values offset count)
      → a ≡ marked (read_series keys values table j) (breaks_empty keys values table j) (breaks_string strings keys values table j)
  unfolding breaks_empty breaks_string
  in_values z e = rw (eq-eqb _ _ (sym which ∙ z), ← place, ← many) e

  pub in_keys : (w ≡ 0 → ⊥) → a ≡ marked (series_answer keys offset count count count) (passes_empty keys offset count) (holds_high strings keys offset count)
      → a ≡ marked (read_series keys values table j) (breaks_empty keys values table j) (breaks_string strings keys values table j)
  unfolding breaks_empty breaks_string
  in_keys z e = rw (ne_eqb _ _ (λ k. z (which ∙ k)), ← place, ← many) e

-- ---- all of them

-- the first j are read, and these are the lowest of them that break each rule
pub record Reads (strings : ℕ) (keys values table : List ℕ) (j a b : ℕ) : Type 0 where
  pub all : read_all keys values table j ≡ gives tt
  pub empty : a ≡ lowest_of (breaks_empty keys values table) j
  pub high : b ≡ lowest_of (breaks_string strings keys values table) j
  pub below : j ≤ rows series_width table

abbrev inside : Answer Marks → Marks
inside (gives p) = p
inside (refuses r) = marks false false

given_by : (o : Answer ℕ) {x y u v : Bool} → marked o x y ≡ gives (marks u v) → (n : ℕ) × (o ≡ gives n) × (u ≡ x) × (v ≡ y)
given_by (gives n) e = (n, refl, sym (ap (λ (a : Answer Marks). (inside a).empty) e), sym (ap (λ (a : Answer Marks). (inside a).high) e))
given_by (refuses r) e = absurd (not_given e)

refused_by : (o : Answer ℕ) (x y : Bool) {r : Refusal} → marked o x y ≡ refuses r → o ≡ refuses r
refused_by (gives n) x y e = absurd (not_given (sym e))
refused_by (refuses q) x y {r} e = let p : q ≡ r = cc in rw p

module _ (strings : ℕ) (keys values table : List ℕ) where
  pub reads_first : Reads strings keys values table 0 0 0
  unfolding read_all lowest_of
  reads_first = record { all = refl; empty = refl; high = refl; below = omega arith }

-- the first refusal stays
read_stays : (keys values table : List ℕ) (i : ℕ) {r : Refusal} → read_all keys values table i ≡ refuses r → read_all keys values table (suc i) ≡ refuses r
unfolding read_all
read_stays keys values table i e = rw e refl

module _ {strings : ℕ} {keys values table : List ℕ} {j a b : ℕ} (g : Reads strings keys values table j a b) (more : j < rows series_width table) where
  read_next : {n : ℕ} → read_series keys values table j ≡ gives n → read_all keys values table (suc j) ≡ gives tt
  unfolding read_all
  read_next e = rw (g.all, e)

  read_stop : {r : Refusal} → read_series keys values table j ≡ refuses r → read_all keys values table (suc j) ≡ refuses r
  unfolding read_all
  read_stop e = rw (g.all, e)

  -- one more
  pub reads_more : {u v : Bool} {c d : ℕ} → gives (marks u v) ≡ marked (read_series keys values table j) (breaks_empty keys values table j) (breaks_string strings keys values table j)
      → c ≡ cond (ltb a j) a (cond u j (j + 1)) → d ≡ cond (ltb b j) b (cond v j (j + 1)) → Reads strings keys values table (j + 1) c d
  reads_more e p q =
      let k = given_by (read_series keys values table j) (sym e) in
      rw (add-one j)
      (record {
        all = read_next k.1;
        empty = lower_is (breaks_empty keys values table) g.empty k.2 p;
        high = lower_is (breaks_string strings keys values table) g.high k.3 q;
        below = omega (arith, more);
      })

  -- one that is refused: no later one is asked
  pub reads_refused : {r : Refusal} → refuses r ≡ marked (read_series keys values table j) (breaks_empty keys values table j) (breaks_string strings keys values table j)
      → refuses r ≡ check_series strings keys values table
  unfolding check_series
  reads_refused {r} e =
      let stop = read_stop (refused_by (read_series keys values table j) _ _ (sym e)) in
      let stays = le_ind {n = suc j} (λ (i : ℕ). read_all keys values table i ≡ refuses r) stop (λ i l f. read_stays keys values table i f) (rows series_width table) (omega (arith, more)) in
      rw stays

pub reads_done : {strings : ℕ} {keys values table : List ℕ} {j a b : ℕ} → Reads strings keys values table j a b → rows series_width table ≤ j
    → gives (lows a b) ≡ check_series strings keys values table
unfolding check_series
reads_done {strings} {keys} {values} {table} {j} g h = let e : j ≡ rows series_width table = omega (arith, h, g.below) in rw (← e, g.all, g.empty, g.high)
