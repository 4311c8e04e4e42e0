-- From what the definitions test to what the rules say, and back.
use Prim.Native.Nat.{ℕ, suc, ◌+◌, ◌≤◌, ◌<◌, min, max}
use mathlib.Core.Path.{◌≡◌, refl, sym, ap, ◌∙◌, subst}
use mathlib.Core.Logic.{◌⊎◌, inl, inr}
use mathlib.Core.Bool.{Bool, true, false, cond, not}
use mathlib.Core.List.{List}
use Rattle.std.specs.Prelude.{Option, Some, None}
use native.Mathlib.Omega.{arith}
use lib.ListN.{length}
use lib.Dec.{ltb, leb, eqb}
use borrow.Author.Tests.{lt-ltb, le-ltb, ltb-true, ltb-false, le-leb, lt-leb, leb-true, leb-false, eq-eqb, ne_eqb, eqb-true, eqb-false}
use Rattle.hbc_io.specs.Outcome.{Outcome, got, refused, cursor_at}
use Rattle.hbc_function_record.specs.Record.{large_of}
use Rattle.hbc_function_header.specs.declared.Ground.{Ground}
use Rattle.hbc_function_header.specs.declared.Ground.TheVariants as ground
use Rattle.hbc_function_header.specs.Header.{ground_at}
use Rattle.hbc_function_header.specs.Meets.{overlap}
use Rattle.hbc_table_strings.specs.declared.Mode.TheVariants.{Hermes}
use Rattle.hbc_table_strings.specs.Hermes.{run_length, lengths}
use Rattle.hbc_table_strings.specs.Row.{row_of}
use Rattle.hbc_buffer.specs.Series.{Run, tag_at, after}
use Rattle.hbc_lowest.specs.Lowest.{some}
use Rattle.hbc_lowest.proofs.Laws.{some_is, some_at, truth_clash}
use Rattle.hbc_clean_large.specs.Large.{early, shares, shares_any, breaks_large}
use Rattle.hbc_clean_series.specs.Series.{offset_of, count_of, is_empty, empty_next, passes_empty, high_string, holds_high, breaks_empty, breaks_string}
use Rattle.hbc_clean.specs.Strings.{empty_run, wrong_sum, breaks_runs, run_places, breaks_valid}
use Rattle.hbc_clean.specs.Bundle.{Given, strings_of, series_of, large, runs, valid, full, known}
use Rattle.hbc_claims_law.specs.Terms.{Shared}
use Rattle.hbc_claims_clean.specs.Rules.{LargeAt, InBoth, SharesWith, end_of, BreaksLarge, BreaksRuns, BreaksValid, buffer_in, Asked, EmptyTag, BreaksEmpty, kind_in, payload_in, BreaksString}

-- ---- 1

-- bytes that two large headers have in common
byte_of : (n p q : ℕ) → overlap p n q (q + n) ≡ true → Shared p n q (q + n) (max p q)
unfolding overlap
byte_of n p q e =
    let h = ltb-true (max p q) (min (p + n) (q + n)) e in
    record { from = omega arith; to = omega (arith, h); low_on = omega arith; before_high = omega (arith, h) }

overlap_by : (n p q b : ℕ) → Shared p n q (q + n) b → overlap p n q (q + n) ≡ true
unfolding overlap
overlap_by n p q b s = lt-ltb (max p q) (min (p + n) (q + n)) (omega (arith, s.from, s.to, s.low_on, s.before_high))

module _ (g : Given) where
  abbrev at : ℕ → Option Ground
  at i = ground_at g.file g.layout g.start i

  abbrev n : ℕ
  n = large_of g.layout

  -- the tests, of grounds that are known
  early_of : (i : ℕ) (x : Option Ground) → i < g.count → at i ≡ x → early (end_of g) x ≡ true → BreaksLarge g i
  unfolding early
  early_of i None l e h = absurd (truth_clash h refl)
  early_of i (Some (ground.Inline a)) l e h = absurd (truth_clash h refl)
  early_of i (Some (ground.Large a p)) l e h = record { place = p; large = record { low = l; own = a; is = e }; why = inl (ltb-true p (end_of g) h) }

  shares_of : (i j : ℕ) (x y : Option Ground) → i < g.count → j < g.count → (i ≡ j → ⊥) → at i ≡ x → at j ≡ y → shares n x y ≡ true → BreaksLarge g i
  unfolding shares
  shares_of i j None y l m d e f h = absurd (truth_clash h refl)
  shares_of i j (Some (ground.Inline a)) y l m d e f h = absurd (truth_clash h refl)
  shares_of i j (Some (ground.Large a p)) None l m d e f h = absurd (truth_clash h refl)
  shares_of i j (Some (ground.Large a p)) (Some (ground.Inline b)) l m d e f h = absurd (truth_clash h refl)
  shares_of i j (Some (ground.Large a p)) (Some (ground.Large b q)) l m d e f h = record {
    place = p;
    large = record { low = l; own = a; is = e };
    why = inr (record { other = j; apart = d; place = q; large = record { low = m; own = b; is = f }; byte = max p q; in_both = byte_of n p q h });
  }

  other_by : (i j : ℕ) (b : Bool) → eqb i j ≡ b → cond b false (shares n (at i) (at j)) ≡ true → (i ≡ j → ⊥) × (shares n (at i) (at j) ≡ true)
  other_by i j true e h = absurd (truth_clash h refl)
  other_by i j false e h = (eqb-false i j e, h)

  any_of : (i : ℕ) → i < g.count → shares_any g.file g.layout g.start g.count i ≡ true → BreaksLarge g i
  any_of i l h =
      let x = some_at _ g.count h in
      let y = other_by i x.index (eqb i x.index) refl x.so in
      shares_of i x.index (at i) (at x.index) l x.low y.0 refl refl y.1

  large_by : (i : ℕ) (b : Bool) → early (end_of g) (at i) ≡ b → i < g.count → cond b true (shares_any g.file g.layout g.start g.count i) ≡ true → BreaksLarge g i
  large_by i true e l h = early_of i (at i) l refl e
  large_by i false e l h = any_of i l h

  pub large_to : (i : ℕ) → i < g.count → large g i ≡ true → BreaksLarge g i
  unfolding breaks_large
  large_to i l h = large_by i (early (end_of g) (at i)) refl l h

  either_true : (x : Bool) {y : Bool} → y ≡ true → cond x true y ≡ true
  either_true true e = refl
  either_true false e = e

  large_why : (i p a : ℕ) → at i ≡ Some (ground.Large a p) → (p < end_of g) ⊎ SharesWith g i p → large g i ≡ true
  unfolding breaks_large early shares
  large_why i p a e (inl h) = rw (e, lt-ltb p (end_of g) h)
  large_why i p a e (inr s) =
      let o = overlap_by n p s.place s.byte s.in_both in
      either_true (early (end_of g) (at i)) (some_is _ g.count s.other s.large.low (rw (ne_eqb i s.other s.apart, e, s.large.is) o))

  pub large_from : (i : ℕ) → BreaksLarge g i → (i < g.count) × (large g i ≡ true)
  large_from i b = (b.large.low, large_why i b.place b.large.own b.large.is b.why)

  -- ---- 2

  not_true : (x : Bool) → not x ≡ true → x ≡ false
  not_true true e = absurd (truth_clash e refl)
  not_true false e = refl

  runs_by : (r : ℕ) (b : Bool) → ltb r (length g.kinds) ≡ b → r < suc (length g.kinds)
      → cond b (empty_run g.kinds r) (wrong_sum g.kinds g.strings) ≡ true → BreaksRuns g r
  runs_by r true e l h = record { why = inl (ltb-true r (length g.kinds) e, eqb-true (run_length g.kinds r) 0 h) }
  runs_by r false e l h =
      let m = ltb-false r (length g.kinds) e in
      record { why = inr (omega (arith, l, m), eqb-false (lengths g.kinds (length g.kinds)) g.strings (not_true (eqb (lengths g.kinds (length g.kinds)) g.strings) h)) }

  pub runs_to : (r : ℕ) → r < run_places g.kinds → runs g r ≡ true → BreaksRuns g r
  unfolding breaks_runs
  runs_to r l h = runs_by r (ltb r (length g.kinds)) refl l h

  runs_why : (r : ℕ) → ((r < length g.kinds) × (run_length g.kinds r ≡ 0)) ⊎ ((r ≡ length g.kinds) × (lengths g.kinds (length g.kinds) ≡ g.strings → ⊥))
      → (r < run_places g.kinds) × (runs g r ≡ true)
  unfolding breaks_runs
  runs_why r (inl w) = (omega (arith, w.0), rw (lt-ltb r (length g.kinds) w.0, eq-eqb (run_length g.kinds r) 0 w.1))
  runs_why r (inr w) =
      (omega (arith, w.0), rw (le-ltb r (length g.kinds) (omega (arith, w.0)), ne_eqb (lengths g.kinds (length g.kinds)) g.strings w.1))

  pub runs_from : (r : ℕ) → BreaksRuns g r → (r < run_places g.kinds) × (runs g r ≡ true)
  runs_from r b = runs_why r b.why

  -- ---- 3

  pub valid_to : (i : ℕ) → i < strings_of g → valid g i ≡ true → BreaksValid g i
  unfolding breaks_valid
  valid_to i l h = record { low = l; invalid = eqb-true (row_of Hermes g.kinds g.small g.overflow (length g.storage) i).invalid 1 h }

  pub valid_from : (i : ℕ) → BreaksValid g i → (i < strings_of g) × (valid g i ≡ true)
  unfolding breaks_valid
  valid_from i b = (b.low, eq-eqb (row_of Hermes g.kinds g.small g.overflow (length g.storage) i).invalid 1 b.invalid)

  -- ---- 4

  module _ (j : ℕ) where
    abbrev s : List ℕ
    s = buffer_in g j

    abbrev o : ℕ
    o = offset_of g.series j

    tag_of : (k : ℕ) (u : Outcome Run) {run : Run} {c : _} → after k s (cursor_at o) ≡ got run c → run.left ≡ 0 → tag_at s c ≡ u → is_empty u ≡ true → EmptyTag g j k
    tag_of k (got t m) e z f h = record { run = _; at = _; past = e; spent = z; tag = t; next = m; there = f; empty = eqb-true t.left 0 h }
    tag_of k (refused r m) e z f h = absurd (truth_clash h refl)

    next_by : (k : ℕ) (run : Run) (c : _) (b : Bool) → after k s (cursor_at o) ≡ got run c → eqb run.left 0 ≡ b → cond b (is_empty (tag_at s c)) false ≡ true → EmptyTag g j k
    next_by k run c true e f h = tag_of k (tag_at s c) e (eqb-true run.left 0 f) refl h
    next_by k run c false e f h = absurd (truth_clash h refl)

    next_of : (k : ℕ) (u : Outcome Run) → after k s (cursor_at o) ≡ u → empty_next s u ≡ true → EmptyTag g j k
    next_of k (got run c) e h = next_by k run c (eqb run.left 0) e refl h
    next_of k (refused r m) e h = absurd (truth_clash h refl)

    pub empty_to : j < series_of g → full g j ≡ true → BreaksEmpty g j
    unfolding breaks_empty passes_empty
    empty_to l h =
        let x = some_at _ (count_of g.series j) h in
        record { value = x.index; asked = record { low = l; within = x.low }; tag = next_of x.index (after x.index s (cursor_at o)) refl x.so }

    pub empty_from : BreaksEmpty g j → (j < series_of g) × (full g j ≡ true)
    unfolding breaks_empty passes_empty
    empty_from b =
        let t = b.tag in (
          b.asked.low,
          some_is _ (count_of g.series j) b.value b.asked.within
              (rw (t.past, eq-eqb t.run.left 0 t.spent, t.there, eq-eqb t.tag.left 0 t.empty) refl),
        )

    -- ---- 5

    high_by : (k : ℕ) (b : Bool) → eqb (kind_in g j k) 4 ≡ b → cond b (leb g.strings (payload_in g j k)) false ≡ true → (kind_in g j k ≡ 4) × (g.strings ≤ payload_in g j k)
    high_by k true e h = (eqb-true (kind_in g j k) 4 e, leb-true g.strings (payload_in g j k) h)
    high_by k false e h = absurd (truth_clash h refl)

    pub string_to : j < series_of g → known g j ≡ true → BreaksString g j
    unfolding breaks_string holds_high
    string_to l h =
        let x = some_at (high_string g.strings s o) (count_of g.series j) h in
        let y = high_by x.index (eqb (kind_in g j x.index) 4) refl x.so in
        record { value = x.index; asked = record { low = l; within = x.low }; string = y.0; high = y.1 }

    pub string_from : BreaksString g j → (j < series_of g) × (known g j ≡ true)
    unfolding breaks_string holds_high
    string_from b = (
      b.asked.low,
      some_is (high_string g.strings s o) (count_of g.series j) b.value b.asked.within
          (rw (eq-eqb (kind_in g j b.value) 4 b.string, le-leb g.strings (payload_in g j b.value) b.high) refl),
    )
