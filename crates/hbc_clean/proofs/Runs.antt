-- Kind runs: their sum, and the lowest place that breaks rule 2.
use Prim.Native.Nat.{ℕ, suc, ◌+◌, ◌≤◌, ◌<◌}
use mathlib.Core.Path.{◌≡◌, refl, sym, ap, ◌∙◌, subst}
use mathlib.Core.Bool.{true, false, not}
use mathlib.Core.List.{List}
use native.Mathlib.Omega.{arith}
use native.Mathlib.Numerals.{add-one}
use native.Mathlib.Decide.{le_ind, dec_lt}
use lib.ListN.{length}
use lib.Dec.{eqb}
use borrow.Author.Tests.{lt-ltb, le-ltb, eq-eqb, ne_eqb}
use Rattle.hbc_table_strings.specs.Hermes.{run_length, lengths}
use Rattle.hbc_lowest.specs.Lowest.{lowest_of}
use Rattle.hbc_lowest.proofs.Laws.{Is, none_first, none_next, lowest_here, is_lowest, lowest_is, lowest_none}
use Rattle.hbc_lowest.proofs.Laws as laws
use Rattle.std.specs.Prelude.{Some, None}
use Rattle.hbc_io.specs.Lends.{below}
use Rattle.hbc_clean.specs.Private.{run_found}
use Rattle.hbc_clean.specs.Strings.{empty_run, wrong_sum, breaks_runs, run_places}

-- ---- their sum

pub sum_first : (kinds : List ℕ) → ◌≡◌ {A = ℕ} 0 (lengths kinds 0)
unfolding lengths
sum_first kinds = refl

pub sum_more : (kinds : List ℕ) (run : ℕ) → lengths kinds (run + 1) ≡ lengths kinds run + run_length kinds run
unfolding lengths
sum_more kinds run = rw add-one

pub sum_grows : (kinds : List ℕ) (a b : ℕ) → a ≤ b → lengths kinds a ≤ lengths kinds b
sum_grows kinds a b h = le_ind (λ (m : ℕ). lengths kinds a ≤ lengths kinds m) (omega arith) (λ m k p. let e = next m in omega (arith, e, p)) b h
  where
    next : (m : ℕ) → lengths kinds (suc m) ≡ lengths kinds m + run_length kinds m
    next m = let e : suc m ≡ m + 1 = omega arith in ap (lengths kinds) e ∙ sum_more kinds m

pub sum_next : (kinds : List ℕ) (run : ℕ) {sum n : ℕ} → sum ≡ lengths kinds run → n ≡ run_length kinds run → sum + n ≡ lengths kinds (run + 1)
sum_next kinds run e d = let q = sum_more kinds run in omega (arith, q, e, d)

-- once above the count it stays above
pub sum_above : (kinds : List ℕ) (strings run : ℕ) → run < length kinds → strings < lengths kinds (run + 1) → false ≡ eqb (lengths kinds (length kinds)) strings
sum_above kinds strings run h l =
    let g = sum_grows kinds (run + 1) (length kinds) (omega (arith, h)) in
    sym (ne_eqb (lengths kinds (length kinds)) strings (λ e. omega (arith, e, g, l)))

-- ---- the lowest place

module _ (kinds : List ℕ) (strings : ℕ) where
  inside : (r : ℕ) → r < length kinds → breaks_runs kinds strings r ≡ empty_run kinds r
  unfolding breaks_runs
  inside r h = rw (lt-ltb r (length kinds) h) refl

  last : (r : ℕ) → length kinds ≤ r → breaks_runs kinds strings r ≡ wrong_sum kinds strings
  unfolding breaks_runs
  last r h = rw (le-ltb r (length kinds) h) refl

  module _ {r : ℕ} (e : r ≡ lowest_of (empty_run kinds) (length kinds)) where
    found : Is (empty_run kinds) (length kinds) r
    found = subst (Is (empty_run kinds) (length kinds)) (sym e) (is_lowest (empty_run kinds) (length kinds))

    before : (i : ℕ) → i < r → breaks_runs kinds strings i ≡ false
    before i l = inside i (omega (arith, l, found.most)) ∙ found.not i l

    empty_is : r < length kinds → r ≡ lowest_of (breaks_runs kinds strings) (run_places kinds)
    empty_is h = lowest_is (breaks_runs kinds strings) (record { most = omega (arith, h); so = λ _. inside r h ∙ found.so h; not = before })

    sum_is : length kinds ≤ r → eqb (lengths kinds (length kinds)) strings ≡ false → r ≡ lowest_of (breaks_runs kinds strings) (run_places kinds)
    sum_is h d = lowest_is (breaks_runs kinds strings) (record { most = omega (arith, found.most); so = λ _. last r h ∙ ap not d; not = before })

    none_by : length kinds ≤ r → eqb (lengths kinds (length kinds)) strings ≡ true → (i : ℕ) → i < suc (length kinds) → Dec (i < r) → breaks_runs kinds strings i ≡ false
    none_by h d i l (yes m) = before i m
    none_by h d i l (no m) = last i (omega (arith, m, h)) ∙ ap not d

    none_is : length kinds ≤ r → eqb (lengths kinds (length kinds)) strings ≡ true → run_places kinds ≡ lowest_of (breaks_runs kinds strings) (run_places kinds)
    none_is h d = lowest_none (breaks_runs kinds strings) (record { not = λ i l. none_by h d i l (dec_lt i r) })

    -- broken at r
    here : r < run_places kinds → r ≡ lowest_of (breaks_runs kinds strings) (run_places kinds) → Some r ≡ run_found kinds strings
    unfolding run_found below
    here h d = rw (lt-ltb (lowest_of (breaks_runs kinds strings) (run_places kinds)) (run_places kinds) (omega (arith, h, d))) (ap Some d)

    pub run_empty : r < length kinds → Some r ≡ run_found kinds strings
    run_empty h = here (omega (arith, h)) (empty_is h)

    pub run_sum : length kinds ≤ r → eqb (lengths kinds (length kinds)) strings ≡ false → Some r ≡ run_found kinds strings
    run_sum h d = here (omega (arith, found.most)) (sum_is h d)

    pub run_none : length kinds ≤ r → eqb (lengths kinds (length kinds)) strings ≡ true → None ≡ run_found kinds strings
    unfolding run_found below
    run_none h d =
        let z = none_is h d in
        rw (le-ltb (lowest_of (breaks_runs kinds strings) (run_places kinds)) (run_places kinds) (omega (arith, z)))

-- ---- the first that is empty

module _ (kinds : List ℕ) where
  pub empty_first : laws.None (empty_run kinds) 0
  empty_first = none_first

  pub empty_next : {i n : ℕ} → laws.None (empty_run kinds) i → n ≡ run_length kinds i → (n ≡ 0 → ⊥) → laws.None (empty_run kinds) (i + 1)
  empty_next {i} p e h = none_next (empty_run kinds) p (ne_eqb (run_length kinds i) 0 (λ z. h (e ∙ z)))

  pub empty_here : {i n : ℕ} → laws.None (empty_run kinds) i → i < length kinds → n ≡ run_length kinds i → n ≡ 0 → i ≡ lowest_of (empty_run kinds) (length kinds)
  empty_here {i} p l e z = lowest_here (empty_run kinds) p l (eq-eqb (run_length kinds i) 0 (sym e ∙ z))

  pub empty_none : laws.None (empty_run kinds) (length kinds) → length kinds ≡ lowest_of (empty_run kinds) (length kinds)
  empty_none p = lowest_none (empty_run kinds) p

-- what the calls cite
pub ruleset emptiness = (empty_first, empty_next, empty_here, empty_none)

pub ruleset summing = (sum_first, sum_next, sum_above)

pub ruleset lowest_runs = (run_empty, run_sum, run_none)
