-- The answers of the parts put together: the readers' refusals in order, then the first broken rule.
use Prim.Native.Nat.{ℕ, zero, suc, ◌*◌, ◌/◌}
use mathlib.Core.Path.{◌≡◌, refl, sym, ap, ◌∙◌}
use mathlib.Core.Bool.{Bool, true, false, cond}
use mathlib.Core.List.{List}
use lib.ListN.{length}
use lib.Dec.{ltb}
use Rattle.hbc_io.specs.Outcome.{limit}
use Rattle.hbc_io.specs.declared.Refusal.{Refusal}
use Rattle.hbc_io.specs.Answer.{Answer, gives, refuses, refused_at, and_then}
use Rattle.hbc_io.specs.Lends.{below, choose}
use Rattle.hbc_io.proofs.Exits.{not_given}
use Rattle.hbc_rows.specs.Rows.{entry_at}
use Rattle.hbc_function_record.specs.Row.{width}
use Rattle.hbc_function.specs.Table.{read_answer}
use Rattle.hbc_table_strings.specs.declared.Mode.TheVariants.{Hermes}
use Rattle.hbc_table_strings.specs.Entries.{pair_of, lacks_pair}
use Rattle.hbc_table_strings.specs.Strings.{scan}
use Rattle.hbc_lowest.specs.Lowest.{lowest_of}
use Rattle.hbc_clean_large.specs.Large.{check_large}
use Rattle.hbc_clean_series.specs.Series.{read_all, lows, check_series}
use Rattle.hbc_clean.specs.Strings.{run_places, read_strings}
use Rattle.hbc_clean.specs.Bundle.{Given, Verdict, clean, broken, strings_of, series_of, large, runs, valid, full, known, rule, verdict, check_bundle}
use Rattle.hbc_clean.specs.Private.{run_found, runs_broken, check_strings, first_broken}
use Rattle.hbc_clean_series.specs.declared.Lows.{Lows}
use Rattle.std.specs.Prelude.{Option, Some, None}
use Rattle.hbc_clean.proofs.Judging.{read_is}

-- ---- an answer and what is given after it

pub then_refused : {A B : Type 0} (a : Answer A) (v : A → B) {x : Refusal} → refuses x ≡ and_then a (λ n. gives (v n)) → a ≡ refuses x
then_refused (gives n) v e = absurd (not_given e)
then_refused (refuses y) v {x} e = let z : y ≡ x = cc in ap refuses z

pub record Gave {A B : Type 0} (a : Answer A) (v : A → B) (r : B) : Type 0 where
  pub value : A
  pub is : a ≡ gives value
  pub so : r ≡ v value

pub then_gave : {A B : Type 0} (a : Answer A) (v : A → B) {r : B} → gives r ≡ and_then a (λ n. gives (v n)) → Gave a v r
then_gave (gives n) v e = record { value = n; is = refl; so = cc }
then_gave (refuses y) v e = absurd (not_given (sym e))

-- ---- as many strings are read as are asked for

pub read_count : (small : List ℕ) (pairs n : ℕ) {m : ℕ} → scan Hermes small pairs n ≡ gives m → n ≡ m
unfolding scan choose
read_count small pairs zero e = cc
read_count small pairs (suc n) {m} e = by (scan Hermes small pairs n) (lacks_pair (entry_at small n) (pair_of Hermes small n) pairs) e
  where
    by : (a : Answer ℕ) (x : Bool) → and_then a (λ _. choose x (refused_at 8 n) (gives (suc n))) ≡ gives m → suc n ≡ m
    by (gives k) true e = absurd (not_given e)
    by (gives k) false e = cc
    by (refuses y) x e = absurd (not_given e)

read_by : (storage : List ℕ) (small : List ℕ) (pairs n : ℕ) {m : ℕ} (x : Bool) → ltb limit (length storage) ≡ x
    → below limit (length storage) (refused_at 1 0) (scan Hermes small pairs n) ≡ gives m → n ≡ m
unfolding below
read_by storage small pairs n true e f = absurd (not_given (rw e at f))
read_by storage small pairs n false e f = read_count small pairs n (rw e at f)

module _ (g : Given) where
  abbrev headers : Answer (Unit {0})
  headers = read_answer g.file g.layout g.start g.count (g.count * width)

  abbrev texts : Answer ℕ
  texts = read_strings g.strings g.small g.overflow g.storage

  abbrev literals : Answer (Unit {0})
  literals = read_all g.keys g.values g.series (series_of g)

  pub all_read : {n : ℕ} → texts ≡ gives n → strings_of g ≡ n
  all_read e =
      read_by g.storage g.small (length g.overflow / 2) (strings_of g) (ltb limit (length g.storage)) refl
      (sym (read_is g.strings g.small g.overflow g.storage) ∙ e)

  -- ---- the refusals

  pub headers_refused : {x : Refusal} → refuses x ≡ check_large g.file g.layout g.start g.count → refuses x ≡ check_bundle g
  unfolding check_bundle check_large
  headers_refused e = rw (then_refused headers (λ _. lowest_of (large g) g.count) e)

  module _ {n : ℕ} (first : gives n ≡ check_large g.file g.layout g.start g.count) where
    headers_gave : Gave headers (λ _. lowest_of (large g) g.count) n
    unfolding check_large
    headers_gave = then_gave headers (λ _. lowest_of (large g) g.count) first

    pub strings_refuse : {x : Refusal} → refuses x ≡ check_strings g.kinds g.strings g.small g.overflow g.storage → refuses x ≡ check_bundle g
    unfolding check_bundle check_strings
    strings_refuse e = rw (headers_gave.is, then_refused texts (λ k. lowest_of (valid g) k) e)

    module _ {m : ℕ} (second : gives m ≡ check_strings g.kinds g.strings g.small g.overflow g.storage) where
      texts_gave : Gave texts (λ k. lowest_of (valid g) k) m
      unfolding check_strings
      texts_gave = then_gave texts (λ k. lowest_of (valid g) k) second

      pub series_refuse : {x : Refusal} → refuses x ≡ check_series g.strings g.keys g.values g.series → refuses x ≡ check_bundle g
      unfolding check_bundle check_series
      series_refuse e = rw (headers_gave.is, texts_gave.is, then_refused literals (λ _. lows (lowest_of (full g) (series_of g)) (lowest_of (known g) (series_of g))) e)

      -- ---- the first broken rule

      module _ {v : Lows} (third : gives v ≡ check_series g.strings g.keys g.values g.series) where
        literals_gave : Gave literals (λ _. lows (lowest_of (full g) (series_of g)) (lowest_of (known g) (series_of g))) v
        unfolding check_series
        literals_gave = then_gave literals (λ _. lows (lowest_of (full g) (series_of g)) (lowest_of (known g) (series_of g))) third

        by_test : (x : Bool) (p : ℕ) (w : Verdict) → runs_broken (cond x (Some p) None) w ≡ cond x (broken 2 p) w
        by_test true p w = refl
        by_test false p w = refl

        run_by : {run : Option ℕ} (w : Verdict) → run ≡ run_found g.kinds g.strings → runs_broken run w ≡ rule 2 (runs g) (run_places g.kinds) w
        unfolding run_found below
        run_by w p = rw p (by_test (ltb (lowest_of (runs g) (run_places g.kinds)) (run_places g.kinds)) (lowest_of (runs g) (run_places g.kinds)) w)

        first_is : {run : Option ℕ} → run ≡ run_found g.kinds g.strings → first_broken n g.count run m (strings_of g) v.empty v.high (series_of g) ≡ verdict g
        unfolding verdict
        first_is {run} p =
            let e : m ≡ lowest_of (valid g) (strings_of g) = texts_gave.so ∙ ap (lowest_of (valid g)) (sym (all_read texts_gave.is)) in
            let d : v.empty ≡ lowest_of (full g) (series_of g) = ap (λ (q : Lows). q.empty) literals_gave.so in
            let h : v.high ≡ lowest_of (known g) (series_of g) = ap (λ (q : Lows). q.high) literals_gave.so in
            let rest = rule 3 (valid g) (strings_of g) (rule 4 (full g) (series_of g) (rule 5 (known g) (series_of g) clean)) in
            rw (headers_gave.so, e, d, h, run_by rest p)

        pub bundle_given : {run : Option ℕ} {w : Verdict} → run ≡ run_found g.kinds g.strings
            → w ≡ first_broken n g.count run m (strings_of g) v.empty v.high (series_of g) → gives w ≡ check_bundle g
        unfolding check_bundle
        bundle_given p e = ap gives (e ∙ first_is p) ∙ rw (headers_gave.is, texts_gave.is, literals_gave.is)
