-- What the answer says of what was given: nothing refused and all rules hold, a rule broken at its lowest place, or the readers' first refusal.
use Prim.Native.Nat.{ℕ, zero, suc, ◌+◌, ◌*◌, ◌/◌, ◌≤◌, ◌<◌}
use mathlib.Core.Path.{◌≡◌, refl, sym, ap, ◌∙◌, subst}
use mathlib.Core.Logic.{◌⊎◌, inl, inr}
use mathlib.Core.Bool.{Bool, true, false, cond}
use mathlib.Core.List.{List}
use native.Mathlib.Omega.{arith}
use native.Mathlib.Decide.{dec_lt}
use lib.ListN.{length, replicate, length-replicate}
use lib.Dec.{ltb, eqb}
use borrow.Author.Tests.{lt-ltb, le-ltb, ltb-true, ltb-false, eqb-true, eqb-false}
use Rattle.hbc_io.specs.Outcome.{limit}
use Rattle.hbc_io.specs.declared.Refusal.{Refusal}
use Rattle.hbc_io.specs.Answer.{Answer, gives, refuses, refused_at, asked, and_then}
use Rattle.hbc_io.specs.Lends.{below, choose}
use Rattle.hbc_io.proofs.Exits.{not_given}
use Rattle.hbc_rows.specs.Rows.{rows}
use Rattle.hbc_function_record.specs.Row.{width}
use Rattle.hbc_function_header.specs.Header.{function_at, opened}
use Rattle.hbc_function.specs.Table.{scan, all, roomed, read_answer}
use Rattle.hbc_table_strings.specs.declared.Mode.TheVariants.{Hermes}
use Rattle.hbc_table_strings.specs.Hermes.{run_length, lengths}
use Rattle.hbc_table_strings.specs.Row.{string_width, row_of}
use Rattle.hbc_table_strings.proofs.Laws.{row_bit}
use Rattle.hbc_table_strings.specs.Strings as strings
use Rattle.hbc_buffer.specs.Series.{series_answer}
use Rattle.hbc_lowest.specs.Lowest.{lowest_of}
use Rattle.hbc_lowest.proofs.Laws.{Is, None, is_lowest, lowest_none, truth_clash}
use Rattle.hbc_clean_series.specs.Series.{offset_of, count_of, read_series, read_all}
use Rattle.std.specs.Prelude as prelude
use Rattle.hbc_clean.specs.Strings.{run_places, read_strings}
use Rattle.hbc_clean.specs.Bundle.{Bundle, number_of, Given, Verdict, clean, broken, strings_of, series_of, large, runs, valid, full, known, rule, verdict, check_bundle, says_bundle}
use Rattle.hbc_clean.proofs.Judging.{read_is}
use Rattle.hbc_clean.proofs.Verdicts.{all_read}
use Rattle.hbc_claims_clean.specs.Rules.{LargeAt, SharesWith, end_of, BreaksLarge, LargeTidy, BreaksRuns, RunsTidy, BreaksValid, StringsValid, buffer_in, BreaksEmpty, SeriesFull, Asked, kind_in, payload_in, BreaksString, StringsKnown, Clean}
use Rattle.hbc_claims_clean.specs.Bundle.{HeadersRead, HeadersRefused, StringsRead, StringsRefused, SeriesRead, SeriesRefused, Accepted, FirstSeries, RefusedFirst, CleanExactly, Lowest, BrokenTruly, Judges}
use Rattle.hbc_claims_clean.proofs.Rules.{large_to, large_from, runs_to, runs_from, valid_to, valid_from, empty_to, empty_from, string_to, string_from}
use Rattle.hbc_claims_clean.proofs.Unique.{clean_not, one_bundle}

-- ---- one rule of n places

module _ (k : ℕ) (b : ℕ → Bool) (n : ℕ) (v : Verdict) where
  holds_by : (x : Bool) → ltb (lowest_of b n) n ≡ x → cond x (broken k (lowest_of b n)) v ≡ clean → None b n × (v ≡ clean)
  holds_by true e h = absurd (clean_not (sym h))
  holds_by false e h =
      let l = ltb-false (lowest_of b n) n e in
      (record { not = λ i m. (is_lowest b n).not i (omega (arith, l, m)) }, h)

  -- no place breaks it, and so on
  rule_holds : rule k b n v ≡ clean → None b n × (v ≡ clean)
  unfolding below
  rule_holds h = holds_by (ltb (lowest_of b n) n) refl h

  none_rule : None b n → rule k b n v ≡ v
  unfolding below
  none_rule p = let e = lowest_none b p in rw (le-ltb (lowest_of b n) n (omega (arith, e)))

  breaks_by : {m p : ℕ} (x : Bool) → ltb (lowest_of b n) n ≡ x → cond x (broken k (lowest_of b n)) v ≡ broken m p
      → ((m ≡ k) × (p ≡ lowest_of b n) × (p < n)) ⊎ (None b n × (v ≡ broken m p))
  breaks_by {m} {p} true e h =
      let i : k ≡ m = cc in
      let j : lowest_of b n ≡ p = cc in
      let l = ltb-true (lowest_of b n) n e in
      inl (sym i, sym j, omega (arith, l, j))
  breaks_by false e h = let l = ltb-false (lowest_of b n) n e in inr (record { not = λ i m. (is_lowest b n).not i (omega (arith, l, m)) }, h)

  -- it is broken at its lowest place, or holds, and a later one is broken
  rule_breaks : {m p : ℕ} → rule k b n v ≡ broken m p → ((m ≡ k) × (p ≡ lowest_of b n) × (p < n)) ⊎ (None b n × (v ≡ broken m p))
  unfolding below
  rule_breaks h = breaks_by (ltb (lowest_of b n) n) refl h

-- the lowest of its places, as a statement
lowest_of_lem : {b : ℕ → Bool} {n : ℕ} (P : ℕ → Type 0) → ((i : ℕ) → i < n → b i ≡ true → P i) → ((i : ℕ) → P i → (i < n) × (b i ≡ true)) → {p : ℕ}
    → p ≡ lowest_of b n → p < n → Lowest P p
lowest_of_lem {b} {n} P to from {p} e l =
    let is = is_lowest b n in
    let so : b p ≡ true = subst (λ (j : ℕ). b j ≡ true) (sym e) (is.so (omega (arith, e, l))) in
    record { breaks = to p l so; least = λ i h q. truth_clash (from i q).1 (is.not i (omega (arith, e, h))) }

-- and none of them
none_of : {b : ℕ → Bool} {n : ℕ} {P : ℕ → Type 0} → ((i : ℕ) → P i → (i < n) × (b i ≡ true)) → None b n → (i : ℕ) → P i → ⊥
none_of from p i q = truth_clash (from i q).1 (p.not i (from i q).0)

of_none : {b : ℕ → Bool} {n : ℕ} (P : ℕ → Type 0) → ((i : ℕ) → i < n → b i ≡ true → P i) → ((i : ℕ) → P i → ⊥) → None b n
of_none {b} {n} P to h = record { not = λ i l. by i l (b i) refl }
  where
    by : (i : ℕ) → i < n → (x : Bool) → b i ≡ x → x ≡ false
    by i l true e = absurd (h i (to i l e))
    by i l false e = refl

module _ (g : Given) where
  -- ---- a rule that no place breaks is one that holds

  large_tidy : ((i : ℕ) → BreaksLarge g i → ⊥) → LargeTidy g
  large_tidy h = record {
    late = λ i p q. late i p q (dec_lt p (end_of g));
    apart = λ i j p q b x y d s. h i (record { place = p; large = x; why = inr (record { other = j; apart = d; place = q; large = y; byte = b; in_both = s }) });
  }
    where
      late : (i p : ℕ) → LargeAt g i p → Dec (p < end_of g) → end_of g ≤ p
      late i p q (yes l) = absurd (h i (record { place = p; large = q; why = inl l }))
      late i p q (no l) = omega (arith, l)

  tidy_large : LargeTidy g → (i : ℕ) → BreaksLarge g i → ⊥
  tidy_large t i b = by b.why
    where
      by : (b.place < end_of g) ⊎ SharesWith g i b.place → ⊥
      by (inl l) = let z = t.late i b.place b.large in omega (arith, z, l)
      by (inr s) = t.apart i s.other b.place s.place s.byte b.large s.large s.apart s.in_both

  runs_tidy : ((r : ℕ) → BreaksRuns g r → ⊥) → RunsTidy g
  runs_tidy h = record { full = λ r l e. h r (record { why = inl (l, e) }); sum = by (eqb all_lengths g.strings) refl }
    where
      all_lengths : ℕ
      all_lengths = lengths g.kinds (length g.kinds)

      by : (x : Bool) → eqb all_lengths g.strings ≡ x → all_lengths ≡ g.strings
      by true e = eqb-true all_lengths g.strings e
      by false e = absurd (h (length g.kinds) (record { why = inr (refl, eqb-false all_lengths g.strings e) }))

  tidy_runs : RunsTidy g → (r : ℕ) → BreaksRuns g r → ⊥
  tidy_runs t r b = by b.why
    where
      by : ((r < length g.kinds) × (run_length g.kinds r ≡ 0)) ⊎ ((r ≡ length g.kinds) × (lengths g.kinds (length g.kinds) ≡ g.strings → ⊥)) → ⊥
      by (inl w) = t.full r w.0 w.1
      by (inr w) = w.1 t.sum

  abbrev bit : ℕ → ℕ
  bit i = (row_of Hermes g.kinds g.small g.overflow (length g.storage) i).invalid

  strings_valid : ((i : ℕ) → BreaksValid g i → ⊥) → StringsValid g
  strings_valid h = record { each = λ i l. by i l (eqb (bit i) 1) refl }
    where
      by : (i : ℕ) → i < strings_of g → (x : Bool) → eqb (bit i) 1 ≡ x → bit i ≡ 0
      by i l true e = absurd (h i (record { low = l; invalid = eqb-true (bit i) 1 e }))
      by i l false e = let z = row_bit g.kinds g.small g.overflow (length g.storage) i in let w = eqb-false (bit i) 1 e in omega (arith, z, w)

  valid_strings : StringsValid g → (i : ℕ) → BreaksValid g i → ⊥
  valid_strings t i b = let z = t.each i b.low in omega (arith, z, b.invalid)

  series_full : ((j : ℕ) → BreaksEmpty g j → ⊥) → SeriesFull g
  series_full h = record { none = λ j k a t. h j (record { value = k; asked = a; tag = t }) }

  full_series : SeriesFull g → (j : ℕ) → BreaksEmpty g j → ⊥
  full_series t j b = t.none j b.value b.asked b.tag

  strings_known : ((j : ℕ) → BreaksString g j → ⊥) → StringsKnown g
  strings_known h = record { each = λ j k a e. by j k a e (dec_lt (payload_in g j k) g.strings) }
    where
      by : (j k : ℕ) → Asked g j k → kind_in g j k ≡ 4 → Dec (payload_in g j k < g.strings) → payload_in g j k < g.strings
      by j k a e (yes l) = l
      by j k a e (no l) = absurd (h j (record { value = k; asked = a; string = e; high = omega (arith, l) }))

  known_strings : StringsKnown g → (j : ℕ) → BreaksString g j → ⊥
  known_strings t j b = let z = t.each j b.value b.asked b.string in omega (arith, z, b.high)

  -- ---- the verdict

  abbrev v₅ : Verdict
  v₅ = rule 5 (known g) (series_of g) clean

  abbrev v₄ : Verdict
  v₄ = rule 4 (full g) (series_of g) v₅

  abbrev v₃ : Verdict
  v₃ = rule 3 (valid g) (strings_of g) v₄

  abbrev v₂ : Verdict
  v₂ = rule 2 (runs g) (run_places g.kinds) v₃

  clean_to : verdict g ≡ clean → Clean g
  unfolding verdict
  clean_to e =
      let a = rule_holds 1 (large g) g.count v₂ e in
      let b = rule_holds 2 (runs g) (run_places g.kinds) v₃ a.1 in
      let c = rule_holds 3 (valid g) (strings_of g) v₄ b.1 in
      let d = rule_holds 4 (full g) (series_of g) v₅ c.1 in
      let f = rule_holds 5 (known g) (series_of g) clean d.1 in
      record {
        large = large_tidy (none_of (large_from g) a.0);
        runs = runs_tidy (none_of (runs_from g) b.0);
        strings = strings_valid (none_of (valid_from g) c.0);
        series = series_full (none_of (empty_from g) d.0);
        literals = strings_known (none_of (string_from g) f.0);
      }

  clean_from : Clean g → verdict g ≡ clean
  unfolding verdict
  clean_from t =
      none_rule 1 (large g) g.count v₂ (of_none (BreaksLarge g) (large_to g) (tidy_large t.large))
      ∙ none_rule 2 (runs g) (run_places g.kinds) v₃ (of_none (BreaksRuns g) (runs_to g) (tidy_runs t.runs))
      ∙ none_rule 3 (valid g) (strings_of g) v₄ (of_none (BreaksValid g) (valid_to g) (valid_strings t.strings))
      ∙ none_rule 4 (full g) (series_of g) v₅ (of_none (BreaksEmpty g) (empty_to g) (full_series t.series))
      ∙ none_rule 5 (known g) (series_of g) clean (of_none (BreaksString g) (string_to g) (known_strings t.literals))

  -- ---- a broken rule

  abbrev In : (ℕ → Bool) → ℕ → ℕ → ℕ → ℕ → Type 0
  In b n m k p = (k ≡ m) × (p ≡ lowest_of b n) × (p < n)

  module _ (acc : Accepted g) (k p : ℕ) where
    at_one : In (large g) g.count 1 k p → BrokenTruly g k p
    at_one x = record {
      accepted = acc;
      number = (omega (arith, x.0), omega (arith, x.0));
      one = λ e. lowest_of_lem (BreaksLarge g) (large_to g) (large_from g) x.1 x.2;
      two = λ e. absurd (omega (arith, x.0, e));
      three = λ e. absurd (omega (arith, x.0, e));
      four = λ e. absurd (omega (arith, x.0, e));
      five = λ e. absurd (omega (arith, x.0, e));
      after_one = λ l. absurd (omega (arith, x.0, l));
      after_two = λ l. absurd (omega (arith, x.0, l));
      after_three = λ l. absurd (omega (arith, x.0, l));
      after_four = λ l. absurd (omega (arith, x.0, l));
    }

    module _ (tidy : LargeTidy g) where
      at_two : In (runs g) (run_places g.kinds) 2 k p → BrokenTruly g k p
      at_two x = record {
        accepted = acc;
        number = (omega (arith, x.0), omega (arith, x.0));
        one = λ e. absurd (omega (arith, x.0, e));
        two = λ e. lowest_of_lem (BreaksRuns g) (runs_to g) (runs_from g) x.1 x.2;
        three = λ e. absurd (omega (arith, x.0, e));
        four = λ e. absurd (omega (arith, x.0, e));
        five = λ e. absurd (omega (arith, x.0, e));
        after_one = λ l. tidy;
        after_two = λ l. absurd (omega (arith, x.0, l));
        after_three = λ l. absurd (omega (arith, x.0, l));
        after_four = λ l. absurd (omega (arith, x.0, l));
      }

      module _ (even : RunsTidy g) where
        at_three : In (valid g) (strings_of g) 3 k p → BrokenTruly g k p
        at_three x = record {
          accepted = acc;
          number = (omega (arith, x.0), omega (arith, x.0));
          one = λ e. absurd (omega (arith, x.0, e));
          two = λ e. absurd (omega (arith, x.0, e));
          three = λ e. lowest_of_lem (BreaksValid g) (valid_to g) (valid_from g) x.1 x.2;
          four = λ e. absurd (omega (arith, x.0, e));
          five = λ e. absurd (omega (arith, x.0, e));
          after_one = λ l. tidy;
          after_two = λ l. even;
          after_three = λ l. absurd (omega (arith, x.0, l));
          after_four = λ l. absurd (omega (arith, x.0, l));
        }

        module _ (sound : StringsValid g) where
          at_four : In (full g) (series_of g) 4 k p → BrokenTruly g k p
          at_four x = record {
            accepted = acc;
            number = (omega (arith, x.0), omega (arith, x.0));
            one = λ e. absurd (omega (arith, x.0, e));
            two = λ e. absurd (omega (arith, x.0, e));
            three = λ e. absurd (omega (arith, x.0, e));
            four = λ e. lowest_of_lem (BreaksEmpty g) (empty_to g) (empty_from g) x.1 x.2;
            five = λ e. absurd (omega (arith, x.0, e));
            after_one = λ l. tidy;
            after_two = λ l. even;
            after_three = λ l. sound;
            after_four = λ l. absurd (omega (arith, x.0, l));
          }

          at_five : SeriesFull g → In (known g) (series_of g) 5 k p → BrokenTruly g k p
          at_five whole x = record {
            accepted = acc;
            number = (omega (arith, x.0), omega (arith, x.0));
            one = λ e. absurd (omega (arith, x.0, e));
            two = λ e. absurd (omega (arith, x.0, e));
            three = λ e. absurd (omega (arith, x.0, e));
            four = λ e. absurd (omega (arith, x.0, e));
            five = λ e. lowest_of_lem (BreaksString g) (string_to g) (string_from g) x.1 x.2;
            after_one = λ l. tidy;
            after_two = λ l. even;
            after_three = λ l. sound;
            after_four = λ l. whole;
          }

    -- one rule after another
    in_one : In (large g) g.count 1 k p ⊎ (None (large g) g.count × (v₂ ≡ broken k p)) → BrokenTruly g k p
    in_one (inl x) = at_one x
    in_one (inr a) = in_two (rule_breaks 2 (runs g) (run_places g.kinds) v₃ a.1)
      where
        tidy : LargeTidy g
        tidy = large_tidy (none_of (large_from g) a.0)

        in-five : RunsTidy g → StringsValid g → SeriesFull g → In (known g) (series_of g) 5 k p ⊎ (None (known g) (series_of g) × (clean ≡ broken k p)) → BrokenTruly g k p
        in-five even sound whole (inl x) = at_five tidy even sound whole x
        in-five even sound whole (inr d) = absurd (clean_not d.1)

        in_four : RunsTidy g → StringsValid g → In (full g) (series_of g) 4 k p ⊎ (None (full g) (series_of g) × (v₅ ≡ broken k p)) → BrokenTruly g k p
        in_four even sound (inl x) = at_four tidy even sound x
        in_four even sound (inr d) =
            in-five even sound (series_full (none_of (empty_from g) d.0)) (rule_breaks 5 (known g) (series_of g) clean d.1)

        in_three : RunsTidy g → In (valid g) (strings_of g) 3 k p ⊎ (None (valid g) (strings_of g) × (v₄ ≡ broken k p)) → BrokenTruly g k p
        in_three even (inl x) = at_three tidy even x
        in_three even (inr c) = in_four even (strings_valid (none_of (valid_from g) c.0)) (rule_breaks 4 (full g) (series_of g) v₅ c.1)

        in_two : In (runs g) (run_places g.kinds) 2 k p ⊎ (None (runs g) (run_places g.kinds) × (v₃ ≡ broken k p)) → BrokenTruly g k p
        in_two (inl x) = at_two tidy x
        in_two (inr b) = in_three (runs_tidy (none_of (runs_from g) b.0)) (rule_breaks 3 (valid g) (strings_of g) v₄ b.1)

    broken_truly : verdict g ≡ broken k p → BrokenTruly g k p
    unfolding verdict
    broken_truly e = in_one (rule_breaks 1 (large g) g.count v₂ e)

  -- ---- the readers, whatever room they are lent

  abbrev headers : ℕ → Answer (Unit {0})
  headers words = read_answer g.file g.layout g.start g.count words

  headers_any : (words : ℕ) → g.count * width ≤ words → headers words ≡ headers (g.count * width)
  unfolding read_answer below
  headers_any words h = rw (le-ltb words (g.count * width) h, le-ltb (g.count * width) (g.count * width) (omega arith)) refl

  abbrev texts : Answer ℕ
  texts = read_strings g.strings g.small g.overflow g.storage

  texts_any : (t : List ℕ) → strings_of g ≤ rows string_width t → strings.decode_answer Hermes g.strings g.small g.overflow g.storage t ≡ texts
  unfolding strings.decode_answer below
  texts_any t h = rw (le-ltb (rows string_width t) (strings_of g) h) (sym (read_is g.strings g.small g.overflow g.storage))

  abbrev one : ℕ → Answer ℕ
  one j = read_series g.keys g.values g.series j

  one_any : (j kinds payloads : ℕ) → count_of g.series j ≤ kinds → count_of g.series j ≤ payloads
      → series_answer (buffer_in g j) (offset_of g.series j) (count_of g.series j) kinds payloads ≡ one j
  unfolding series_answer below choose
  one_any j kinds payloads h k =
      rw (le-ltb kinds (count_of g.series j) h, le-ltb payloads (count_of g.series j) k, le-ltb (count_of g.series j) (count_of g.series j) (omega arith)) refl

  abbrev first : ℕ → Answer (Unit {0})
  first m = read_all g.keys g.values g.series m

  -- ---- the series in order

  all_more : (m : ℕ) → first (suc m) ≡ and_then (first m) (λ _. and_then (one m) (λ _. gives tt))
  unfolding read_all
  all_more m = refl

  -- one series after those before it
  abbrev onward : Answer (Unit {0}) → Answer ℕ → Answer (Unit {0})
  onward a b = and_then a (λ _. and_then b (λ _. gives tt))

  step_read : (a : Answer (Unit {0})) (b : Answer ℕ) → onward a b ≡ gives tt → (a ≡ gives tt) × ((u : ℕ) × (b ≡ gives u))
  step_read (gives t) (gives u) e = (refl, (u, refl))
  step_read (gives t) (refuses y) e = absurd (not_given e)
  step_read (refuses y) b e = absurd (not_given e)

  all_read_to : (m : ℕ) → first m ≡ gives tt → (j : ℕ) → j < m → SeriesRead g j
  all_read_to zero e j l = absurd (omega arith)
  all_read_to (suc m) e j l =
      let x = step_read (first m) (one m) (sym (all_more m) ∙ e) in
      by (all_read_to m x.0) x (dec_lt j m)
    where
      by : ((i : ℕ) → i < m → SeriesRead g i) → (first m ≡ gives tt) × ((u : ℕ) × (one m ≡ gives u)) → Dec (j < m) → SeriesRead g j
      by p x (yes h) = p j h
      by p x (no h) =
          let z : m ≡ j = omega (arith, l, h) in
          subst (SeriesRead g) z (record { used = x.1.0; is = λ kinds payloads a b. one_any m kinds payloads a b ∙ x.1.1 })

  all_read_from : (m : ℕ) → ((j : ℕ) → j < m → SeriesRead g j) → first m ≡ gives tt
  unfolding read_all
  all_read_from zero p = refl
  all_read_from (suc m) p =
      let x = p m (omega arith) in
      let e = sym (one_any m (count_of g.series m) (count_of g.series m) (omega arith) (omega arith))
      ∙ x.is (count_of g.series m) (count_of g.series m) (omega arith) (omega arith) in
      rw (all_read_from m (λ j l. p j (omega arith)), e)

  step_refused : {x : Refusal} (a : Answer (Unit {0})) (b : Answer ℕ) → onward a b ≡ refuses x
      → (a ≡ refuses x) ⊎ ((a ≡ gives tt) × (b ≡ refuses x))
  step_refused (gives t) (gives u) e = absurd (not_given (sym e))
  step_refused {x} (gives t) (refuses y) e = let z : y ≡ x = cc in inr (refl, ap refuses z)
  step_refused (refuses y) b e = inl e

  pub record Stops (m : ℕ) (x : Refusal) : Type 0 where
    pub index : ℕ
    pub low : index < m
    pub before : (j : ℕ) → j < index → SeriesRead g j
    pub refused : SeriesRefused g index x

  all_refused : (m : ℕ) {x : Refusal} → first m ≡ refuses x → Stops m x
  unfolding read_all
  all_refused zero e = absurd (not_given (sym e))
  all_refused (suc m) {x} e = by (λ p. all_refused m p) (step_refused (first m) (one m) (sym (all_more m) ∙ e))
    where
      by : (first m ≡ refuses x → Stops m x) → (first m ≡ refuses x) ⊎ ((first m ≡ gives tt) × (one m ≡ refuses x)) → Stops (suc m) x
      by p (inl q) = let s = p q in record { index = s.index; low = omega (arith, s.low); before = s.before; refused = s.refused }
      by p (inr q) = record {
        index = m;
        low = omega arith;
        before = all_read_to m q.0;
        refused = record { is = λ kinds payloads a b. one_any m kinds payloads a b ∙ q.1 };
      }

  -- ---- all three

  pub record Gave (a : Answer (Unit {0})) (b : Answer ℕ) (c : Answer (Unit {0})) (v w : Verdict) : Type 0 where
    pub headers_are : a ≡ gives tt
    pub count : ℕ
    pub texts_are : b ≡ gives count
    pub series_are : c ≡ gives tt
    pub same : v ≡ w

  gave : (a : Answer (Unit {0})) (b : Answer ℕ) (c : Answer (Unit {0})) (v w : Verdict) → and_then a (λ _. and_then b (λ _. and_then c (λ _. gives v))) ≡ gives w → Gave a b c v w
  gave (gives t) (gives n) (gives u) v w e = record { headers_are = refl; count = n; texts_are = refl; series_are = refl; same = cc }
  gave (gives t) (gives n) (refuses y) v w e = absurd (not_given e)
  gave (gives t) (refuses y) c v w e = absurd (not_given e)
  gave (refuses y) b c v w e = absurd (not_given e)

  stopped : (a : Answer (Unit {0})) (b : Answer ℕ) (c : Answer (Unit {0})) (v : Verdict) {x : Refusal}
      → and_then a (λ _. and_then b (λ _. and_then c (λ _. gives v))) ≡ refuses x
      → (a ≡ refuses x) ⊎ (((a ≡ gives tt) × (b ≡ refuses x)) ⊎ ((a ≡ gives tt) × ((n : ℕ) × (b ≡ gives n)) × (c ≡ refuses x)))
  stopped (gives t) (gives n) (gives u) v e = absurd (not_given (sym e))
  stopped (gives t) (gives n) (refuses y) v {x} e = let z : y ≡ x = cc in inr (inr (refl, (n, refl), ap refuses z))
  stopped (gives t) (refuses y) c v {x} e = let z : y ≡ x = cc in inr (inl (refl, ap refuses z))
  stopped (refuses y) b c v {x} e = let z : y ≡ x = cc in inl (ap refuses z)

  abbrev h₀ : Answer (Unit {0})
  h₀ = headers (g.count * width)

  headers_read : h₀ ≡ gives tt → HeadersRead g
  headers_read e = record { is = λ words h. headers_any words h ∙ e }

  texts_read : (n : ℕ) → texts ≡ gives n → StringsRead g
  texts_read n e = record { is = λ t h. texts_any t h ∙ e ∙ ap gives (sym (all_read g e)) }

  accepted : {v w : Verdict} → Gave h₀ texts (first (series_of g)) v w → Accepted g
  accepted x = record {
    headers = headers_read x.headers_are;
    strings = texts_read x.count x.texts_are;
    series = all_read_to (series_of g) x.series_are;
  }

  parts : check_bundle g ≡ and_then h₀ (λ _. and_then texts (λ _. and_then (first (series_of g)) (λ _. gives (verdict g))))
  unfolding check_bundle
  parts = refl

  -- room for as many strings as there are
  room : (n : ℕ) → (t : List ℕ) × (n ≤ rows string_width t)
  room n = (replicate (n * string_width) 0, rw (length-replicate {A = ℕ} (n * string_width) 0) (room_by n))
    where
      room_by : (m : ℕ) → m ≤ m * string_width / string_width
      room_by m = omega arith

  accepted_from : Accepted g → check_bundle g ≡ gives (verdict g)
  accepted_from a =
      let r = room (strings_of g) in
      let h : h₀ ≡ gives tt = a.headers.is (g.count * width) (omega arith) in
      let s : texts ≡ gives (strings_of g) = sym (texts_any r.0 r.1) ∙ a.strings.is r.0 r.1 in
      parts ∙ rw (h, s, all_read_from (series_of g) a.series)

  refused_first : {x : Refusal} → check_bundle g ≡ refuses x → RefusedFirst g x
  refused_first {x} e = by (stopped h₀ texts (first (series_of g)) (verdict g) (sym parts ∙ e))
    where
      by : (h₀ ≡ refuses x) ⊎ (((h₀ ≡ gives tt) × (texts ≡ refuses x)) ⊎ ((h₀ ≡ gives tt) × ((n : ℕ) × (texts ≡ gives n)) × (first (series_of g) ≡ refuses x))) → RefusedFirst g x
      by (inl p) = inl (record { is = λ words h. headers_any words h ∙ p })
      by (inr (inl p)) = inr (inl (headers_read p.0, record { is = λ t h. texts_any t h ∙ p.1 }))
      by (inr (inr p)) =
          let s = all_refused (series_of g) p.2 in
          inr (inr (headers_read p.0, texts_read p.1.0 p.1.1, record { index = s.index; low = s.low; before = s.before; refused = s.refused }))

  -- ---- what the answer says

  pub judges : (r : Bundle) → says_bundle r ≡ check_bundle g → Judges g r
  judges r e = record {
    clean = record {
      to = λ c. let x = by_given clean (sym e ∙ ap says_bundle c) in (accepted x, clean_to x.same);
      from = λ a t. one_bundle r (prelude.Ok prelude.None) (e ∙ accepted_from a ∙ ap gives (clean_from t));
    };
    broken = λ b c. let x = by_given (broken (number_of b.rule) b.place) (sym e ∙ ap says_bundle c) in broken_truly (accepted x) (number_of b.rule) b.place x.same;
    refused = λ x c. refused_first (sym e ∙ ap says_bundle c);
  }
    where
      by_given : (w : Verdict) → check_bundle g ≡ gives w → Gave h₀ texts (first (series_of g)) (verdict g) w
      by_given w p = gave h₀ texts (first (series_of g)) (verdict g) w (sym parts ∙ p)
