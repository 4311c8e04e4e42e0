-- The strings in order, each judged by itself.
use Prim.Native.Nat.{ℕ, suc, ◌+◌, ◌*◌, ◌/◌, ◌≤◌, ◌<◌, min}
use mathlib.Core.Path.{◌≡◌, refl, sym, ap, ◌∙◌}
use mathlib.Core.Bool.{Bool, true, false, cond}
use mathlib.Core.List.{List}
use native.Mathlib.Omega.{arith}
use native.Mathlib.Numerals.{add-one}
use native.Mathlib.Decide.{le_ind}
use lib.ListN.{length, replicate, length-replicate}
use lib.Dec.{ltb, eqb}
use borrow.Author.Tests.{lt-ltb, le-ltb, ltb-true, ltb-false}
use Rattle.hbc_io.specs.Outcome.{limit}
use Rattle.hbc_io.specs.declared.Refusal.{Refusal}
use Rattle.hbc_io.specs.Answer.{gives, refuses, refused_at, and_then}
use Rattle.hbc_io.specs.Lends.{below, choose}
use Rattle.hbc_rows.specs.Rows.{entry_at, rows}
use Rattle.hbc_table_strings.specs.declared.Mode.TheVariants.{Hermes}
use Rattle.hbc_table_strings.specs.Entries.{offset_of, lacks_pair}
use Rattle.hbc_table_strings.specs.Hermes.{kind_in}
use Rattle.hbc_table_strings.specs.Row.{string_width, row_with, row_of}
use Rattle.hbc_table_strings.specs.Strings.{scan, lesser, decode_answer, judged}
use Rattle.hbc_table_strings.proofs.Laws.{kind_free, bit}
use Rattle.hbc_lowest.specs.Lowest.{lowest_of}
use Rattle.hbc_clean.specs.Strings.{breaks_valid, read_strings}
use Rattle.hbc_clean.specs.Private.{check_strings}

-- ---- what a judgement says

module _ (raw : ℕ) (overflow : List ℕ) (storage : ℕ) where
  lacks_by : (x : Bool) → lacks_pair raw (offset_of raw) (length overflow / 2) ≡ x → judged raw overflow storage ≡ 2 → x ≡ true
  unfolding judged
  lacks_by true e f = refl
  lacks_by false e f = let z = rw e at f in absurd (omega (arith, z, bit raw 0 overflow (offset_of raw) storage))

  lacks_not : (x : Bool) → lacks_pair raw (offset_of raw) (length overflow / 2) ≡ x → (judged raw overflow storage ≡ 2 → ⊥) → x ≡ false
  unfolding judged
  lacks_not true e f = absurd (f (rw e refl))
  lacks_not false e f = refl

  judged_there : lacks_pair raw (offset_of raw) (length overflow / 2) ≡ false → judged raw overflow storage ≡ (row_with raw 0 overflow (offset_of raw) storage).invalid
  unfolding judged
  judged_there e = rw e

-- ---- the strings in order

module _ (small overflow : List ℕ) where
  abbrev pairs : ℕ
  pairs = length overflow / 2

  scan_more : (i : ℕ) → scan Hermes small pairs (i + 1)
      ≡ and_then (scan Hermes small pairs i) (λ _. choose (lacks_pair (entry_at small i) (offset_of (entry_at small i)) pairs) (refused_at 8 i) (gives (suc i)))
  unfolding scan
  scan_more i = rw add-one

  scan_kept : {x : Refusal} (i n : ℕ) → i ≤ n → scan Hermes small pairs i ≡ refuses x → scan Hermes small pairs n ≡ refuses x
  unfolding scan
  scan_kept {x} i n h e = le_ind (λ (m : ℕ). scan Hermes small pairs m ≡ refuses x) e (λ m k p. rw p) n h

  -- none of the first i strings lacks its pair, and the lowest of them that is invalid is low, whatever the kinds
  pub record Judged (storage : List ℕ) (i low : ℕ) : Type 0 where
    pub scanned : scan Hermes small pairs i ≡ gives i
    pub lowest : (kinds : List ℕ) → low ≡ lowest_of (breaks_valid kinds small overflow storage) i

  pub judged_first : (storage : List ℕ) → Judged storage 0 0
  unfolding scan lowest_of
  judged_first storage = record { scanned = refl; lowest = λ kinds. refl }

  module _ (storage : List ℕ) {i low found : ℕ} (p : Judged storage i low) (e : found ≡ judged (entry_at small i) overflow (length storage)) where
    pub judged_stop : {n : ℕ} → i < n → found ≡ 2 → scan Hermes small pairs n ≡ refused_at 8 i
    unfolding choose
    judged_stop {n} l d =
        let lacking = lacks_by (entry_at small i) overflow (length storage) (lacks_pair (entry_at small i) (offset_of (entry_at small i)) pairs) refl (sym e ∙ d) in
        scan_kept (i + 1) n (omega (arith, l)) (scan_more i ∙ rw (p.scanned, lacking) refl)

    valid_is : (found ≡ 2 → ⊥) → (kinds : List ℕ) → breaks_valid kinds small overflow storage i ≡ eqb found 1
    unfolding breaks_valid row_of
    valid_is d kinds =
        let there = lacks_not (entry_at small i) overflow (length storage) (lacks_pair (entry_at small i) (offset_of (entry_at small i)) pairs) refl (λ z. d (e ∙ z)) in
        ap (λ (x : ℕ). eqb x 1)
        (kind_free (entry_at small i) (kind_in Hermes kinds i) 0 overflow (offset_of (entry_at small i)) (length storage)
        ∙ sym (e ∙ judged_there (entry_at small i) overflow (length storage) there))

    pub judged_next : {r : ℕ} → (found ≡ 2 → ⊥) → r ≡ cond (ltb low i) low (cond (eqb found 1) i (i + 1)) → Judged storage (i + 1) r
    unfolding choose lowest_of
    judged_next {r} d q = record {
      scanned =
          let there = lacks_not (entry_at small i) overflow (length storage) (lacks_pair (entry_at small i) (offset_of (entry_at small i)) pairs) refl (λ z. d (e ∙ z)) in
          scan_more i ∙ rw (p.scanned, there, add-one);
      lowest = λ kinds. q ∙ rw (p.lowest kinds, ← valid_is d kinds, add-one);
    }

-- ---- the answers

lesser_by : (count lent : ℕ) (x : Bool) → ltb count lent ≡ x → min count lent ≡ cond x count lent
lesser_by count lent true e = let l = ltb-true count lent e in omega (arith, l)
lesser_by count lent false e = let l = ltb-false count lent e in omega (arith, l)

-- strings decoded
pub lesser_is : {n : ℕ} (count lent : ℕ) → n ≡ min count lent → n ≡ lesser count lent
unfolding lesser
lesser_is count lent e = e ∙ lesser_by count lent (ltb count lent) refl

-- room for so many rows
rows_room : (n : ℕ) → n ≤ rows string_width (replicate (n * string_width) 0)
rows_room n = rw (length-replicate {A = ℕ} (n * string_width) 0) (omega arith)

module _ (strings : ℕ) (small overflow storage : List ℕ) where
  -- lent so many rows the reader looks at the storage, then at the strings in order
  pub read_is : read_strings strings small overflow storage
      ≡ below limit (length storage) (refused_at 1 0) (scan Hermes small (length overflow / 2) (lesser strings (length small)))
  unfolding read_strings decode_answer below
  read_is =
      rw (le-ltb (rows string_width (replicate (lesser strings (length small) * string_width) 0)) (lesser strings (length small)) (rows_room (lesser strings (length small)))) refl

  pub strings_long : limit < length storage → (kinds : List ℕ) → refused_at 1 0 ≡ check_strings kinds strings small overflow storage
  unfolding check_strings below
  strings_long h kinds = rw (read_is, lt-ltb limit (length storage) h)

  pub strings_refused : {x : Refusal} → length storage ≤ limit → scan Hermes small (length overflow / 2) (lesser strings (length small)) ≡ refuses x
      → (kinds : List ℕ) → refuses x ≡ check_strings kinds strings small overflow storage
  unfolding check_strings below
  strings_refused h e kinds = rw (read_is, le-ltb limit (length storage) h, e)

  pub strings_done : {i low : ℕ} → length storage ≤ limit → i ≡ lesser strings (length small) → Judged small overflow storage i low
      → (kinds : List ℕ) → gives low ≡ check_strings kinds strings small overflow storage
  unfolding check_strings below
  strings_done h e p kinds = rw (read_is, le-ltb limit (length storage) h, ← e, p.scanned) (ap gives (p.lowest kinds))
