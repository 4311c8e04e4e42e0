-- The two modes: kinds by lengths, pairs that are there, and where both give the same.
use Prim.Native.Nat.{ℕ, zero, suc, ◌+◌, ◌/◌, ◌≤◌, ◌<◌}
use mathlib.Core.Path.{◌≡◌, refl, ap, sym, ◌∙◌}
use mathlib.Core.List.{List}
use mathlib.Core.Bool.{Bool, true, false, cond, true≢false}
use native.Mathlib.Omega.{arith}
use native.Mathlib.Numerals.{add-one}
use lib.ListN.{length}
use lib.Dec.{ltb, leb, eqb}
use borrow.Author.Tests.{ltb-true, ltb-false, leb-true, leb-false, eqb-true, eqb-false, eq-eqb}
use Rattle.hbc_io.specs.declared.Refusal.{Refusal}
use Rattle.hbc_io.specs.Answer.{Answer, gives, refuses, refused_at, and_then}
use Rattle.hbc_io.specs.Lends.{choose}
use Rattle.hbc_io.proofs.Exits.{reached, not_given}
use Rattle.hbc_rows.specs.Rows.{entry_at, put_rows}
use Rattle.hbc_table_strings.specs.declared.Mode.{Mode}
use Rattle.hbc_table_strings.specs.declared.Mode.TheVariants.{InOrder, Hermes}
use Rattle.hbc_table_strings.specs.declared.kinds.Held.{Held}
use Rattle.hbc_table_strings.specs.Kinds.{run_kind, holding, moved_on, held_at, kind_of}
use Rattle.hbc_table_strings.specs.Hermes.{run_length, lengths, kind_in}
use Rattle.hbc_table_strings.specs.Entries.{long_one, offset_of, units_of, pairs_taken, pair_of, lacks_pair, entry_of}
use Rattle.hbc_table_strings.specs.Row.{string_width, row_with, row_of}
use Rattle.hbc_table_strings.specs.Strings.{scan, lesser, decode_answer, words_of, decoded_rows, DecodeStrings}
use Rattle.hbc_table_strings.proofs.Runs as runs
use Rattle.std.specs.Prelude.{Result}
use Rattle.hbc_io.proofs.Alone.{one_answer}
use Rattle.hbc_claims_table.proofs.Strings.{turn, accept}
use Rattle.hbc_claims_table.specs.Modes.{ByLengths, PairsThere, FirstLacking, Tidy, AsHermes}
use Rattle.hbc_claims_table.specs.Before as was

-- ---- kinds by lengths

abbrev Some : List ℕ → ℕ → ℕ → Type 0
Some kinds i n = (run : ℕ) × (run < n) × (lengths kinds run ≤ i) × (i < lengths kinds (suc run))

some_by : (kinds : List ℕ) (i n : ℕ) → i < lengths kinds (suc n) → (i < lengths kinds n → Some kinds i n) → (b : Bool) → ltb i (lengths kinds n) ≡ b → Some kinds i (suc n)
some_by kinds i n h f true e = let v = f (ltb-true i (lengths kinds n) e) in (v.0, omega (arith, v.1), v.2, v.3)
some_by kinds i n h f false e = (n, omega arith, ltb-false i (lengths kinds n) e, h)

some_run : (kinds : List ℕ) (i n : ℕ) → i < lengths kinds n → Some kinds i n
unfolding lengths
some_run kinds i zero h = absurd (omega arith)
some_run kinds i (suc n) h = some_by kinds i n h (some_run kinds i n) (ltb i (lengths kinds n)) refl

pub by_lengths : (kinds : List ℕ) → ByLengths kinds
by_lengths kinds =
    record {
      some = λ i h. some_run kinds i (length kinds) h;
      is = λ i run p q. ap (run_kind kinds) (runs.run_is kinds i run p q);
      past = runs.run_past kinds;
    }

-- ---- pairs

lacks_not : (raw p pairs : ℕ) → lacks_pair raw p pairs ≡ false → units_of raw ≡ 255 → p < pairs
unfolding lacks_pair long_one
lacks_not raw p pairs e u = leb-false pairs p (rw (eq-eqb (units_of raw) 255 u) at e)

lacks_so : (raw p pairs : ℕ) → lacks_pair raw p pairs ≡ true → (units_of raw ≡ 255) × (pairs ≤ p)
unfolding lacks_pair long_one
lacks_so raw p pairs e = so_by (eqb (units_of raw) 255) refl e
  where
    so_by : (b : Bool) → eqb (units_of raw) 255 ≡ b → cond (eqb (cond b 1 0) 1) (leb pairs p) false ≡ true → (units_of raw ≡ 255) × (pairs ≤ p)
    so_by true h e = (eqb-true (units_of raw) 255 h, leb-true pairs p e)
    so_by false h e = absurd (true≢false (sym e))

module _ (mode : Mode) (small overflow : List ℕ) where
  abbrev pairs : ℕ
  pairs = length overflow / 2

  there_by : (m i : ℕ) → i < suc m → lacks_pair (entry_at small m) (pair_of mode small m) pairs ≡ false → PairsThere mode small overflow m → (b : Bool) → ltb i m ≡ b
      → units_of (entry_at small i) ≡ 255 → pair_of mode small i < pairs
  there_by m i h q f true l u = f i (ltb-true i m l) u
  there_by m i h q f false l u =
      let z : m ≡ i = omega (arith, ltb-false i m l) in
      lacks_not (entry_at small i) (pair_of mode small i) pairs (rw z at q) u

  scan_there : (m n : ℕ) → scan mode small pairs m ≡ gives n → PairsThere mode small overflow m
  unfolding scan
  scan_there zero n e i h = absurd (omega arith)
  scan_there (suc m) n e i h =
      let t = turn (scan mode small pairs m) (lacks_pair (entry_at small m) (pair_of mode small m) pairs) m n e in
      there_by m i h t.has (scan_there m t.past.0 t.past.1) (ltb i m) refl

  lacking_step : (m : ℕ) (k : Refusal) (a : Answer ℕ) (b : Bool) → scan mode small pairs m ≡ a → lacks_pair (entry_at small m) (pair_of mode small m) pairs ≡ b
      → ((k : Refusal) → scan mode small pairs m ≡ refuses k → FirstLacking mode small overflow m k.place)
      → and_then a (λ _. choose b (refused_at 8 m) (gives (suc m))) ≡ refuses k → FirstLacking mode small overflow (suc m) k.place
  unfolding choose
  lacking_step m k (refuses r) b p q f e =
      let z : r ≡ k = cc in
      let v = f r p in
      rw (← z) (record { one = omega (arith, v.one); long = v.long; lacks = v.lacks; before = v.before })
  lacking_step m k (gives n) true p q f e =
      let z : m ≡ k.place = cc in
      let l = lacks_so (entry_at small m) (pair_of mode small m) pairs q in
      rw (← z) (record { one = omega arith; long = l.0; lacks = l.1; before = scan_there m n p })
  lacking_step m k (gives n) false p q f e = absurd (not_given (sym e))

  scan_lacking : (m : ℕ) (k : Refusal) → scan mode small pairs m ≡ refuses k → FirstLacking mode small overflow m k.place
  unfolding scan
  scan_lacking zero k e = absurd (not_given (sym e))
  scan_lacking (suc m) k e = lacking_step m k (scan mode small pairs m) (lacks_pair (entry_at small m) (pair_of mode small m) pairs) refl refl (scan_lacking m) e

  module _ (count : ℕ) (storage before : List ℕ) where
    -- accepted: every long string has its pair
    pub pairs_there : (n : ℕ) → decode_answer mode count small overflow storage before ≡ gives n → PairsThere mode small overflow (lesser count (length small))
    pairs_there n e = scan_there (lesser count (length small)) n (accept mode count small overflow storage before n e).scanned

    -- refused 8: the first that has none
    pub pair_lacking : (k : Refusal) → k.number ≡ 8 → decode_answer mode count small overflow storage before ≡ refuses k
        → FirstLacking mode small overflow (lesser count (length small)) k.place
    unfolding decode_answer
    pair_lacking k h e =
        let p = reached _ _ _ _ (λ z. not_one z) e in
        let q = reached _ _ _ _ (λ z. not_four z) p.1 in
        scan_lacking (lesser count (length small)) k q.1
      where
        not_one : refused_at {A = ℕ} 1 0 ≡ refuses k → ⊥
        not_one z = let w : 1 ≡ k.number = cc in absurd (omega arith)

        not_four : refused_at {A = ℕ} 4 0 ≡ refuses k → ⊥
        not_four z = let w : 4 ≡ k.number = cc in absurd (omega arith)

-- ---- where both give the same

-- without empty runs the next run is the next that is not empty
by_moved : {kinds : List ℕ} {i : ℕ} {h : Held} → ((run : ℕ) → run < length kinds → 0 < run_length kinds run) → runs.HeldRightly kinds i h → runs.Settled kinds i (moved_on kinds h)
unfolding moved_on holding run_length
by_moved {kinds} {i} {h} full v = moved_by (eqb h.left 0) refl
  where
    next : (b : Bool) → ltb h.run (length kinds) ≡ b → h.left ≡ 0 → runs.Settled kinds i (holding kinds (h.run + 1))
    next true l z =
        let e : lengths kinds (h.run + 1) ≡ i = rw add-one (omega (arith, v.within (ltb-true h.run (length kinds) l))) in
        record { by = runs.by_holding kinds i (h.run + 1) e; some = λ q. full (h.run + 1) q }
    next false l z =
        let p = ltb-false h.run (length kinds) l in
        record { by = runs.by_beyond kinds i (h.run + 1) (omega arith) (v.past p).1; some = λ q. absurd (omega arith) }

    moved_by : (b : Bool) → eqb h.left 0 ≡ b → runs.Settled kinds i (cond b (holding kinds (h.run + 1)) h)
    moved_by true e = next (ltb h.run (length kinds)) refl (eqb-true h.left 0 e)
    moved_by false e = record { by = v; some = λ l. omega (arith, eqb-false h.left 0 e) }

held_by : (kinds : List ℕ) → ((run : ℕ) → run < length kinds → 0 < run_length kinds run) → (i : ℕ) → runs.HeldRightly kinds i (held_at kinds i)
unfolding held_at
held_by kinds full zero = runs.by_first kinds
held_by kinds full (suc i) = rw add-one at (runs.by_spent (by_moved full (held_by kinds full i)))

same_kind : (kinds : List ℕ) → ((run : ℕ) → run < length kinds → 0 < run_length kinds run) → (i : ℕ) → kind_in InOrder kinds i ≡ kind_in Hermes kinds i
unfolding kind_of
same_kind kinds full i = runs.by_kind (by_moved full (held_by kinds full i))

-- of a short entry the pair's number is not looked at
lacks_same : (raw p q pairs : ℕ) → (units_of raw ≡ 255 → p ≡ q) → lacks_pair raw p pairs ≡ lacks_pair raw q pairs
unfolding lacks_pair long_one
lacks_same raw p q pairs f = same_by (eqb (units_of raw) 255) refl
  where
    same_by : (b : Bool) → eqb (units_of raw) 255 ≡ b → cond (eqb (cond b 1 0) 1) (leb pairs p) false ≡ cond (eqb (cond b 1 0) 1) (leb pairs q) false
    same_by true e = ap (leb pairs) (f (eqb-true (units_of raw) 255 e))
    same_by false e = refl

row_same : (raw kind : ℕ) (overflow : List ℕ) (p q storage : ℕ) → (units_of raw ≡ 255 → p ≡ q) → row_with raw kind overflow p storage ≡ row_with raw kind overflow q storage
unfolding row_with entry_of long_one
row_same raw kind overflow p q storage f = rw entry_same
  where
    entry_same : entry_of raw overflow p ≡ entry_of raw overflow q
    entry_same = same_by (eqb (units_of raw) 255) refl
      where
        same_by : (b : Bool) → eqb (units_of raw) 255 ≡ b → entry_of raw overflow p ≡ entry_of raw overflow q
        same_by true e = rw (f (eqb-true (units_of raw) 255 e))
        same_by false e = rw e

put_same : (w : ℕ) (f g : ℕ → List ℕ) (base : ℕ) (t : List ℕ) (n : ℕ) → ((i : ℕ) → i < n → f i ≡ g i) → put_rows w f base n t ≡ put_rows w g base n t
unfolding put_rows
put_same w f g base t zero e = refl
put_same w f g base t (suc n) e = rw (put_same w f g base t n (λ i h. e i (omega arith)), e n (omega arith))

module _ (kinds small overflow : List ℕ) where
  scan_same : (pairs n : ℕ) → Tidy kinds small n → scan InOrder small pairs n ≡ scan Hermes small pairs n
  unfolding scan
  scan_same pairs zero v = refl
  scan_same pairs (suc n) v =
      rw (
        scan_same pairs n (record { own = λ i h. v.own i (omega arith); full = v.full }),
        lacks_same (entry_at small n) (pairs_taken small n) (offset_of (entry_at small n)) pairs (λ u. sym (v.own n (omega arith) u)),
      )

  words_same : (storage n : ℕ) → Tidy kinds small n → (i : ℕ) → i < n → words_of InOrder kinds small overflow storage i ≡ words_of Hermes kinds small overflow storage i
  unfolding row_of
  words_same storage n v i h =
      rw (
        same_kind kinds v.full i,
        row_same (entry_at small i) (kind_in Hermes kinds i) overflow (pairs_taken small i) (offset_of (entry_at small i)) storage (λ u. sym (v.own i h u)),
      )

  pub modes_agree : (count : ℕ) (storage before : List ℕ) (r q : Result ℕ Refusal) (t u : List ℕ) → Tidy kinds small (lesser count (length small))
      → DecodeStrings InOrder count kinds small overflow storage before r t → DecodeStrings Hermes count kinds small overflow storage before q u → (r ≡ q) × (t ≡ u)
  unfolding decode_answer
  modes_agree count storage before r q t u v a b =
      let e : decode_answer InOrder count small overflow storage before ≡ decode_answer Hermes count small overflow storage before = answers in
      let z = one_answer r q (a.says ∙ e ∙ sym b.says) in
      (z, a.leaves ∙ rw (z, rows_same) (sym b.leaves))
    where
      answers : decode_answer InOrder count small overflow storage before ≡ decode_answer Hermes count small overflow storage before
      answers = rw (scan_same (length overflow / 2) (lesser count (length small)) v)

      rows_same : decoded_rows InOrder kinds small overflow (length storage) (lesser count (length small)) before ≡ decoded_rows Hermes kinds small overflow (length storage) (lesser count (length small)) before
      rows_same = put_same string_width _ _ 0 before (lesser count (length small)) (words_same (length storage) (lesser count (length small)) v)

pub as_hermes : (kinds small overflow : List ℕ) (storage i : ℕ) → AsHermes kinds small overflow storage i
unfolding row_of
as_hermes kinds small overflow storage i = refl

-- ---- the old mode, as it was

module _ (kinds small overflow : List ℕ) where
  scan_before : (pairs n : ℕ) → scan InOrder small pairs n ≡ was.scan small pairs n
  unfolding scan was.scan lacks_pair was.lacks_pair was.pair_taken
  scan_before pairs zero = refl
  scan_before pairs (suc n) = rw (scan_before pairs n)

  words_before : (storage i : ℕ) → words_of InOrder kinds small overflow storage i ≡ was.words_of kinds small overflow storage i
  unfolding row_of row_with entry_of was.row_of was.row_with was.entry_of was.pair_taken
  words_before storage i = refl

  answer_before : (count : ℕ) (storage before : List ℕ) → decode_answer InOrder count small overflow storage before ≡ was.decode_answer count small overflow storage before
  unfolding decode_answer was.decode_answer
  answer_before count storage before = rw (scan_before (length overflow / 2) (lesser count (length small)))

  rows_before : (storage n : ℕ) (before : List ℕ) → decoded_rows InOrder kinds small overflow storage n before ≡ was.decoded_rows kinds small overflow storage n before
  rows_before storage n before = put_same string_width _ _ 0 before n (λ i h. words_before storage i)

  pub as_before : (count : ℕ) (storage before : List ℕ) (r : Result ℕ Refusal) (t : List ℕ) → DecodeStrings InOrder count kinds small overflow storage before r t
      → was.DecodeStrings count kinds small overflow storage before r t
  as_before count storage before r t v =
      record { says = v.says ∙ answer_before count storage before; leaves = v.leaves ∙ rw (rows_before (length storage) (lesser count (length small)) before) }

  pub before_as : (count : ℕ) (storage before : List ℕ) (r : Result ℕ Refusal) (t : List ℕ) → was.DecodeStrings count kinds small overflow storage before r t
      → DecodeStrings InOrder count kinds small overflow storage before r t
  before_as count storage before r t v =
      record { says = v.says ∙ sym (answer_before count storage before); leaves = v.leaves ∙ rw (rows_before (length storage) (lesser count (length small)) before) }
