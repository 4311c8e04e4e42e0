-- The laws that the loops cite.
use Prim.Native.Nat.{ℕ, suc, ◌+◌, ◌*◌, ◌/◌, ◌≤◌, ◌<◌}
use mathlib.Core.Path.{◌≡◌, refl, sym, ◌∙◌}
use mathlib.Core.List.{List}
use mathlib.Core.Bool.{Bool, true, false, cond}
use native.Mathlib.Omega.{arith}
use native.Mathlib.Numerals.{add-one}
use native.Mathlib.Decide.{le_ind}
use lib.ListN.{length}
use lib.Dec.{ltb, leb, eqb}
use Rattle.hbc_io.specs.declared.Refusal.{Refusal}
use Rattle.hbc_io.specs.Answer.{gives, refuses, refused_at, and_then}
use Rattle.hbc_io.specs.Lends.{choose}
use Rattle.hbc_rows.specs.Rows.{entry_at, put_row, put_rows}
use Rattle.hbc_rows.proofs.RowsAt.{rows_first}
use Rattle.hbc_table_strings.specs.declared.Mode.{Mode}
use Rattle.hbc_table_strings.specs.declared.Mode.TheVariants.{InOrder, Hermes}
use Rattle.hbc_table_strings.specs.declared.entries.Entry.{Entry}
use Rattle.hbc_table_strings.specs.declared.kinds.Held.{Held}
use Rattle.hbc_table_strings.specs.declared.row.StringRow.{StringRow}
use Rattle.hbc_table_strings.specs.Kinds.{holding, moved_on, spent, held_at, kind_of, run_kind}
use Rattle.hbc_table_strings.specs.Hermes.{kind_in}
use Rattle.hbc_table_strings.specs.Entries.{utf16, offset_of, long_one, pairs_taken, pair_taken, pair_of, lacks_pair, entry_of, bytes_of}
use Rattle.hbc_table_strings.specs.Row.{string_width, string_words, row_for, row_with, row_of}
use Rattle.hbc_table_strings.specs.Strings.{scan, words_of, decoded_rows, judged}
use Rattle.hbc_table_strings.specs.Private.{passed_on, moved_in}
use Rattle.hbc_table_strings.proofs.Runs.{HeldRightly, by_first, by_passed, by_kind, by_spent, passed_far}

-- ---- one string more

held_more : (kinds : List ℕ) (i : ℕ) → held_at kinds (i + 1) ≡ spent (moved_on kinds (held_at kinds i))
unfolding held_at
held_more kinds i = rw add-one

taken_more : (small : List ℕ) (i : ℕ) → pairs_taken small (i + 1) ≡ pairs_taken small i + long_one (entry_at small i)
unfolding pairs_taken
taken_more small i = rw add-one

scan_more : (mode : Mode) (small : List ℕ) (pairs i : ℕ)
    → scan mode small pairs (i + 1) ≡ and_then (scan mode small pairs i) (λ _. choose (lacks_pair (entry_at small i) (pair_of mode small i) pairs) (refused_at 8 i) (gives (suc i)))
unfolding scan
scan_more mode small pairs i = rw add-one

scan_kept : (mode : Mode) (small : List ℕ) (pairs : ℕ) {r : Refusal} (i n : ℕ) → i ≤ n → scan mode small pairs i ≡ refuses r → scan mode small pairs n ≡ refuses r
unfolding scan
scan_kept mode small pairs {r} i n h e = le_ind (λ (m : ℕ). scan mode small pairs m ≡ refuses r) e (λ m k p. rw p) n h

-- the run that is held is the one asked for
pub held_run : (kinds : List ℕ) (run : ℕ) {h : Held} → h ≡ holding kinds run → h.run ≡ run
unfolding holding
held_run kinds run e = rw e

-- ---- what is held before string i

abbrev pub Holds : Mode → List ℕ → ℕ → Held → Type 0
Holds InOrder kinds i h = (h ≡ held_at kinds i) × (h.run ≤ i)
Holds Hermes kinds i h = HeldRightly kinds i h × (h.run ≤ length kinds)

holds_first : (mode : Mode) (kinds : List ℕ) {h : Held} → h ≡ holding kinds 0 → Holds mode kinds 0 h
unfolding held_at
holds_first InOrder kinds e = (e, omega (arith, held_run kinds 0 e))
holds_first Hermes kinds e = (rw e (by_first kinds), omega (arith, held_run kinds 0 e))

moved_far : (kinds : List ℕ) (h : Held) → (moved_on kinds h).run ≤ h.run + 1
unfolding moved_on holding
moved_far kinds h = far_by (eqb h.left 0)
  where
    far_by : (b : Bool) → (cond b (holding kinds (h.run + 1)) h).run ≤ h.run + 1
    far_by true = omega arith
    far_by false = omega arith

holds_more : (mode : Mode) (kinds : List ℕ) (i : ℕ) (h : Held) {g : Held} → Holds mode kinds i h → g ≡ moved_in mode kinds h → Holds mode kinds (i + 1) (spent g)
holds_more InOrder kinds i h {g} v e =
    let w : g.run ≡ (moved_on kinds h).run = rw e in
    (rw (e, v.0, held_more kinds i), omega (arith, w, moved_far kinds h, v.1))
holds_more Hermes kinds i h {g} v e =
    let w : g.run ≡ (passed_on kinds h).run = rw e in
    (rw e (by_spent (by_passed v.0)), omega (arith, w, passed_far kinds h v.1))

holds_kind : (mode : Mode) (kinds : List ℕ) (i : ℕ) (h : Held) {g : Held} → Holds mode kinds i h → g ≡ moved_in mode kinds h → run_kind kinds g.run ≡ kind_in mode kinds i
unfolding kind_of
holds_kind InOrder kinds i h v e = rw (e, v.0)
holds_kind Hermes kinds i h v e = rw e (by_kind (by_passed v.0))

-- ---- what the checking loop knows before string i

pub record Clear (mode : Mode) (small : List ℕ) (pairs i taken : ℕ) : Type 0 where
  pub so_far : scan mode small pairs i ≡ gives i
  pub counts : taken ≡ pairs_taken small i
  pub few : taken ≤ i

pub clear_first : (mode : Mode) (small : List ℕ) (pairs : ℕ) → Clear mode small pairs 0 0
unfolding scan pairs_taken
clear_first mode small pairs = record { so_far = refl; counts = refl; few = omega arith }

module _ {mode : Mode} {small : List ℕ} {pairs i taken : ℕ} (v : Clear mode small pairs i taken) where
  step : {raw : ℕ} {b : Bool} → raw ≡ entry_at small i → b ≡ lacks_pair raw (pair_taken mode raw taken) pairs
      → scan mode small pairs (i + 1) ≡ choose b (refused_at 8 i) (gives (suc i))
  step {raw} {b} a q = rw (scan_more mode small pairs i, v.so_far, q, a, v.counts)

  pub clear_stops : {raw n : ℕ} {b : Bool} → i < n → raw ≡ entry_at small i → b ≡ lacks_pair raw (pair_taken mode raw taken) pairs → b ≡ true
      → refused_at 8 i ≡ scan mode small pairs n
  unfolding choose
  clear_stops {n = n} h a q e = sym (scan_kept mode small pairs (i + 1) n (omega arith) (step a q ∙ rw e))

  pub clear_goes : {raw one : ℕ} {b : Bool} → raw ≡ entry_at small i → b ≡ lacks_pair raw (pair_taken mode raw taken) pairs → b ≡ false → one ≡ long_one raw → one < 2
      → Clear mode small pairs (i + 1) (taken + one)
  unfolding choose
  clear_goes {raw} {one} a q e l m =
      record { so_far = step a q ∙ rw (e, add-one); counts = rw (taken_more, l, a, v.counts); few = omega (arith, v.few) }

-- ---- what the writing loop knows before string i

pub record Written (mode : Mode) (kinds small overflow : List ℕ) (storage i : ℕ) (held : Held) (taken : ℕ) (t₀ t : List ℕ) : Type 0 where
  pub holds : Holds mode kinds i held
  pub counts : taken ≡ pairs_taken small i
  pub few : taken ≤ i
  pub is : t ≡ decoded_rows mode kinds small overflow storage i t₀

pub written_first : {mode : Mode} {kinds small overflow : List ℕ} {storage : ℕ} {held : Held} {t : List ℕ} → held ≡ holding kinds 0
    → Written mode kinds small overflow storage 0 held 0 t t
unfolding pairs_taken put_rows
written_first {mode} {kinds} e = record { holds = holds_first mode kinds e; counts = refl; few = omega arith; is = refl }

module _ {mode : Mode} {kinds small overflow : List ℕ} {storage i : ℕ} {held : Held} {taken : ℕ} {t₀ t : List ℕ} (v : Written mode kinds small overflow storage i held taken t₀ t) where
  pub written_more : {raw kind one : ℕ} {h held' : Held} {r : StringRow} → raw ≡ entry_at small i → h ≡ moved_in mode kinds held → kind ≡ run_kind kinds h.run
      → r ≡ row_with raw kind overflow (pair_taken mode raw taken) storage → held' ≡ spent h → one ≡ long_one raw → one < 2
      → Written mode kinds small overflow storage (i + 1) held' (taken + one) t₀ (put_row string_width t i (string_words r))
  unfolding row_of
  written_more {raw} {kind} {one} {h} {held'} {r} a b k e s l m =
      let x : kind ≡ kind_in mode kinds i = k ∙ holds_kind mode kinds i held v.holds b in
      let z : r ≡ row_of mode kinds small overflow storage i = rw (e, x, a, v.counts) in
      record {
        holds = rw s (holds_more mode kinds i held v.holds b);
        counts = rw (taken_more, l, a, v.counts);
        few = omega (arith, v.few);
        is = rw (v.is, z) (rows_first string_width (words_of mode kinds small overflow storage) t₀ i);
      }

-- ---- one entry by itself

-- what stands in a row besides the marks does not go by them
marks_free : (start bytes m k storage : ℕ) (a b : Bool) → ltb start storage ≡ a → leb (start + bytes) storage ≡ b
    → (row_for start bytes m storage).invalid ≡ (row_for start bytes k storage).invalid
unfolding row_for
marks_free start bytes m k storage true true e f = rw (e, f)
marks_free start bytes m k storage true false e f = rw (e, f)
marks_free start bytes m k storage false b e f = rw e

-- a kind has no say in whether a string is valid
pub kind_free : (raw k j : ℕ) (overflow : List ℕ) (p storage : ℕ) → (row_with raw k overflow p storage).invalid ≡ (row_with raw j overflow p storage).invalid
unfolding row_with
kind_free raw k j overflow p storage =
    marks_free (entry_of raw overflow p).start (bytes_of raw (entry_of raw overflow p).units) (utf16 raw + 2 * k) (utf16 raw + 2 * j) storage
    (ltb (entry_of raw overflow p).start storage) (leb ((entry_of raw overflow p).start + bytes_of raw (entry_of raw overflow p).units) storage) refl refl

bit_by : (start bytes m storage : ℕ) (a b : Bool) → ltb start storage ≡ a → leb (start + bytes) storage ≡ b → (row_for start bytes m storage).invalid < 2
unfolding row_for
bit_by start bytes m storage true true e f = rw (e, f) (omega arith)
bit_by start bytes m storage true false e f = rw (e, f) (omega arith)
bit_by start bytes m storage false b e f = rw e (omega arith)

-- valid or invalid: 0 or 1
pub bit : (raw k : ℕ) (overflow : List ℕ) (p storage : ℕ) → (row_with raw k overflow p storage).invalid < 2
unfolding row_with
bit raw k overflow p storage =
    bit_by (entry_of raw overflow p).start (bytes_of raw (entry_of raw overflow p).units) (utf16 raw + 2 * k) storage
    (ltb (entry_of raw overflow p).start storage) (leb ((entry_of raw overflow p).start + bytes_of raw (entry_of raw overflow p).units) storage) refl refl

pub row_bit : (kinds small overflow : List ℕ) (storage i : ℕ) → (row_of Hermes kinds small overflow storage i).invalid < 2
unfolding row_of
row_bit kinds small overflow storage i = bit (entry_at small i) (kind_in Hermes kinds i) overflow (pair_of Hermes small i) storage

module _ (raw : ℕ) (overflow : List ℕ) (storage : ℕ) {b : Bool} (lacks : b ≡ lacks_pair raw (offset_of raw) (length overflow / 2)) where
  pub judged_lacking : b ≡ true → 2 ≡ judged raw overflow storage
  unfolding judged
  judged_lacking e = rw (← lacks, e) refl

  pub judged_there : b ≡ false → {x : Entry} → x ≡ entry_of raw overflow (offset_of raw) → {n r : ℕ} → n ≡ bytes_of raw x.units → r ≡ (row_for x.start n 0 storage).invalid
      → r ≡ judged raw overflow storage
  unfolding judged row_with
  judged_there e {x} i {n} {r} m o =
      let z = rw (m, i) at o in
      rw (← lacks, e) (z ∙ marks_free (entry_of raw overflow (offset_of raw)).start (bytes_of raw (entry_of raw overflow (offset_of raw)).units) 0 (utf16 raw + 2 * 0) storage
      (ltb (entry_of raw overflow (offset_of raw)).start storage)
      (leb ((entry_of raw overflow (offset_of raw)).start + bytes_of raw (entry_of raw overflow (offset_of raw)).units) storage) refl refl)
