-- Runs by their lengths, added up: what a cursor over runs has to do with them.
use Prim.Native.Nat.{ℕ, zero, suc, ◌+◌, ◌-◌, ◌≤◌, ◌<◌}
use mathlib.Core.Path.{◌≡◌, refl, sym, ◌∙◌}
use mathlib.Core.List.{List}
use mathlib.Core.Bool.{Bool, true, false, cond}
use native.Mathlib.Omega.{arith}
use native.Mathlib.Numerals.{add-one}
use native.Mathlib.Decide.{le_ind}
use lib.ListN.{length}
use lib.Dec.{ltb, eqb}
use borrow.Author.Tests.{lt-ltb, le-ltb, eqb-true, eqb-false, ltb-true, ltb-false}
use Rattle.hbc_bits.specs.Bits.{field}
use Rattle.hbc_rows.specs.Rows.{entry_at}
use Rattle.hbc_rows.proofs.Laws.{entry_none, test_eq, test_ne}
use Rattle.hbc_table_strings.specs.declared.kinds.Held.{Held}
use Rattle.hbc_table_strings.specs.Kinds.{run_kind, holding, spent}
use Rattle.hbc_table_strings.specs.Hermes.{run_length, lengths, first_past, run_of}
use Rattle.hbc_table_strings.specs.Private.{full_among, next_full, passed_on}

-- ---- lengths, added up

run_none : (kinds : List ℕ) (run : ℕ) → length kinds ≤ run → run_length kinds run ≡ 0
unfolding run_length field
run_none kinds run h = rw (← entry_none kinds run h)

kind_none : (kinds : List ℕ) (run : ℕ) → length kinds ≤ run → run_kind kinds run ≡ 0
unfolding run_kind field
kind_none kinds run h = rw (← entry_none kinds run h)

lengths_more : (kinds : List ℕ) (run : ℕ) → lengths kinds (suc run) ≡ lengths kinds run + run_length kinds run
unfolding lengths
lengths_more kinds run = refl

lengths_grow : (kinds : List ℕ) (a b : ℕ) → a ≤ b → lengths kinds a ≤ lengths kinds b
lengths_grow kinds a b h =
    le_ind (λ (m : ℕ). lengths kinds a ≤ lengths kinds m) (omega arith) (λ m k p. omega (arith, lengths_more kinds m)) b h

-- ---- the run of string i

past_by : (kinds : List ℕ) (i n run : ℕ) → run < suc n → lengths kinds run ≤ i → i < lengths kinds (suc run) → (run < n → first_past kinds i n ≡ run) → (b : Bool) → ltb run n ≡ b
    → cond (ltb i (lengths kinds n)) (first_past kinds i n) (cond (ltb i (lengths kinds (suc n))) n (suc n)) ≡ run
past_by kinds i n run h p q f true e =
    let g = lengths_grow kinds (suc run) n (omega (arith, ltb-true run n e)) in
    rw (lt-ltb i (lengths kinds n) (omega arith)) (f (ltb-true run n e))
past_by kinds i n run h p q f false e =
    let z : n ≡ run = omega (arith, ltb-false run n e) in
    rw (z, le-ltb i (lengths kinds run) p, lt-ltb i (lengths kinds (suc run)) q)

past_here : (kinds : List ℕ) (i n run : ℕ) → run < n → lengths kinds run ≤ i → i < lengths kinds (suc run) → first_past kinds i n ≡ run
unfolding first_past
past_here kinds i zero run h p q = absurd (omega arith)
past_here kinds i (suc n) run h p q = past_by kinds i n run h p q (λ l. past_here kinds i n run l p q) (ltb run n) refl

past_none : (kinds : List ℕ) (i n : ℕ) → lengths kinds n ≤ i → first_past kinds i n ≡ n
unfolding first_past
past_none kinds i zero h = refl
past_none kinds i (suc n) h =
    let g = lengths_grow kinds n (suc n) (omega arith) in
    rw (le-ltb i (lengths kinds n) (omega arith), le-ltb i (lengths kinds (suc n)) h)

-- the run that begins at i or before it and ends behind it
pub run_is : (kinds : List ℕ) (i run : ℕ) → lengths kinds run ≤ i → i < lengths kinds (suc run) → run_of kinds i ≡ run
run_is kinds i run p q = run_by (ltb run (length kinds)) refl
  where
    run_by : (b : Bool) → ltb run (length kinds) ≡ b → run_of kinds i ≡ run
    run_by true e = past_here kinds i (length kinds) run (ltb-true run (length kinds) e) p q
    run_by false e = absurd (omega (arith, lengths_more kinds run, run_none kinds run (ltb-false run (length kinds) e)))

-- past the last run: a plain string
pub run_past : (kinds : List ℕ) (i : ℕ) → lengths kinds (length kinds) ≤ i → run_kind kinds (run_of kinds i) ≡ 0
run_past kinds i h = rw (past_none kinds i (length kinds) h) (kind_none kinds (length kinds) (omega arith))

-- ---- what is held before string i

pub record HeldRightly (kinds : List ℕ) (i : ℕ) (h : Held) : Type 0 where
  pub within : h.run < length kinds → lengths kinds (suc h.run) ≡ i + h.left
  pub past : length kinds ≤ h.run → (h.left ≡ 0) × (lengths kinds (length kinds) ≤ i)
  pub room : h.left ≤ run_length kinds h.run

-- and the same when the run is string i's
pub record Settled (kinds : List ℕ) (i : ℕ) (h : Held) : Type 0 where
  pub by : HeldRightly kinds i h
  pub some : h.run < length kinds → 0 < h.left

-- a run that is held from its beginning, so many strings being named before it
pub by_holding : (kinds : List ℕ) (i run : ℕ) → lengths kinds run ≡ i → HeldRightly kinds i (holding kinds run)
unfolding holding run_length
by_holding kinds i run e =
    record {
      within = λ h. lengths_more kinds run ∙ rw e;
      past = λ h. (run_none kinds run h, omega (arith, lengths_grow kinds (length kinds) run h));
      room = omega arith;
    }

-- one that is not there, behind all strings that are named
pub by_beyond : (kinds : List ℕ) (i run : ℕ) → length kinds ≤ run → lengths kinds (length kinds) ≤ i → HeldRightly kinds i (holding kinds run)
unfolding holding run_length
by_beyond kinds i run h l = record { within = λ q. absurd (omega arith); past = λ q. (run_none kinds run q, l); room = omega arith }

pub by_first : (kinds : List ℕ) → HeldRightly kinds 0 (holding kinds 0)
unfolding lengths
by_first kinds = by_holding kinds 0 0 refl

pub by_spent : {kinds : List ℕ} {i : ℕ} {h : Held} → Settled kinds i h → HeldRightly kinds (i + 1) (spent h)
by_spent {kinds} {i} {h} v =
    record {
      within = λ l. omega (arith, v.by.within l, v.some l);
      past = λ l. (omega (arith, (v.by.past l).0), omega (arith, (v.by.past l).1));
      room = omega (arith, v.by.room);
    }

pub by_kind : {kinds : List ℕ} {i : ℕ} {h : Held} → Settled kinds i h → run_kind kinds h.run ≡ run_kind kinds (run_of kinds i)
by_kind {kinds} {i} {h} v = kind_by (ltb h.run (length kinds)) refl
  where
    kind_by : (b : Bool) → ltb h.run (length kinds) ≡ b → run_kind kinds h.run ≡ run_kind kinds (run_of kinds i)
    kind_by true e =
        let l = ltb-true h.run (length kinds) e in
        let p : lengths kinds h.run ≤ i = omega (arith, v.by.within l, v.by.room, lengths_more kinds h.run) in
        let q : i < lengths kinds (suc h.run) = omega (arith, v.by.within l, v.some l) in
        rw (run_is kinds i h.run p q)
    kind_by false e =
        let l = ltb-false h.run (length kinds) e in
        kind_none kinds h.run l ∙ sym (run_past kinds i (v.by.past l).1)

-- ---- Hermes mode: empty runs are passed by

pub full_more : (kinds : List ℕ) (run : ℕ) {f : ℕ} → run < length kinds → f ≡ field 0 31 (entry_at kinds run) → f ≡ 0 → next_full kinds run ≡ next_full kinds (run + 1)
unfolding next_full full_among run_length
full_more kinds run h p q =
    let e : length kinds - run ≡ suc (length kinds - (run + 1)) = omega arith in
    rw (e, test_eq p q)

pub full_here : (kinds : List ℕ) (run : ℕ) {f : ℕ} → run < length kinds → f ≡ field 0 31 (entry_at kinds run) → (f ≡ 0 → ⊥) → run ≡ next_full kinds run
unfolding next_full full_among run_length
full_here kinds run h p q =
    let e : length kinds - run ≡ suc (length kinds - (run + 1)) = omega arith in
    rw (e, test_ne p q)

pub full_none : (kinds : List ℕ) (run : ℕ) → length kinds ≤ run → run ≡ next_full kinds run
unfolding next_full full_among
full_none kinds run h =
    let e : length kinds - run ≡ 0 = omega arith in
    rw e

-- what is found: no string is named between, it is not empty if it is there, and it is not past the last by more than one
record Full (kinds : List ℕ) (run k r : ℕ) : Type 0 where
  same : lengths kinds r ≡ lengths kinds run
  some : r < run + k → 0 < run_length kinds r
  far : r ≤ run + k

full_by : (kinds : List ℕ) (run k next : ℕ) → Full kinds (run + 1) k next → (b : Bool) → eqb (run_length kinds run) 0 ≡ b → Full kinds run (suc k) (cond b next run)
full_by kinds run k next v true e =
    let z : run_length kinds run ≡ 0 = eqb-true (run_length kinds run) 0 e in
    let m : lengths kinds (run + 1) ≡ lengths kinds run = rw add-one (omega (arith, lengths_more kinds run)) in
    record { same = v.same ∙ m; some = λ l. v.some (omega arith); far = omega (arith, v.far) }
full_by kinds run k next v false e =
    let z = eqb-false (run_length kinds run) 0 e in
    record { same = refl; some = λ l. omega (arith, z); far = omega arith }

full_is : (kinds : List ℕ) (k run : ℕ) → Full kinds run k (full_among kinds k run)
unfolding full_among
full_is kinds zero run = record { same = refl; some = λ l. absurd (omega arith); far = omega arith }
full_is kinds (suc k) run = full_by kinds run k (full_among kinds k (run + 1)) (full_is kinds k (run + 1)) (eqb (run_length kinds run) 0) refl

pub by_passed : {kinds : List ℕ} {i : ℕ} {h : Held} → HeldRightly kinds i h → Settled kinds i (passed_on kinds h)
unfolding passed_on next_full holding run_length
by_passed {kinds} {i} {h} v = passed_by (eqb h.left 0) (ltb h.run (length kinds)) refl refl
  where
    passed_by : (b d : Bool) → eqb h.left 0 ≡ b → ltb h.run (length kinds) ≡ d → Settled kinds i (cond b (cond d (holding kinds (next_full kinds (h.run + 1))) h) h)
    passed_by false d e f = record { by = v; some = λ l. omega (arith, eqb-false h.left 0 e) }
    passed_by true false e f = record { by = v; some = λ l. absurd (omega (arith, ltb-false h.run (length kinds) f)) }
    passed_by true true e f =
        let l = ltb-true h.run (length kinds) f in
        let w = full_is kinds (length kinds - (h.run + 1)) (h.run + 1) in
        let p : lengths kinds (h.run + 1) ≡ i = rw add-one (omega (arith, v.within l, eqb-true h.left 0 e)) in
        record { by = by_holding kinds i (full_among kinds (length kinds - (h.run + 1)) (h.run + 1)) (w.same ∙ p); some = λ q. w.some (omega arith) }

pub passed_far : (kinds : List ℕ) (h : Held) → h.run ≤ length kinds → (passed_on kinds h).run ≤ length kinds
unfolding passed_on next_full holding
passed_far kinds h v = far_by (eqb h.left 0) (ltb h.run (length kinds)) refl
  where
    far_by : (b d : Bool) → ltb h.run (length kinds) ≡ d → (cond b (cond d (holding kinds (next_full kinds (h.run + 1))) h) h).run ≤ length kinds
    far_by false d f = v
    far_by true false f = v
    far_by true true f = omega (arith, (full_is kinds (length kinds - (h.run + 1)) (h.run + 1)).far, ltb-true h.run (length kinds) f)
