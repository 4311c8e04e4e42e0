-- What the flag of a walk says of tags of length 0.
use Prim.Native.Nat.{ℕ, zero, suc, ◌+◌, ◌-◌, ◌*◌, ◌≤◌, ◌<◌, min}
use mathlib.Core.Path.{◌≡◌, refl, sym, ◌∙◌}
use mathlib.Core.List.{List}
use mathlib.Core.Bool.{Bool, true, false, cond}
use native.Mathlib.Omega.{arith}
use native.Mathlib.Nat.{mul-le-mul}
use native.Mathlib.Decide.{dec_lt}
use borrow.Author.Tests.{eq-eqb, ne_eqb, eqb-false}
use lib.ListN.{length}
use lib.Dec.{eqb}
use Rattle.hbc_io.specs.Outcome.{got, cursor_at, limit}
use Rattle.hbc_io.specs.declared.Cursor.{Cursor}
use Rattle.hbc_buffer_literal.specs.Literal.{width_of}
use Rattle.hbc_buffer.specs.Series.{Run, run_of, tag_at, after}
use Rattle.hbc_buffer.proofs.Tags.{On, tag_on, head_here}
use Rattle.hbc_buffer.proofs.Runs.{Ready, ready_head, run_past}
use Rattle.hbc_lowest.specs.Lowest.{some}
use Rattle.hbc_lowest.proofs.Laws.{None, none_first, truth_clash, some_is, some_none}
use Rattle.hbc_clean_series.specs.Series.{empty_next, passes_empty}

-- a tag of length 0 is the next after k values
abbrev pub gap : List ℕ → ℕ → ℕ → Bool
gap s from k = empty_next s (after k s (cursor_at from))

-- after `done` values the run is spent, no tag of length 0 is passed, and the next tag stands at `at`
pub record Fresh (s : List ℕ) (from count done at : ℕ) : Type 0 where
  pub none : None (gap s from) done
  pub run : Run
  pub is : after done s (cursor_at from) ≡ got run (cursor_at at)
  pub spent : done < count → run.left ≡ 0

-- what the flag says
pub record Flag (s : List ℕ) (from count done at : ℕ) (empty : Bool) : Type 0 where
  pub found : empty ≡ true → some (gap s from) count ≡ true
  pub fresh : empty ≡ false → Fresh s from count done at

pub flag_first : (s : List ℕ) (from count : ℕ) → Flag s from count 0 from false
unfolding after
flag_first s from count =
    record {
      found = λ e. absurd (truth_clash e refl);
      fresh = λ _. record { none = none_first; run = run_of 0 0; is = refl; spent = λ _. refl };
    }

gap_spent : (s : List ℕ) (from k : ℕ) {r : Run} {c : Cursor} {t : Run} {n : Cursor} → after k s (cursor_at from) ≡ got r c → r.left ≡ 0 → tag_at s c ≡ got t n
    → gap s from k ≡ eqb t.left 0
gap_spent s from k e h f = rw (e, eq-eqb _ _ h, f)

gap_inside : (s : List ℕ) (from k : ℕ) {r : Run} {c : Cursor} → after k s (cursor_at from) ≡ got r c → (r.left ≡ 0 → ⊥) → gap s from k ≡ false
gap_inside s from k e h = rw (e, ne_eqb _ _ h)

none_more : (b : ℕ → Bool) (d m : ℕ) → None b d → ((i : ℕ) → i < m → b (d + i) ≡ false) → None b (d + m)
none_more b d m p q = record { not = λ k l. by k l (dec_lt k d) }
  where
    by : (k : ℕ) → k < d + m → Dec (k < d) → b k ≡ false
    by k l (yes h) = p.not k h
    by k l (no h) = let z : d + (k - d) ≡ k = omega (arith, h) in rw z at (q (k - d) (omega (arith, l, h)))

module _ {s : List ℕ} {from count done at : ℕ} (g : Fresh s from count done at) (more : done < count) {t l f : ℕ}
    (e : tag_at s (cursor_at at) ≡ got (run_of t l) (cursor_at f)) where
  here : gap s from done ≡ eqb l 0
  here = gap_spent s from done g.is (g.spent more) e

  module _ (short : length s ≤ limit) (z : l ≡ 0 → ⊥) (m : ℕ) (least : m ≡ min l (count - done)) (room : m * width_of t ≤ length s - f) where
    on : On s (cursor_at at) (cursor_at f)
    on = tag_on s (cursor_at at) (run_of t l) (cursor_at f) e

    ready : Ready done s (cursor_at from) (run_of t l) (cursor_at f)
    ready = ready_head g.is (g.spent more) (head_here (length s) s (cursor_at at) (omega (arith, on.from, on.within)) e z)

    inside : (i : ℕ) → i < m → gap s from (done + i) ≡ false
    inside zero h = let a : done + 0 ≡ done = omega arith in rw a (here ∙ ne_eqb _ _ z)
    inside (suc i) h =
        let y = on.within in
        let q : suc i * width_of t ≤ m * width_of t = mul-le-mul {n₁ = suc i} {m₁ = width_of t} {n₂ = m} {m₂ = width_of t} (omega (arith, h)) (omega arith) in
        let x = run_past ready short (suc i) (omega arith) (omega (arith, least, h)) (omega (arith, q, room, y)) in
        gap_inside s from (done + suc i) x (λ k. omega (arith, least, h, k))

    fresh_more : Fresh s from count (done + m) (f + m * width_of t)
    fresh_more =
        let y = on.within in
        record {
          none = none_more (gap s from) done m g.none inside;
          run = run_of t (l - m);
          is = run_past ready short m (omega (arith, least, z, more)) (omega (arith, least)) (omega (arith, room, y));
          spent = λ q. omega (arith, least, q);
        }

-- one tag more, and its values
module _ {s : List ℕ} {from count done at : ℕ} {x : Bool} (g : Flag s from count done at x) (more : done < count) (short : length s ≤ limit) {t l f : ℕ}
    (e : tag_at s (cursor_at at) ≡ got (run_of t l) (cursor_at f)) (m : ℕ) (least : m ≡ min l (count - done)) (room : m * width_of t ≤ length s - f) where
  more_by : (a b : Bool) → x ≡ a → eqb l 0 ≡ b → Flag s from count (done + m) (f + m * width_of t) (cond a true b)
  more_by true b p q = record { found = λ _. g.found p; fresh = λ k. absurd (truth_clash refl k) }
  more_by false true p q =
      record {
        found = λ _. some_is (gap s from) count done more (here (g.fresh p) more e ∙ q);
        fresh = λ k. absurd (truth_clash refl k);
      }
  more_by false false p q =
      record {
        found = λ k. absurd (truth_clash k refl);
        fresh = λ _. fresh_more (g.fresh p) more e short (eqb-false l 0 q) m least room;
      }

  pub flag_more : {y : Bool} → y ≡ cond x true (eqb l 0) → Flag s from count (done + m) (f + m * width_of t) y
  flag_more h = rw h (more_by x (eqb l 0) refl refl)

done_by : {s : List ℕ} {from count done at : ℕ} (x : Bool) → Flag s from count done at x → done ≡ count → x ≡ some (gap s from) count
done_by true g e = sym (g.found refl)
done_by {s} {from} {count} false g e = sym (some_none (gap s from) count (rw e at (g.fresh refl).none))

pub flag_done : {s : List ℕ} {from count done at : ℕ} {x : Bool} → Flag s from count done at x → done ≡ count → x ≡ passes_empty s from count
unfolding passes_empty
flag_done {x = x} g e = done_by x g e
