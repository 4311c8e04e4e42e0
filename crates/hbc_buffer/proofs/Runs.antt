-- A series run by run: what k values further on means inside a run.
use Prim.Native.Nat.{ℕ, zero, suc, ◌+◌, ◌-◌, ◌*◌, ◌≤◌, ◌<◌}
use mathlib.Core.Path.{◌≡◌, sym}
use mathlib.Core.List.{List}
use native.Mathlib.Omega.{arith}
use native.Mathlib.Nat.{add-zero, add-suc, zero-mul, suc-mul}
use native.Mathlib.Decide.{le_ind}
use borrow.Author.Tests.{eq-eqb, ne_eqb}
use lib.ListN.{length}
use Rattle.hbc_bits.specs.Bits.{le_at}
use Rattle.hbc_io.specs.Outcome.{got, refused, and_then, cursor_at, refusal_at, limit}
use Rattle.hbc_io.specs.Plain.{plain_at}
use Rattle.hbc_io.specs.declared.Cursor.{Cursor}
use Rattle.hbc_io.specs.declared.Refusal.{Refusal}
use Rattle.hbc_io.proofs.Reading.{then_got}
use Rattle.hbc_io.proofs.Plains.{plain_is}
use Rattle.hbc_buffer_literal.specs.Literal.{width_of}
use Rattle.hbc_buffer.proofs.Tags.{plain_cut}
use Rattle.hbc_buffer.specs.Series.{Run, run_of, head_at, run_at, step, after, value_at}

-- value k of the series is the next of the run u, whose values go on at n
pub record Ready (k : ℕ) (s : List ℕ) (c : Cursor) (u : Run) (n : Cursor) : Type 0 where
  pub is : and_then (after k s c) (run_at s) ≡ got u n

module _ {k : ℕ} {s : List ℕ} {c : Cursor} {t : Run} {m : Cursor} (e : after k s c ≡ got t m) where
  -- after a run that is spent: the next tag's
  pub ready_head : {u : Run} {n : Cursor} → t.left ≡ 0 → head_at (length s) s m ≡ got u n → Ready k s c u n
  unfolding run_at
  ready_head h f = record { is = rw (e, eq-eqb _ _ h) f }

  -- inside a run
  pub ready_on : (t.left ≡ 0 → ⊥) → Ready k s c t m
  unfolding run_at
  ready_on h = record { is = rw (e, ne_eqb _ _ h) }

-- after a run that is spent there is no tag
pub after_none : (k : ℕ) (s : List ℕ) (c : Cursor) {t : Run} {m : Cursor} {r : Refusal} {n : Cursor} → after k s c ≡ got t m → t.left ≡ 0
    → head_at (length s) s m ≡ refused r n → after (suc k) s c ≡ refused (refusal_at r.number k) n
unfolding after step run_at
after_none k s c e h f = rw (e, eq-eqb _ _ h, f)

module _ {k : ℕ} {s : List ℕ} {c : Cursor} {u : Run} {n : Cursor} (g : Ready k s c u n) where
  pub after_value : {v : ℕ} {m : Cursor} → plain_at (width_of u.tag) s n ≡ got v m → after (suc k) s c ≡ got (run_of u.tag (u.left - 1)) m
  unfolding after step
  after_value f = let p = then_got (after k s c) (run_at s) u n g.is in rw (p.2, p.3, f)

  pub after_cut : {r : Refusal} {m : Cursor} → plain_at (width_of u.tag) s n ≡ refused r m → after (suc k) s c ≡ refused (refusal_at r.number k) m
  unfolding after step
  after_cut f = let p = then_got (after k s c) (run_at s) u n g.is in rw (p.2, p.3, f)

  -- value k, whatever is asked of it
  pub value_is : (f : ℕ → ℕ → ℕ) {v : ℕ} {m : Cursor} → plain_at (width_of u.tag) s n ≡ got v m → value_at f s c k ≡ f u.tag v
  unfolding value_at
  value_is f e = rw (g.is, e)

-- a series that is refused stays so, however many values are asked
pub refused_stays : (k : ℕ) (s : List ℕ) (c : Cursor) {r : Refusal} {m : Cursor} → after k s c ≡ refused r m → (n : ℕ) → k ≤ n → after n s c ≡ refused r m
unfolding after
refused_stays k s c {r} {m} e n h = le_ind (λ (j : ℕ). after j s c ≡ refused r m) e (λ j l f. rw f) n h

module _ {k : ℕ} {s : List ℕ} {c : Cursor} {u : Run} {p : ℕ} (g : Ready k s c u (cursor_at p)) (short : length s ≤ limit) where
  abbrev w : ℕ
  w = width_of u.tag

  same : {a b x y l m : ℕ} → a ≡ b → x ≡ y → l ≡ m → Ready a s c (run_of u.tag x) (cursor_at l) → Ready b s c (run_of u.tag y) (cursor_at m)
  same e f h q = rw (← e, ← f, ← h) q

  -- i values into the run
  pub run_on : (i : ℕ) → i < u.left → p + i * w ≤ length s → Ready (k + i) s c (run_of u.tag (u.left - i)) (cursor_at (p + i * w))
  run_on zero h l = let z : p ≡ p + 0 * w = rw zero-mul (sym (add-zero p)) in same (omega arith) (omega arith) z g
  run_on (suc i) h l =
      let e = suc-mul i w in
      let q = run_on i (omega arith) (omega (arith, e, l)) in
      let v = after_value q (plain_is w s (cursor_at (p + i * w)) short (omega (arith, e, l))) in
      let z : u.left - i - 1 ≡ 0 → ⊥ = λ x. omega arith in
      same (sym (add-suc k i)) (omega arith) (omega (arith, e)) (ready_on v z)

  -- past j values of it
  pub run_past : (j : ℕ) → 0 < j → j ≤ u.left → p + j * w ≤ length s → after (k + j) s c ≡ got (run_of u.tag (u.left - j)) (cursor_at (p + j * w))
  run_past zero z h l = absurd (omega arith)
  run_past (suc i) z h l =
      let e = suc-mul i w in
      let q = run_on i (omega arith) (omega (arith, e, l)) in
      let v = after_value q (plain_is w s (cursor_at (p + i * w)) short (omega (arith, e, l))) in
      let a : u.left - i - 1 ≡ u.left - suc i = omega arith in
      let b : p + i * w + w ≡ p + suc i * w = omega (arith, e) in
      rw (add-suc k i, ← a, ← b) v

  -- it is cut in value i
  pub run_cut : (i n : ℕ) → i < u.left → p + i * w ≤ length s → length s - (p + i * w) < w → k + i < n
      → after n s c ≡ refused (refusal_at 3 (k + i)) (cursor_at (p + i * w))
  run_cut i n h l z b = refused_stays (suc (k + i)) s c (after_cut (run_on i h l) (plain_cut w s (p + i * w) short l z)) n b

  -- value i of it, whatever is asked
  pub run_value : (f : ℕ → ℕ → ℕ) (i : ℕ) → i < u.left → p + (suc i) * w ≤ length s → value_at f s c (k + i) ≡ f u.tag (le_at s (p + i * w) w)
  run_value f i h l =
      let e = suc-mul i w in
      value_is (run_on i h (omega (arith, e, l))) f (plain_is w s (cursor_at (p + i * w)) short (omega (arith, e, l)))
