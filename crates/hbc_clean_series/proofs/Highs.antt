-- What is high in a run, and in the runs of a series one after another.
use Prim.Native.Nat.{ℕ, zero, suc, ◌+◌, ◌-◌, ◌*◌, ◌≤◌, ◌<◌, min}
use mathlib.Core.Path.{◌≡◌, refl, sym, ◌∙◌}
use mathlib.Core.List.{List}
use mathlib.Core.Bool.{Bool, true, false, cond}
use native.Mathlib.Nat.{add-zero, add-suc}
use borrow.Author.Tests.{eq-eqb, ne_eqb, le-leb, lt-leb}
use lib.ListN.{length}
use lib.Dec.{eqb}
use Rattle.hbc_bits.specs.Bits.{le_at}
use Rattle.hbc_io.specs.Outcome.{got, cursor_at, limit}
use Rattle.hbc_buffer_literal.specs.Literal.{width_of, literal_of, kind_of}
use Rattle.hbc_buffer_literal.proofs.Laws.{kind_any}
use Rattle.hbc_buffer.specs.Series.{run_of, tag_at}
use Rattle.hbc_buffer.specs.Private.{Passed}
use Rattle.hbc_buffer.proofs.Passes.{passed_value}
use Rattle.hbc_lowest.specs.Lowest.{some}
use Rattle.hbc_lowest.proofs.Laws.{None, none_next, some_is, some_none, some_same}
use Rattle.hbc_clean_series.specs.Series.{high_string, holds_high}
use Rattle.hbc_clean_series.specs.Private.{high_in, high_run}

-- ---- one of some, then one of the next

cond_then : (x y z : Bool) → cond (cond x true y) true z ≡ cond x true (cond y true z)
cond_then true y z = refl
cond_then false y z = refl

cond_none : (x : Bool) → x ≡ cond x true false
cond_none true = refl
cond_none false = refl

some_add : (b : ℕ → Bool) (d m : ℕ) → some b (d + m) ≡ cond (some b d) true (some (λ i. b (d + i)) m)
unfolding some
some_add b d zero = rw (add-zero d) (cond_none (some b d))
some_add b d (suc m) = rw (add-suc d m, some_add b d m) (cond_then (some b d) (some (λ i. b (d + i)) m) (b (d + m)))

some_when : (x : Bool) (b : ℕ → Bool) (n : ℕ) → some (λ i. cond x (b i) false) n ≡ cond x (some b n) false
unfolding some
some_when true b n = refl
some_when false b zero = refl
some_when false b (suc n) = rw (some_when false b n)

-- ---- values of a run one after another

module _ (strings : ℕ) (s : List ℕ) (at sort : ℕ) where
  pub high_here : {i n p v : ℕ} → i < n → p ≡ at + i * width_of sort → v ≡ le_at s p (width_of sort) → strings ≤ v → true ≡ some (high_in strings s at sort) n
  high_here {i} {n} h e f l = sym (some_is (high_in strings s at sort) n i h (le-leb strings (le_at s (at + i * width_of sort) (width_of sort)) (rw (← e, ← f) l)))

  pub high_not : {i p v : ℕ} → None (high_in strings s at sort) i → p ≡ at + i * width_of sort → v ≡ le_at s p (width_of sort) → v < strings
      → None (high_in strings s at sort) (i + 1)
  high_not {i} g e f l = none_next (high_in strings s at sort) g (lt-leb strings (le_at s (at + i * width_of sort) (width_of sort)) (rw (← e, ← f) l))

  pub high_none : {i n : ℕ} → None (high_in strings s at sort) i → i ≡ n → false ≡ some (high_in strings s at sort) n
  high_none {i} {n} g e = sym (some_none (high_in strings s at sort) n (rw e at g))

-- ---- a run

pub high_strings : {k : ℕ} {x : Bool} (strings : ℕ) (s : List ℕ) (at sort n : ℕ) → k ≡ kind_of (literal_of sort 0) → k ≡ 4 → x ≡ some (high_in strings s at sort) n
    → x ≡ high_run strings s at sort n
unfolding high_run
high_strings strings s at sort n e f h = rw (eq-eqb _ _ (sym e ∙ f)) h

pub high_others : {k : ℕ} (strings : ℕ) (s : List ℕ) (at sort n : ℕ) → k ≡ kind_of (literal_of sort 0) → (k ≡ 4 → ⊥) → false ≡ high_run strings s at sort n
unfolding high_run
high_others strings s at sort n e f = rw (ne_eqb _ _ (λ q. f (e ∙ q)))

-- ---- a series

pub high_first : (strings : ℕ) (s : List ℕ) (from : ℕ) → false ≡ some (high_string strings s from) 0
unfolding some
high_first strings s from = refl

module _ {s : List ℕ} {from count done at : ℕ} (g : Passed s from count done at) (more : done < count) (short : length s ≤ limit) {t l f : ℕ}
    (e : tag_at s (cursor_at at) ≡ got (run_of t l) (cursor_at f)) (m : ℕ) (least : m ≡ min l (count - done)) (room : m * width_of t ≤ length s - f) (strings : ℕ) where
  value_high : (i : ℕ) → i < m → high_string strings s from (done + i) ≡ cond (eqb (kind_of (literal_of t 0)) 4) (high_in strings s f t i) false
  value_high i h =
      let v = le_at s (f + i * width_of t) (width_of t) in
      let a = kind_any t 0 v ∙ passed_value g more short e m least (λ t v. kind_of (literal_of t v)) room i h in
      let b = passed_value g more short e m least (λ t v. v) room i h in
      rw (← a, ← b)

  run_high : some (λ i. high_string strings s from (done + i)) m ≡ high_run strings s f t m
  unfolding high_run
  run_high =
      some_same (λ i. high_string strings s from (done + i)) (λ i. cond (eqb (kind_of (literal_of t 0)) 4) (high_in strings s f t i) false) m value_high
      ∙ some_when (eqb (kind_of (literal_of t 0)) 4) (high_in strings s f t) m

  pub high_more : {x y : Bool} → x ≡ some (high_string strings s from) done → y ≡ cond x true (high_run strings s f t m) → y ≡ some (high_string strings s from) (done + m)
  high_more p q = rw (q, p, some_add (high_string strings s from) done m, run_high)

pub high_done : (strings : ℕ) (s : List ℕ) (from : ℕ) {count done : ℕ} {x : Bool} → x ≡ some (high_string strings s from) done → done ≡ count → x ≡ holds_high strings s from count
unfolding holds_high
high_done strings s from h e = rw e at h
