-- The laws of totals that are kept while rows are exchanged.
use Prim.Native.Nat.{ℕ, zero, suc, ◌+◌, ◌-◌, ◌≤◌}
use mathlib.Core.Path.{◌≡◌, refl, ap, sym, ◌∙◌}
use mathlib.Core.Bool.{Bool, true, false}
use native.Mathlib.Omega.{arith}
use native.Mathlib.Decide.{le_ind}
use native.Mathlib.Numerals.{add-one}
use Rattle.hbc_io.specs.declared.Refusal.{Refusal}
use Rattle.hbc_io.specs.Answer.{Answer, gives, refuses}
use Rattle.hbc_io.proofs.Exits.{not_below, reached, not_given}
use Rattle.hbc_function_totals.specs.declared.Share.{Share}
use Rattle.hbc_function_totals.specs.declared.Totals.{Totals}
use Rattle.hbc_function_totals.specs.Totals.{totals, sum, most, exchanged, next, kept}
use Rattle.hbc_function_totals.proofs.Sums.{sum_next, sum_skip}

-- ---- one row

-- what is left, where neither total falls below 0 nor goes above `most`
pub exchange_fits : (i : ℕ) (now : Totals) (old new : Share) → old.large ≤ now.large → old.size ≤ now.sizes
    → now.large - old.large + new.large ≤ most → now.sizes - old.size + new.size ≤ most
    → gives (totals (now.large - old.large + new.large) (now.sizes - old.size + new.size)) ≡ exchanged i now old new
unfolding exchanged
exchange_fits i now old new a b c d = not_below _ _ _ _ a (not_below _ _ _ _ b (not_below _ _ _ _ c (not_below _ _ _ _ d refl)))

-- t is now, with the old row taken out and the new one added
pub record Exchanged (now : Totals) (old new : Share) (t : Totals) : Type 0 where
  pub large : t.large + old.large ≡ now.large + new.large
  pub sizes : t.sizes + old.size ≡ now.sizes + new.size
  pub large_most : t.large ≤ most
  pub sizes_most : t.sizes ≤ most

pub given_is : {v w : Totals} → ◌≡◌ {A = Answer Totals} (gives v) (gives w) → w ≡ v
given_is e = cc

pub exchange_gave : (i : ℕ) (now : Totals) (old new : Share) (t : Totals) → exchanged i now old new ≡ gives t → Exchanged now old new t
unfolding exchanged
exchange_gave i now old new t e =
    let a = reached _ _ _ _ not_given e in
    let b = reached _ _ _ _ not_given a.1 in
    let c = reached _ _ _ _ not_given b.1 in
    let d = reached _ _ _ _ not_given c.1 in
    let l : t.large ≡ now.large - old.large + new.large = ap (λ (x : Totals). x.large) (given_is d.1) in
    let s : t.sizes ≡ now.sizes - old.size + new.size = ap (λ (x : Totals). x.sizes) (given_is d.1) in
    let a0 = a.0 in let b0 = b.0 in let c0 = c.0 in let d0 = d.0 in
    record { large = omega arith; sizes = omega arith; large_most = omega arith; sizes_most = omega arith }

-- ---- rows, one after another

module _ (chosen : ℕ → Bool) (old new : ℕ → Share) (before : Totals) where
  pub kept_more : (i : ℕ) {now : Totals} {x : Answer Totals} → chosen i ≡ true → kept chosen old new before i ≡ gives now
      → x ≡ exchanged i now (old i) (new i) → kept chosen old new before (i + 1) ≡ x
  unfolding kept next
  kept_more i e k p = rw (add-one, e, k) (sym p)

  pub kept_skip : (n : ℕ) → chosen n ≡ false → kept chosen old new before (suc n) ≡ kept chosen old new before n
  unfolding kept next
  kept_skip n e = rw e

  stays_by : (b : Bool) (f : Totals → Answer Totals) (x : Refusal) → next b (refuses x) f ≡ refuses x
  unfolding next
  stays_by true f x = refl
  stays_by false f x = refl

  -- a refusal stays
  pub kept_stays : {x : Refusal} (i n : ℕ) → i ≤ n → kept chosen old new before i ≡ refuses x → kept chosen old new before n ≡ refuses x
  unfolding kept
  kept_stays {x} i n h e = le_ind (λ (m : ℕ). kept chosen old new before m ≡ refuses x) e (λ m k p. rw p (stays_by (chosen m) _ x)) n h

-- ---- totals by the sums

module _ (chosen : ℕ → Bool) (old new : ℕ → Share) (before : Totals) where
  -- those that the sums make of them
  abbrev pub summed : ℕ → Totals
  summed n = totals (before.large - sum chosen (λ i. (old i).large) n + sum chosen (λ i. (new i).large) n)
      (before.sizes - sum chosen (λ i. (old i).size) n + sum chosen (λ i. (new i).size) n)

  -- all old rows can be taken out before any new one is added, and all new ones added before any old one is taken out
  pub record Safe (n : ℕ) : Type 0 where
    pub large : sum chosen (λ i. (old i).large) n ≤ before.large
    pub sizes : sum chosen (λ i. (old i).size) n ≤ before.sizes
    pub large_most : before.large + sum chosen (λ i. (new i).large) n ≤ most
    pub sizes_most : before.sizes + sum chosen (λ i. (new i).size) n ≤ most

  less : (n : ℕ) → Safe (suc n) → Safe n
  unfolding sum
  less n v =
      let a = v.large in let b = v.sizes in let c = v.large_most in let d = v.sizes_most in
      record { large = omega arith; sizes = omega arith; large_most = omega arith; sizes_most = omega arith }

  step_by : (n : ℕ) (b : Bool) → chosen n ≡ b → Safe (suc n) → kept chosen old new before n ≡ gives (summed n) → kept chosen old new before (suc n) ≡ gives (summed (suc n))
  step_by n true e v k =
      let p = sum_next chosen (λ i. (old i).large) n e in let q = sum_next chosen (λ i. (old i).size) n e in
      let r = sum_next chosen (λ i. (new i).large) n e in let s = sum_next chosen (λ i. (new i).size) n e in
      let a = v.large in let b = v.sizes in let c = v.large_most in let d = v.sizes_most in
      let x : (summed n).large - (old n).large + (new n).large ≡ (summed (suc n)).large = omega arith in
      let y : (summed n).sizes - (old n).size + (new n).size ≡ (summed (suc n)).sizes = omega arith in
      rw add-one at (kept_more chosen old new before n e k
      (ap gives (ap (λ (u : ℕ). totals u (summed (suc n)).sizes) (sym x) ∙ ap (totals ((summed n).large - (old n).large + (new n).large)) (sym y))
      ∙ exchange_fits n (summed n) (old n) (new n) (omega arith) (omega arith) (omega arith) (omega arith)))
  step_by n false e v k =
      let p = sum_skip chosen (λ i. (old i).large) n e in let q = sum_skip chosen (λ i. (old i).size) n e in
      let r = sum_skip chosen (λ i. (new i).large) n e in let s = sum_skip chosen (λ i. (new i).size) n e in
      kept_skip chosen old new before n e ∙ k ∙ rw (p, q, r, s)

  pub kept_safe : (n : ℕ) → Safe n → kept chosen old new before n ≡ gives (summed n)
  unfolding kept sum
  kept_safe zero v = let a : before.large ≡ before.large - 0 + 0 = omega arith in let b : before.sizes ≡ before.sizes - 0 + 0 = omega arith in
      ap gives (ap (λ (u : ℕ). totals u before.sizes) a ∙ ap (totals (before.large - 0 + 0)) b)
  kept_safe (suc n) v = step_by n (chosen n) refl v (kept_safe n (less n v))
