-- Bytes that are not escaped: eight at once, the last eight.
use Prim.Native.Nat.{ℕ, suc, ◌+◌, ◌-◌, ◌≤◌, ◌<◌}
use mathlib.Core.Path.{◌≡◌, refl, sym, ◌∙◌}
use mathlib.Core.Logic.{◌⊎◌, inl, inr}
use mathlib.Core.List.{List}
use mathlib.Core.Bool.{Bool, true, false, ◌||◌}
use native.Mathlib.Nat.{add-zero}
use native.Mathlib.Omega.{arith}
use lib.ListN.{length, get_or}
use Rattle.hbc_text_forms.proofs.Laws.{no}
use Rattle.hbc_text_forms.proofs.Codes.{split}
use Rattle.hbc_json_forms.specs.Json.{is_escaped}
use Rattle.hbc_json_text.specs.Private.{AllClear, Passed}

-- ---- runs

join_at : (s : List ℕ) (at e k j : ℕ) → Passed s at e → AllClear s e k → j < e + k - at → (j < e - at) ⊎ (e - at ≤ j) → is_escaped (get_or s (at + j) 0) ≡ false
join_at s at e k j p a l (inl h) = p.clear j h
join_at s at e k j p a l (inr h) =
    let f : at ≤ e = p.from in
    let q : e + (j - (e - at)) ≡ at + j = omega arith in
    rw q at (a (j - (e - at)) (omega arith))

-- k more
pub passed_join : (s : List ℕ) (at e k : ℕ) → Passed s at e → e + k ≤ length s → AllClear s e k → Passed s at (e + k)
passed_join s at e k p h a =
    record {
      from = omega (arith, p.from);
      inside = h;
      clear = λ j l. join_at s at e k j p a l (split j (e - at));
    }

-- the last k, of which some were passed already
pub passed_last : (s : List ℕ) (at e k : ℕ) → Passed s at e → k ≤ length s → length s - e < k → AllClear s (length s - k) k → Passed s at (length s)
passed_last s at e k p h l a =
    let i : e ≤ length s = p.inside in
    let j : e + (length s - e) ≡ length s = omega arith in
    rw j at (passed_join s at e (length s - e) p (omega arith) rest)
  where
    rest : AllClear s e (length s - e)
    rest x u =
        let q : (length s - k) + (e + x - (length s - k)) ≡ e + x = omega (arith, p.inside) in
        rw q at (a (e + x - (length s - k)) (omega (arith, p.inside)))

-- ---- eight tests

either : (a b : Bool) → (a || b) ≡ false → (a ≡ false) × (b ≡ false)
either true b e = no (sym e)
either false b e = (refl, e)

snoc_at : (s : List ℕ) (at n j : ℕ) → AllClear s at n → is_escaped (get_or s (at + n) 0) ≡ false → j < suc n → (j < n) ⊎ (n ≤ j) → is_escaped (get_or s (at + j) 0) ≡ false
snoc_at s at n j a c l (inl h) = a j h
snoc_at s at n j a c l (inr h) = let e : j ≡ n = omega arith in rw e c

snoc : (s : List ℕ) (at n : ℕ) → AllClear s at n → is_escaped (get_or s (at + n) 0) ≡ false → AllClear s at (suc n)
snoc s at n a c j l = snoc_at s at n j a c l (split j n)

pub eight_clear : (s : List ℕ) (at : ℕ) (b0 b1 b2 b3 b4 b5 b6 b7 : Bool) → b0 ≡ is_escaped (get_or s at 0) → b1 ≡ is_escaped (get_or s (at + 1) 0)
    → b2 ≡ is_escaped (get_or s (at + 2) 0) → b3 ≡ is_escaped (get_or s (at + 3) 0) → b4 ≡ is_escaped (get_or s (at + 4) 0) → b5 ≡ is_escaped (get_or s (at + 5) 0)
    → b6 ≡ is_escaped (get_or s (at + 6) 0) → b7 ≡ is_escaped (get_or s (at + 7) 0)
    → (((((((b0 || b1) || b2) || b3) || b4) || b5) || b6) || b7) ≡ false → AllClear s at 8
eight_clear s at b0 b1 b2 b3 b4 b5 b6 b7 e0 e1 e2 e3 e4 e5 e6 e7 z =
    let x7 = either _ b7 z in
    let x6 = either _ b6 x7.0 in
    let x5 = either _ b5 x6.0 in
    let x4 = either _ b4 x5.0 in
    let x3 = either _ b3 x4.0 in
    let x2 = either _ b2 x3.0 in
    let x1 = either b0 b1 x2.0 in
    let a0 : AllClear s at 0 = λ j l. absurd (omega arith) in
    let a1 = snoc s at 0 a0 (rw (add-zero at) (sym e0 ∙ x1.0)) in
    let a2 = snoc s at 1 a1 (sym e1 ∙ x1.1) in
    let a3 = snoc s at 2 a2 (sym e2 ∙ x2.1) in
    let a4 = snoc s at 3 a3 (sym e3 ∙ x3.1) in
    let a5 = snoc s at 4 a4 (sym e4 ∙ x4.1) in
    let a6 = snoc s at 5 a5 (sym e5 ∙ x5.1) in
    let a7 = snoc s at 6 a6 (sym e6 ∙ x6.1) in
    snoc s at 7 a7 (sym e7 ∙ x7.1)
