-- Fields that lie side by side cover every bit once.
use Prim.Native.Nat.{ℕ, zero, suc, ◌+◌, ◌*◌, ◌≤◌, ◌<◌}
use mathlib.Core.Path.{◌≡◌, refl, sym, ap, ◌∙◌}
use mathlib.Core.List.{List, [], ◌∷◌}
use mathlib.Core.Bool.{Bool, true, false}
use native.Mathlib.Omega.{arith}
use lib.ListN.{length}
use lib.Dec.{eqb, ltb}
use borrow.Author.Tests.{eqb-true, ltb-true, ltb-false}
use Rattle.hbc_bits.specs.Fields.{fields_of}
use Rattle.hbc_bits.proofs.Fields.{both, side_by_side}
use Rattle.hbc_function_record.specs.declared.Layout.{Layout}
use Rattle.hbc_function_record.specs.BitLayout.{fields_in}
use Rattle.hbc_function_record.specs.Record.{size_of, legacy_by, legacy_of, modern_by, modern_of}
use Rattle.hbc_claims_function.specs.BitLayout.{first_of, end_of, Has, Covers, Named}
use Rattle.hbc_claims_function.proofs.Headers.{side}

-- the first begins at k, and the others at its end
begun : (k e : ℕ) (f : ℕ × ℕ) (fs : List (ℕ × ℕ)) → side_by_side k (f ∷ fs) e ≡ true → (f.0 ≡ k) × (side_by_side (k + f.1) fs e ≡ true)
unfolding side_by_side
begun k e f fs s = let t = both (eqb f.0 k) s in (eqb-true f.0 k t.0, t.1)

end_le : (k e : ℕ) (fs : List (ℕ × ℕ)) → side_by_side k fs e ≡ true → k ≤ e
unfolding side_by_side
end_le k e [] s = let p = eqb-true k e s in omega arith
end_le k e (f ∷ fs) s = let h = end_le (k + f.1) e fs (begun k e f fs s).1 in omega arith

begins : (k e : ℕ) (fs : List (ℕ × ℕ)) → side_by_side k fs e ≡ true → 0 < length fs → first_of fs 0 ≡ k
begins k e [] s h = absurd (omega arith)
begins k e (f ∷ fs) s h = (begun k e f fs s).0

joins : (k e : ℕ) (fs : List (ℕ × ℕ)) → side_by_side k fs e ≡ true → (j : ℕ) → suc j < length fs → first_of fs (suc j) ≡ end_of fs j
joins k e [] s j h = absurd (omega arith)
joins k e (f ∷ fs) s zero h = let t = begun k e f fs s in begins (k + f.1) e fs t.1 (omega arith) ∙ ap (◌+ f.1) (sym t.0)
joins k e (f ∷ fs) s (suc j) h = joins (k + f.1) e fs (begun k e f fs s).1 j (omega arith)

ends : (k e : ℕ) (fs : List (ℕ × ℕ)) → side_by_side k fs e ≡ true → (j : ℕ) → suc j ≡ length fs → end_of fs j ≡ e
unfolding side_by_side
ends k e [] s j h = absurd (omega arith)
ends k e (f ∷ []) s zero h = let t = begun k e f [] s in ap (◌+ f.1) t.0 ∙ eqb-true (k + f.1) e t.1
ends k e (f ∷ (g ∷ fs)) s zero h = absurd (omega arith)
ends k e (f ∷ fs) s (suc j) h = ends (k + f.1) e fs (begun k e f fs s).1 j (omega arith)

-- a bit from k on and before e is one of a field
each_by : (k e : ℕ) (f : ℕ × ℕ) (fs : List (ℕ × ℕ)) (b : ℕ) (c : Bool) → ltb b (k + f.1) ≡ c → f.0 ≡ k → k ≤ b
    → (k + f.1 ≤ b → (j : ℕ) × Has fs j b) → (j : ℕ) × Has (f ∷ fs) j b
each_by k e f fs b true p q h more = let l = ltb-true b (k + f.1) p in (0, record { listed = omega arith; from = omega arith; to = omega arith })
each_by k e f fs b false p q h more =
    let l = ltb-false b (k + f.1) p in
    let t = more (omega arith) in
    (suc t.0, record { listed = omega (arith, t.1.listed); from = t.1.from; to = t.1.to })

each : (k e : ℕ) (fs : List (ℕ × ℕ)) → side_by_side k fs e ≡ true → (b : ℕ) → k ≤ b → b < e → (j : ℕ) × Has fs j b
unfolding side_by_side
each k e [] s b h l = let p = eqb-true k e s in absurd (omega arith)
each k e (f ∷ fs) s b h l =
    let t = begun k e f fs s in each_by k e f fs b (ltb b (k + f.1)) refl t.0 h (λ m. each (k + f.1) e fs t.1 b m l)

-- and a field has none before k, and none from e on
within : (k e : ℕ) (fs : List (ℕ × ℕ)) → side_by_side k fs e ≡ true → (b j : ℕ) → Has fs j b → (k ≤ b) × (b < e)
within k e [] s b j v = absurd (omega (arith, v.listed))
within k e (f ∷ fs) s b zero v =
    let t = begun k e f fs s in
    let q = t.0 in
    let h = end_le (k + f.1) e fs t.1 in
    (omega (arith, v.from), omega (arith, v.to))
within k e (f ∷ fs) s b (suc j) v =
    let h = within (k + f.1) e fs (begun k e f fs s).1 b j (record { listed = omega (arith, v.listed); from = v.from; to = v.to }) in
    (omega (arith, h.0), h.1)

-- so the first has no bit of another
apart : (k e : ℕ) (f : ℕ × ℕ) (fs : List (ℕ × ℕ)) → side_by_side k (f ∷ fs) e ≡ true → (b j : ℕ) → Has (f ∷ fs) 0 b → Has (f ∷ fs) (suc j) b → ⊥
apart k e f fs s b j v w =
    let t = begun k e f fs s in
    let q = t.0 in
    let h = within (k + f.1) e fs t.1 b j (record { listed = omega (arith, w.listed); from = w.from; to = w.to }) in
    omega (arith, v.to, h.0)

once : (k e : ℕ) (fs : List (ℕ × ℕ)) → side_by_side k fs e ≡ true → (b i j : ℕ) → Has fs i b → Has fs j b → i ≡ j
once k e [] s b i j v w = absurd (omega (arith, v.listed))
once k e (f ∷ fs) s b zero zero v w = refl
once k e (f ∷ fs) s b zero (suc j) v w = absurd (apart k e f fs s b j v w)
once k e (f ∷ fs) s b (suc i) zero v w = absurd (apart k e f fs s b i w v)
once k e (f ∷ fs) s b (suc i) (suc j) v w =
    ap suc
    (once (k + f.1) e fs (begun k e f fs s).1 b i j (record { listed = omega (arith, v.listed); from = v.from; to = v.to })
    (record { listed = omega (arith, w.listed); from = w.from; to = w.to }))

-- whatever fields lie side by side
covers : (fs : List (ℕ × ℕ)) (n : ℕ) → side_by_side 0 fs n ≡ true → Covers fs n
covers fs n s = record {
  begins = begins 0 n fs s;
  joins = joins 0 n fs s;
  ends = ends 0 n fs s;
  each = λ b h. each 0 n fs s b (omega arith) h;
  once = once 0 n fs s;
  within = λ b k v. (within 0 n fs s b k v).1;
}

-- those of a header do
pub covered : (layout : Layout) → Covers (fields_in layout) (8 * size_of layout)
covered layout = covers (fields_in layout) (8 * size_of layout) (side layout)

pub named : (i n : ℕ) → Named i n
unfolding legacy_of legacy_by modern_of modern_by fields_of
named i n = record { legacy = refl; modern = refl }
