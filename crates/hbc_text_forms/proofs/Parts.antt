-- The parts are the Standard's (D93b): a part that is no character is the maximal subpart of what is ill formed there.
use Prim.Native.Nat.{ℕ, zero, suc, ◌≤◌, ◌<◌}
use mathlib.Core.Path.{◌≡◌, refl, sym, ◌∙◌}
use mathlib.Core.Logic.{◌⊎◌, inl, inr}
use mathlib.Core.List.{List, [], ◌∷◌, ◌++◌}
use mathlib.Core.Bool.{Bool, true, false, cond, ◌&&◌}
use native.Mathlib.Nat.{le_refl}
use native.Mathlib.Omega.{arith}
use lib.ListN.{length, take, drop, take-append-drop}
use lib.Dec.{leb}
use lib.Seq.{length-take-le}
use borrow.Author.Tests.{leb-true}
use Rattle.hbc_text_forms.specs.Utf8.{Range, ◌‥◌, table, Fits, none, more, Among, here, there, Character, within, leads, row_of, tail, agree, passed, whole}
use Rattle.hbc_text_forms.specs.Parts.{Begins, Maximal}
use Rattle.hbc_text_forms.proofs.Laws.{inside, is_inside, both, no}
use Rattle.hbc_text_forms.proofs.Codes.{split}
use Rattle.hbc_text_forms.proofs.Rows.{picked, found, filled, reads, passed_inside}

-- ---- the bytes that agree with ranges begin what fits them

abbrev sound : List Range → Bool
sound [] = true
sound (a ‥ z ∷ rs) = leb a z && sound rs

abbrev lows : List Range → List ℕ
lows [] = []
lows (a ‥ z ∷ rs) = a ∷ lows rs

low_fits : (rs : List Range) → sound rs ≡ true → Fits rs (lows rs)
low_fits [] e = none
low_fits (a ‥ z ∷ rs) e =
    let x = both (leb a z) (sound rs) e in
    more (le_refl a) (leb-true a z x.0) (low_fits rs x.1)

begin_at : (a z : ℕ) (rs : List Range) (b : ℕ) (s : List ℕ) (w : Bool) → within (a ‥ z) b ≡ w → a ≤ z → Fits rs (lows rs)
    → Fits rs (take (agree rs s) s ++ lows (drop (agree rs s) rs))
    → Fits (a ‥ z ∷ rs) (take (cond w (suc (agree rs s)) 0) (b ∷ s) ++ lows (drop (cond w (suc (agree rs s)) 0) (a ‥ z ∷ rs)))
begin_at a z rs b s true e h l f = let i = inside a z b e in more i.0 i.1 f
begin_at a z rs b s false e h l f = more (le_refl a) h l

begins : (rs : List Range) (s : List ℕ) → sound rs ≡ true → Fits rs (take (agree rs s) s ++ lows (drop (agree rs s) rs))
begins [] s e = none
begins (a ‥ z ∷ rs) [] e = low_fits (a ‥ z ∷ rs) e
begins (a ‥ z ∷ rs) (b ∷ s) e =
    let x = both (leb a z) (sound rs) e in
    begin_at a z rs b s (within (a ‥ z) b) refl (leb-true a z x.0) (low_fits rs x.1) (begins rs s x.1)

abbrev all_sound : List (List Range) → Bool
all_sound [] = true
all_sound (row ∷ rows) = sound row && all_sound rows

sound_at : {row : List Range} {rows : List (List Range)} → Among row rows → all_sound rows ≡ true → sound row ≡ true
sound_at {row} (here {rows}) e = (both (sound row) (all_sound rows) e).0
sound_at (there {other} {rows} m) e = sound_at m (both (sound other) (all_sound rows) e).1

initial-at : (row : List Range) (b : ℕ) (s : List ℕ) → ((n : ℕ) → length row ≡ suc n → Among row table × (leads row b ≡ true))
    → (suc (agree (tail row) s) ≡ 1) ⊎ Begins (b ∷ take (agree (tail row) s) s)
initial-at [] b s f = inl refl
initial-at (a ‥ z ∷ rs) b s f =
    let p = f (length rs) refl in
    let i = inside a z b p.1 in
    let x = both (leb a z) (sound rs) (sound_at p.0 refl) in
    inr (record {
      rest = lows (drop (agree rs s) rs);
      is = record { row = a ‥ z ∷ rs; listed = p.0; fit = more i.0 i.1 (begins rs s x.1) };
    })

-- ---- nothing longer does

agree_more : {rs : List Range} (p q t : List ℕ) → Fits rs (p ++ q) → length p ≤ agree rs (p ++ t)
agree_more [] q t f = omega arith
agree_more (b ∷ p) q t (more h l f) = rw (is_inside h l) (omega (arith, agree_more p q t f))

longer_at : {b : ℕ} {row : List Range} (p q t : List ℕ) → Fits row (b ∷ p ++ q) → row_of b ≡ row → length p ≤ passed b (p ++ t)
unfolding passed
longer_at p q t (more h l f) e = rw e (agree_more p q t f)

longer : (b : ℕ) (s : List ℕ) (j : ℕ) → j ≤ length s → Begins (b ∷ take j s) → j ≤ passed b s
longer b s j h g =
    let l : length (take j s) ≡ j = length-take-le j s h in
    let m : length (take j s) ≤ passed b (take j s ++ drop j s) = longer_at (take j s) g.rest (drop j s) g.is.fit (found g.is.listed g.is.fit) in
    rw (l, take-append-drop j s) at m

ill_at : (b : ℕ) (s : List ℕ) → whole b s ≡ false → (k : ℕ) → Character (take k (b ∷ s)) → ⊥
ill_at b s w zero c = filled c
ill_at b s w (suc j) c =
    let e : whole b s ≡ true = rw (take-append-drop j s) at (reads (drop j s) c).is_whole in
    no (sym w ∙ e)

-- a part that is not whole is maximal
pub maximal : (b : ℕ) (s : List ℕ) → whole b s ≡ false → Maximal (b ∷ s) (suc (passed b s))
unfolding passed row_of
maximal b s w =
    record {
      some = omega arith;
      inside = omega (arith, passed_inside b s);
      ill = ill_at b s w;
      initial = initial-at (row_of b) b s (picked table b);
      longest = longest_at;
    }
  where
    longest_at : (k : ℕ) → suc (passed b s) < k → k ≤ length (b ∷ s) → Begins (take k (b ∷ s)) → ⊥
    longest_at zero h l g = omega arith
    longest_at (suc j) h l g = omega (arith, longer b s j (omega arith) g)

-- ---- and there is one

one_longer : {s : List ℕ} {n m : ℕ} → Maximal s n → Maximal s m → n < m → ⊥
one_longer {s} {n} {m} a b h = by b.initial
  where
    by : (m ≡ 1) ⊎ Begins (take m s) → ⊥
    by (inl e) = omega (arith, a.some)
    by (inr g) = a.longest m h b.inside g

one_at : {s : List ℕ} {n m : ℕ} → Maximal s n → Maximal s m → (n < m) ⊎ (m ≤ n) → (m < n) ⊎ (n ≤ m) → n ≡ m
one_at a b (inl h) _ = absurd (one_longer a b h)
one_at a b (inr _) (inl h) = absurd (one_longer b a h)
one_at a b (inr h) (inr l) = omega arith

pub one_maximal : {s : List ℕ} {n m : ℕ} → Maximal s n → Maximal s m → n ≡ m
one_maximal {n} {m} a b = one_at a b (split n m) (split m n)
