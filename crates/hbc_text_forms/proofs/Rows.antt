-- Laws of the table: the rows' first bytes rise, so a first byte has one row.
use Prim.Native.Nat.{ℕ, suc, ◌≤◌}
use mathlib.Core.Path.{◌≡◌, refl, sym, ap, ◌∙◌}
use mathlib.Core.List.{List, [], ◌∷◌, ◌++◌}
use mathlib.Core.Bool.{Bool, true, false, cond, ◌&&◌, and-false}
use native.Mathlib.Omega.{arith}
use lib.ListN.{length, take}
use lib.Dec.{leb, lit≤}
use borrow.Author.Tests.{leb-true, lt-leb, eq-eqb}
use Rattle.hbc_text_forms.specs.Utf8.{Range, ◌‥◌, table, Fits, none, more, Among, here, there, Character, within, leads, pick, row_of, tail, agree, passed, whole}
use Rattle.hbc_text_forms.proofs.Laws.{both, no, inside, is_inside}

-- ---- bytes that agree with ranges, and bytes that fit them

fit_at : (a z : ℕ) (rs : List Range) (b : ℕ) (s : List ℕ) (w : Bool) → within (a ‥ z) b ≡ w → cond w (suc (agree rs s)) 0 ≡ suc (length rs)
    → (agree rs s ≡ length rs → Fits rs (take (length rs) s)) → Fits (a ‥ z ∷ rs) (b ∷ take (length rs) s)
fit_at a z rs b s true e h f = let i = inside a z b e in more i.0 i.1 (f (omega arith))
fit_at a z rs b s false e h f = let q : ◌≡◌ {A = ℕ} 0 (suc (length rs)) = h in absurd (omega arith)

pub agreed : (rs : List Range) (s : List ℕ) → agree rs s ≡ length rs → Fits rs (take (length rs) s)
agreed [] s e = none
agreed (r ∷ rs) [] e = let q : ◌≡◌ {A = ℕ} 0 (suc (length rs)) = e in absurd (omega arith)
agreed (a ‥ z ∷ rs) (b ∷ s) e = fit_at a z rs b s (within (a ‥ z) b) refl e (agreed rs s)

pub fit_length : {rs : List Range} {c : List ℕ} → Fits rs c → length c ≡ length rs
fit_length none = refl
fit_length (more h l f) = ap suc (fit_length f)

pub fit_agrees : {rs : List Range} {c : List ℕ} → Fits rs c → (s : List ℕ) → agree rs (c ++ s) ≡ length rs
fit_agrees none s = refl
fit_agrees (more h l f) s = rw (is_inside h l) (ap suc (fit_agrees f s))

agree_room : (r : Range) (rs : List Range) (b : ℕ) (s : List ℕ) (w : Bool) → agree rs s ≤ length s → cond w (suc (agree rs s)) 0 ≤ suc (length s)
agree_room r rs b s true h = omega arith
agree_room r rs b s false h = omega arith

agree_inside : (rs : List Range) (s : List ℕ) → agree rs s ≤ length s
agree_inside [] s = omega arith
agree_inside (r ∷ rs) [] = lit≤ tt
agree_inside (r ∷ rs) (b ∷ s) = agree_room r rs b s (within r b) (agree_inside rs s)

-- a part does not pass the end
pub passed_inside : (b : ℕ) (s : List ℕ) → passed b s ≤ length s
unfolding passed
passed_inside b s = agree_inside (tail (row_of b)) s

-- ---- the row of a first byte

pick_at : (row : List Range) (rows : List (List Range)) (b n : ℕ) (w : Bool) → leads row b ≡ w → length (cond w row (pick rows b)) ≡ suc n
    → (length (pick rows b) ≡ suc n → Among (pick rows b) rows × (leads (pick rows b) b ≡ true))
    → Among (cond w row (pick rows b)) (row ∷ rows) × (leads (cond w row (pick rows b)) b ≡ true)
pick_at row rows b n true e h f = (here, e)
pick_at row rows b n false e h f = (there (f h).0, (f h).1)

pub picked : (rows : List (List Range)) (b n : ℕ) → length (pick rows b) ≡ suc n → Among (pick rows b) rows × (leads (pick rows b) b ≡ true)
picked [] b n e = let q : ◌≡◌ {A = ℕ} 0 (suc n) = e in absurd (omega arith)
picked (row ∷ rows) b n e = pick_at row rows b n (leads row b) refl e (picked rows b n)

-- first bytes from k up, each row's above the one before
abbrev rising : ℕ → List (List Range) → Bool
rising k [] = true
rising k ([] ∷ rows) = false
rising k ((a ‥ z ∷ rs) ∷ rows) = leb k a && (leb a z && rising (suc z) rows)

rises : (k a z : ℕ) (q : Bool) → (leb k a && (leb a z && q)) ≡ true → (k ≤ a) × (a ≤ z) × (q ≡ true)
rises k a z q e =
    let x = both (leb k a) (leb a z && q) e in
    let y = both (leb a z) q x.1 in
    (leb-true k a x.0, leb-true a z y.0, y.1)

above : (k : ℕ) {b : ℕ} {row : List Range} {rows : List (List Range)} {c : List ℕ} → Among row rows → rising k rows ≡ true → Fits row (b ∷ c) → k ≤ b
above k (here {rows}) e (more {a} {z} h l f) = let r : (k ≤ a) × (a ≤ z) × (rising (suc z) rows ≡ true) = rises k a z _ e in omega arith
above k (there {other = []} m) e f = no e
above k (there {other = a ‥ z ∷ rs} {rows} m) e f =
    let r : (k ≤ a) × (a ≤ z) × (rising (suc z) rows ≡ true) = rises k a z (rising (suc z) rows) e in
    omega (arith, above (suc z) m r.2 f)

found_at : (k : ℕ) {b : ℕ} {row : List Range} {rows : List (List Range)} {c : List ℕ} → Among row rows → rising k rows ≡ true → Fits row (b ∷ c) → pick rows b ≡ row
found_at k here e (more h l f) = rw (is_inside h l)
found_at k (there {other = []} m) e f = no e
found_at k {b} (there {other = a ‥ z ∷ rs} {rows} m) e f =
    let r : (k ≤ a) × (a ≤ z) × (rising (suc z) rows ≡ true) = rises k a z (rising (suc z) rows) e in
    rw (lt-leb b z (above (suc z) m r.2 f), and-false) (found_at (suc z) m r.2 f)

pub found : {b : ℕ} {row : List Range} {c : List ℕ} → Among row table → Fits row (b ∷ c) → row_of b ≡ row
unfolding row_of
found m f = found_at 0 m refl f

filled_at : (k : ℕ) {row : List Range} {rows : List (List Range)} → Among row rows → rising k rows ≡ true → Fits row [] → ⊥
filled_at k here e none = no e
filled_at k (there {other = []} m) e f = no e
filled_at k (there {other = a ‥ z ∷ rs} {rows} m) e f = filled_at (suc z) m (rises k a z (rising (suc z) rows) e).2 f

pub filled : Character [] → ⊥
filled c = filled_at 0 c.listed refl c.fit

-- ---- the part that a character's first byte begins is the character

pub record Reads (b : ℕ) (c s : List ℕ) : Type 0 where
  pub passes : passed b (c ++ s) ≡ length c
  pub is_whole : whole b (c ++ s) ≡ true

reads_at : {b : ℕ} {row : List Range} {c : List ℕ} → (s : List ℕ) → Fits row (b ∷ c) → row_of b ≡ row → Reads b c s
unfolding passed whole
reads_at s (more {rs} {c} h l f) e =
    record {
      passes = rw e (fit_agrees f s ∙ sym (fit_length f));
      is_whole = rw (e, fit_agrees f s) (eq-eqb (suc (length rs)) (suc (length rs)) refl);
    }

pub reads : {b : ℕ} {c : List ℕ} → (s : List ℕ) → Character (b ∷ c) → Reads b c s
reads s ch = reads_at s ch.fit (found ch.listed ch.fit)
