-- The two ways a layout's number goes, and that a call by one leaves one number and one value for the words.
use Prim.Native.Nat.{ℕ}
use mathlib.Core.Path.{◌≡◌, refl, sym, ◌∙◌}
use mathlib.Core.Bool.{Bool, true, false, cond}
use Rattle.std.specs.Prelude.{Result, Ok, Err}
use native.Mathlib.Omega.{arith}
use lib.Dec.{eqb}
use borrow.Author.Tests.{eqb-true, eqb-false}
use Rattle.hbc_io.specs.Outcome.{refusal_at}
use Rattle.hbc_function_record.specs.declared.Layout.{Layout}
use Rattle.hbc_function_record.specs.declared.Layout.TheVariants as lay
use Rattle.hbc_c_code.specs.Code.{code_of}
use Rattle.hbc_function_record.specs.declared.UnknownLayout.{UnknownLayout}
use Rattle.hbc_function_record.specs.Row.{layout_of}
use Rattle.hbc_c_function.specs.Function.{ByLayout}

module _ {W : Type 0} {n : ℕ} {P : Layout → ℕ → W → Type 0} {before : W} {r : ℕ} where
  pub by_legacy : {after : W} → n ≡ 0 → P lay.Legacy16 r after → ByLayout n P before r after
  by_legacy e p = record { legacy = λ f. p; modern = λ f. absurd (omega arith); malformed = λ f g. absurd (f e) }

  pub by_modern : {after : W} → n ≡ 1 → P lay.Modern12 r after → ByLayout n P before r after
  by_modern e p = record { legacy = λ f. absurd (omega arith); modern = λ f. p; malformed = λ f g. absurd (g e) }

  pub by_none : (n ≡ 0 → ⊥) → (n ≡ 1 → ⊥) → r ≡ code_of (refusal_at 12 0) → ByLayout n P before r before
  by_none f g e = record { legacy = λ h. absurd (f h); modern = λ h. absurd (g h); malformed = λ a b. (e, refl) }

-- by the layout that a number is of
module _ {W : Type 0} (n : ℕ) (P : Layout → ℕ → W → Type 0) (before : W) {r : ℕ} where
  pub by_some : {l : Layout} {after : W} → layout_of n ≡ Ok l → P l r after → ByLayout n P before r after
  by_some {l} {after} g p = by (eqb n 0) (eqb n 1) refl refl g
    where
      by : (x y : Bool) → eqb n 0 ≡ x → eqb n 1 ≡ y → cond {A = Result Layout UnknownLayout} x (Ok lay.Legacy16) (cond y (Ok lay.Modern12) (Err (record { number = n }))) ≡ Ok l → ByLayout n P before r after
      by true y e f g = let q : l ≡ lay.Legacy16 = cc in by_legacy (eqb-true n 0 e) (rw q at p)
      by false true e f g = let q : l ≡ lay.Modern12 = cc in by_modern (eqb-true n 1 f) (rw q at p)
      by false false e f g = absurd (cc)

  pub by_other : {e : UnknownLayout} → layout_of n ≡ Err e → r ≡ code_of (refusal_at 12 0) → ByLayout n P before r before
  by_other {e} g p = by (eqb n 0) (eqb n 1) refl refl g
    where
      by : (x y : Bool) → eqb n 0 ≡ x → eqb n 1 ≡ y → cond {A = Result Layout UnknownLayout} x (Ok lay.Legacy16) (cond y (Ok lay.Modern12) (Err (record { number = n }))) ≡ Err e → ByLayout n P before r before
      by true y a b g = absurd (cc)
      by false true a b g = absurd (cc)
      by false false a b g = by_none (eqb-false n 0 a) (eqb-false n 1 b) p

-- what follows for every layout, and where there is none, follows
pub by_layout : {W : Type 0} {P : Layout → ℕ → W → Type 0} {n : ℕ} {before : W} {r : ℕ} {after : W} {G : Type 0}
    → ((l : Layout) → P l r after → G) → ((r ≡ code_of (refusal_at 12 0)) × (after ≡ before) → G) → ByLayout n P before r after → G
by_layout {n = n} {G = G} some none v = by (eqb n 0) refl (eqb n 1) refl
  where
    by : (x : Bool) → eqb n 0 ≡ x → (y : Bool) → eqb n 1 ≡ y → G
    by true e y f = some lay.Legacy16 (v.legacy (eqb-true n 0 e))
    by false e true f = some lay.Modern12 (v.modern (eqb-true n 1 f))
    by false e false f = none (v.malformed (eqb-false n 0 e) (eqb-false n 1 f))

pub alone_by : {W : Type 0} {P : Layout → ℕ → W → Type 0} {n : ℕ} {before : W} {r q : ℕ} {after later : W}
    → ((l : Layout) → P l r after → P l q later → (r ≡ q) × (after ≡ later)) → ByLayout n P before r after → ByLayout n P before q later
    → (r ≡ q) × (after ≡ later)
alone_by {n = n} {r = r} {q} {after} {later} one v w = by (eqb n 0) refl (eqb n 1) refl
  where
    by : (x : Bool) → eqb n 0 ≡ x → (y : Bool) → eqb n 1 ≡ y → (r ≡ q) × (after ≡ later)
    by true e y f = let h = eqb-true n 0 e in one lay.Legacy16 (v.legacy h) (w.legacy h)
    by false e true f = let h = eqb-true n 1 f in one lay.Modern12 (v.modern h) (w.modern h)
    by false e false f =
        let a = v.malformed (eqb-false n 0 e) (eqb-false n 1 f) in
        let b = w.malformed (eqb-false n 0 e) (eqb-false n 1 f) in
        (a.0 ∙ sym b.0, a.1 ∙ sym b.1)
