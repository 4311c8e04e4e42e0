-- The values of units are what the one way of pairing them gives.
use Prim.Native.Nat.{ℕ, suc, ◌+◌, ◌-◌, ◌/◌, ◌%◌, ◌≤◌, ◌<◌}
use mathlib.Core.Path.{◌≡◌, refl, sym, ◌∙◌}
use mathlib.Core.Logic.{◌⊎◌, inl, inr}
use mathlib.Core.List.{List, [], ◌∷◌, ◌++◌}
use mathlib.Core.Bool.{Bool, true, false, cond, ◌&&◌}
use native.Mathlib.Nat.{add-zero}
use native.Mathlib.Omega.{arith}
use lib.ListN.{length, get_or}
use lib.Dec.{leb, lit≤, lit<}
use borrow.Author.Tests.{leb-true, le-leb, lt-ltb, le-ltb}
use Rattle.hbc_text_forms.specs.Scalars.{Scalar, Scalars, none, more}
use Rattle.hbc_text_forms.specs.Utf16.{is_high, is_low, is_surrogate, pair_of, alone, scalars, units_of, units_all, High, Low, Surrogate, Pair, high_low, Paired, nothing, pair, lone, unit}
use Rattle.hbc_text_forms.proofs.Laws.{both, no}
use Rattle.hbc_text_forms.proofs.Codes.{split}

-- ---- the tests

is_high_lem : {u : ℕ} → High u → is_high u ≡ true
is_high_lem {u} h = rw (le-leb 0xD800 u h.0, le-leb u 0xDBFF h.1)

high : {u : ℕ} → is_high u ≡ true → High u
high {u} e = let x = both (leb 0xD800 u) (leb u 0xDBFF) e in (leb-true 0xD800 u x.0, leb-true u 0xDBFF x.1)

is_low_lem : {u : ℕ} → Low u → is_low u ≡ true
is_low_lem {u} h = rw (le-leb 0xDC00 u h.0, le-leb u 0xDFFF h.1)

low : {u : ℕ} → is_low u ≡ true → Low u
low {u} e = let x = both (leb 0xDC00 u) (leb u 0xDFFF) e in (leb-true 0xDC00 u x.0, leb-true u 0xDFFF x.1)

is_surrogate_lem : {u : ℕ} → Surrogate u → is_surrogate u ≡ true
is_surrogate_lem {u} (inl h) = rw (le-leb 0xD800 u h.0, le-leb u 0xDFFF (omega (arith, h.1)))
is_surrogate_lem {u} (inr h) = rw (le-leb 0xD800 u (omega (arith, h.0)), le-leb u 0xDFFF h.1)

halves : {u : ℕ} → 0xD800 ≤ u → u ≤ 0xDFFF → (u < 0xDC00) ⊎ (0xDC00 ≤ u) → Surrogate u
halves l h (inl a) = inl (l, omega arith)
halves l h (inr a) = inr (a, h)

surrogate : {u : ℕ} → is_surrogate u ≡ true → Surrogate u
surrogate {u} e = let x = both (leb 0xD800 u) (leb u 0xDFFF) e in halves (leb-true 0xD800 u x.0) (leb-true u 0xDFFF x.1) (split u 0xDC00)

not_by : (b : Bool) → (b ≡ true → ⊥) → b ≡ false
not_by true f = absurd (f refl)
not_by false f = refl

-- ---- lone surrogates counted along the values

unfoldable pub lone_at : ℕ → ℕ
lone_at u = cond (is_surrogate u) 1 0

unfoldable pub lones : List ℕ → ℕ
lones [] = 0
lones (u ∷ []) = lone_at u
lones (u ∷ v ∷ us) = cond (is_high u && is_low v) (lones us) (lone_at u + lones (v ∷ us))

-- a unit that is not the first of a pair
no_pair : {u v : ℕ} {us : List ℕ} → (Pair (u ∷ v ∷ us) → ⊥) → (is_high u && is_low v) ≡ false
no_pair {u} {v} f = not_by (is_high u && is_low v) (λ e. let x = both (is_high u) (is_low v) e in f (high_low (high x.0) (low x.1)))

apart_count : (u : ℕ) (us : List ℕ) → (Pair (u ∷ us) → ⊥) → lones (u ∷ us) ≡ lone_at u + lones us
unfolding lones
apart_count u [] f = omega arith
apart_count u (v ∷ us) f = rw (no_pair f)

apart_values : (u : ℕ) (us : List ℕ) → (Pair (u ∷ us) → ⊥) → scalars (u ∷ us) ≡ alone u ∷ scalars us
unfolding scalars
apart_values u [] f = refl
apart_values u (v ∷ us) f = rw (no_pair f)

-- ---- any pairing is the one

pub record Is (us : List ℕ) (n : ℕ) (cs : List ℕ) : Type 0 where
  pub count : n ≡ lones us
  pub values : cs ≡ scalars us

no_first : {u : ℕ} {us : List ℕ} → (Surrogate u → ⊥) → Pair (u ∷ us) → ⊥
no_first f (high_low h l) = f (inl h)

single : {u n : ℕ} {us cs : List ℕ} → (w : Bool) → is_surrogate u ≡ w → (Pair (u ∷ us) → ⊥) → Is us n cs → Is (u ∷ us) (cond w 1 0 + n) (cond w 0xFFFD u ∷ cs)
unfolding lone_at alone
single {u} {us} w e f i = record { count = rw (apart_count u us f, e, i.count); values = rw (apart_values u us f, e, i.values) }

pub only : {us cs : List ℕ} {n : ℕ} → Paired us n cs → Is us n cs
unfolding lones scalars
only nothing = record { count = refl; values = refl }
only (pair {h} {l} p q w) =
    let i = only w in
    let e : (is_high h && is_low l) ≡ true = rw (is_high_lem p, is_low_lem q) in
    record { count = rw e i.count; values = rw (e, i.values) }
only (lone {n} f w) =
    let z : 1 + n ≡ suc n = omega arith in
    rw z at (single true (is_surrogate_lem f.surrogate) f.unpaired (only w))
only (unit {u} {n} f w) =
    let e : is_surrogate u ≡ false = not_by (is_surrogate u) (λ s. f (surrogate s)) in
    let z : 0 + n ≡ n = omega arith in
    rw z at (single false e (no_first f) (only w))

-- ---- there is one

lone_or_unit : {u n : ℕ} {us cs : List ℕ} → (w : Bool) → is_surrogate u ≡ w → (Pair (u ∷ us) → ⊥) → Paired us n cs
    → Paired (u ∷ us) (cond w 1 0 + n) (cond w 0xFFFD u ∷ cs)
lone_or_unit {n} true e f q =
    let z : 1 + n ≡ suc n = omega arith in
    rw z (lone (record { surrogate = surrogate e; unpaired = f }) q)
lone_or_unit {n} false e f q =
    let z : 0 + n ≡ n = omega arith in
    rw z (unit (λ s. no (sym e ∙ is_surrogate_lem s)) q)

pair_or_not : (u v : ℕ) (us : List ℕ) (w : Bool) → (is_high u && is_low v) ≡ w → Paired us (lones us) (scalars us) → Paired (v ∷ us) (lones (v ∷ us)) (scalars (v ∷ us))
    → Paired (u ∷ v ∷ us) (cond w (lones us) (lone_at u + lones (v ∷ us))) (cond w (pair_of u v ∷ scalars us) (alone u ∷ scalars (v ∷ us)))
unfolding lone_at alone
pair_or_not u v us true e p q = let x = both (is_high u) (is_low v) e in pair (high x.0) (low x.1) p
pair_or_not u v us false e p q = lone_or_unit (is_surrogate u) refl none q
  where
    none : Pair (u ∷ v ∷ us) → ⊥
    none (high_low h l) = no (sym e ∙ rw (is_high_lem h, is_low_lem l))

one_unit : {us : List ℕ} → Pair us → length us ≤ 1 → ⊥
one_unit (high_low h l) e = omega arith

last : (u : ℕ) → Paired (u ∷ []) (lone_at u) (alone u ∷ [])
unfolding lone_at alone
last u =
    let z : cond (is_surrogate u) 1 0 + 0 ≡ cond (is_surrogate u) 1 0 = add-zero _ in
    rw z at (lone_or_unit {u = u} (is_surrogate u) refl (λ p. one_unit p (lit≤ tt)) nothing)

pub paired : (us : List ℕ) → Paired us (lones us) (scalars us)
unfolding lones scalars
paired [] = nothing
paired (u ∷ []) = last u
paired (u ∷ v ∷ us) = pair_or_not u v us (is_high u && is_low v) refl (paired us) (paired (v ∷ us))

-- ---- the UTF-16 of scalar values has no lone surrogate

pair_is : (x : ℕ) → x < 0x100000 → pair_of (0xD800 + x / 1024) (0xDC00 + x % 1024) ≡ 0x10000 + x
unfolding pair_of
pair_is x h = omega arith

no_surrogate : {c : ℕ} → Scalar c → Surrogate c → ⊥
no_surrogate (inl h) (inl s) = omega (arith, s.0)
no_surrogate (inl h) (inr s) = omega (arith, s.0)
no_surrogate (inr h) (inl s) = omega (arith, s.1, h.0)
no_surrogate (inr h) (inr s) = omega (arith, s.1, h.0)

past_units : {c : ℕ} → Scalar c → 0x10000 ≤ c → c < 0x110000
past_units (inl h) l = omega arith
past_units (inr h) l = h.1

scalar_paired : (c : ℕ) {us cs : List ℕ} → Scalar c → (c < 0x10000) ⊎ (0x10000 ≤ c) → Paired us 0 cs → Paired (units_of c ++ us) 0 (c ∷ cs)
unfolding units_of
scalar_paired c h (inl l) q = rw (lt-ltb c 0x10000 l) (unit (no_surrogate h) q)
scalar_paired c h (inr l) q =
    let m : c < 0x110000 = past_units h l in
    let e : pair_of (0xD800 + (c - 0x10000) / 1024) (0xDC00 + (c - 0x10000) % 1024) ≡ c = pair_is (c - 0x10000) (omega arith) ∙ omega arith in
    let x : High (0xD800 + (c - 0x10000) / 1024) = (omega arith, omega arith) in
    let y : Low (0xDC00 + (c - 0x10000) % 1024) = (omega arith, omega arith) in
    rw (le-ltb c 0x10000 l) (rw e at (pair {h = 0xD800 + (c - 0x10000) / 1024} {l = 0xDC00 + (c - 0x10000) % 1024} x y q))

pub units_paired : {cs : List ℕ} → Scalars cs → Paired (units_all cs) 0 cs
unfolding units_all
units_paired none = nothing
units_paired (more {c} h hs) = scalar_paired c h (split c 0x10000) (units_paired hs)

-- ---- and units without one are the UTF-16 of their values

unit_scalar : {u : ℕ} → (Surrogate u → ⊥) → u < 0x10000 → (u < 0xD800) ⊎ (0xD800 ≤ u) → (u < 0xE000) ⊎ (0xE000 ≤ u) → Scalar u
unit_scalar f h (inl a) _ = inl a
unit_scalar f h (inr a) (inr b) = inr (b, omega arith)
unit_scalar {u} f h (inr a) (inl b) = absurd (f (halves a (omega arith) (split u 0xDC00)))

pair_scalar : {h l : ℕ} → High h → Low l → Scalar (pair_of h l)
unfolding pair_of
pair_scalar p q = inr (omega arith, omega (arith, p.1, q.1))

-- whatever is lone among them, the values are scalar values
pub values_scalars : {us cs : List ℕ} {n : ℕ} → Paired us n cs → ((i : ℕ) → get_or us i 0 < 0x10000) → Scalars cs
values_scalars nothing b = none
values_scalars (pair p q w) b = more (pair_scalar p q) (values_scalars w (λ i. b (suc (suc i))))
values_scalars (lone f w) b = more (inr (lit≤ tt, lit< tt)) (values_scalars w (λ i. b (suc i)))
values_scalars (unit {u} f w) b = more (unit_scalar f (b 0) (split u 0xD800) (split u 0xE000)) (values_scalars w (λ i. b (suc i)))

pair_units : {h l : ℕ} (us : List ℕ) → High h → Low l → units_of (pair_of h l) ++ us ≡ h ∷ l ∷ us
unfolding units_of pair_of
pair_units {h} {l} us p q =
    let x : 0xD800 + (pair_of h l - 0x10000) / 1024 ≡ h = omega (arith, p.0, p.1, q.0, q.1) in
    let y : 0xDC00 + (pair_of h l - 0x10000) % 1024 ≡ l = omega (arith, p.0, p.1, q.0, q.1) in
    rw (le-ltb (pair_of h l) 0x10000 (omega arith), x, y)

pub paired_units : {us cs : List ℕ} {n : ℕ} → Paired us n cs → n ≡ 0 → ((i : ℕ) → get_or us i 0 < 0x10000) → units_all cs ≡ us
unfolding units_all units_of
paired_units nothing z b = refl
paired_units (pair {us} {cs} p q w) z b = pair_units (units_all cs) p q ∙ rw (paired_units w z (λ i. b (suc (suc i))))
paired_units (lone f w) z b = absurd (omega arith)
paired_units (unit {u} f w) z b = rw (lt-ltb u 0x10000 (b 0), paired_units w z (λ i. b (suc i)))
