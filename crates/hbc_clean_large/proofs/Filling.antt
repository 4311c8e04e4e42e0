-- One function more of a window, and all windows.
use Prim.Native.Nat.{ℕ, zero, suc, ◌+◌, ◌-◌, ◌*◌, ◌≤◌, ◌<◌}
use mathlib.Core.Path.{◌≡◌, refl, sym, ap, ◌∙◌, subst}
use mathlib.Core.Logic.{◌⊎◌, inl, inr}
use mathlib.Core.Bool.{true}
use mathlib.Core.List.{List}
use Rattle.std.specs.Prelude.{Option, Some, None}
use Rattle.hbc_lowest.proofs.Laws.{truth_clash}
use native.Mathlib.Omega.{arith}
use native.Mathlib.Decide.{dec_lt}
use lib.ListN.{length, get_or, set, length-set, replicate, length-replicate}
use lib.Seq.{get_or-set_same, get_or-set_other}
use Rattle.hbc_rows.specs.Rows.{entry_at}
use Rattle.hbc_io.specs.Outcome.{limit}
use Rattle.hbc_function_record.specs.declared.Layout.{Layout}
use Rattle.hbc_function_record.specs.Record.{large_of}
use Rattle.hbc_clean_large.specs.Private.{is_large, place_in, spot_at, Here, Readable, Touch, Share, slot, slots, Starts, Nearer, Filled, Within, Later, Real, Least, Looked}
use Rattle.hbc_clean_large.proofs.Slots.{touch_back, near, together, slot_below, slot_above}

pub by_less : {R : Type 0} (i j : ℕ) → (i < j → R) → (j ≤ i → R) → R
by_less {R} i j f g = by (dec_lt i j)
  where
    by : Dec (i < j) → R
    by (yes l) = f l
    by (no l) = g (omega (arith, l))

pub by_same : {R : Type 0} (i j : ℕ) → (i ≡ j → R) → ((i ≡ j → ⊥) → R) → R
by_same i j f g = by_less i j (λ l. g (λ e. omega (arith, l, e))) (λ l. by_less j i (λ h. g (λ e. omega (arith, h, e))) (λ h. f (omega (arith, l, h))))

-- word k is 0, or one more than a number
pub by_word : {R : Type 0} (w : ℕ) → (w ≡ 0 → R) → ((v : ℕ) → w ≡ v + 1 → R) → R
by_word w f g = by_less 0 w (λ l. g (w - 1) (omega (arith, l))) (λ l. f (omega (arith, l)))

module _ (layout : Layout) (f : ℕ → Option ℕ) (first i : ℕ) (t : List ℕ) where
  abbrev n : ℕ
  n = large_of layout

  later_on : {r : ℕ} → Later n f i r → Later n f (i + 1) r
  later_on q = record { index = q.index; after = q.after; below = omega (arith, q.below); share = q.share }

  -- ---- a function that does not start in the window, or has no large header

  module _ (out : (k : ℕ) → k < slots → Starts n f (first + k) i → ⊥) where
    pub filled_skip : Filled n f first i t → Filled n f first (i + 1) t
    filled_skip p = record {
      long = p.long;
      free = λ k l e j h s. by_same j i (λ q. out k l (subst (Starts n f (first + k)) q s)) (λ q. p.free k l e j (omega (arith, h, q)) s);
      kept = λ k v e. (omega (arith, (p.kept k v e).0), (p.kept k v e).1);
      lowest = p.lowest;
    }

    pub least_skip : (best low : ℕ) → Least n f first i best low → Least n f first (i + 1) best low
    least_skip best low p = record {
      real = record {
        less = p.real.less;
        other = λ h. later_on (p.real.other h);
      };
      all = λ a b l h s x y.
          by_same b i
          (λ e. absurd (out (slot n (place_in (f b)) - first) (omega (arith, y.to, y.from))
          (subst (Starts n f (first + (slot n (place_in (f b)) - first))) e (record { large = s.other; slot = omega (arith, y.from) }))))
          (λ e. p.all a b l (omega (arith, h, e)) s x y);
    }

  -- ---- one that does

  module _ {k place : ℕ} (long : k < slots) (has_large : is_large (f i) ≡ true) (is-place : place_in (f i) ≡ place) (here : slot n place ≡ first + k) where
    starts : Starts n f (first + k) i
    starts = record { large = has_large; slot = ap (slot n) is-place ∙ here }

    only : (m j : ℕ) → j ≡ i → Starts n f (first + m) j → m ≡ k
    only m j e s = let q = (subst (Starts n f (first + m)) e s).slot in omega (arith, q, starts.slot)

    pub filled_kept : (entry_at t k ≡ 0 → ⊥) → Filled n f first i t → Filled n f first (i + 1) t
    filled_kept z p = record {
      long = p.long;
      free = λ m l e j h s. by_same j i (λ q. z (subst (λ (x : ℕ). entry_at t x ≡ 0) (only m j q s) e)) (λ q. p.free m l e j (omega (arith, h, q)) s);
      kept = λ m v e. (omega (arith, (p.kept m v e).0), (p.kept m v e).1);
      lowest = p.lowest;
    }

    pub filled_new : entry_at t k ≡ 0 → Filled n f first i t → Filled n f first (i + 1) (set t k (i + 1))
    unfolding entry_at
    filled_new z p = record {
      long = length-set t k (i + 1) ∙ p.long;
      free = λ m l e j h s. by_same m k
          (λ q. absurd (omega (arith, sym (ap (entry_at t') q) ∙ e, new)))
          (λ q. by_same j i (λ x. q (only m j x s)) (λ x. p.free m l (sym (other m q) ∙ e) j (omega (arith, h, x)) s));
      kept = λ m v e. by_same m k
          (λ q. let x : v ≡ i = omega (arith, sym (ap (entry_at t') q) ∙ e, new) in
          (omega (arith, x), subst (λ (y : ℕ). Starts n f (first + y) v) (sym q) (subst (Starts n f (first + k)) (sym x) starts)))
          (λ q. let y = p.kept m v (sym (other m q) ∙ e) in (omega (arith, y.0), y.1));
      lowest = λ m v e j l s. by_same m k
          (λ q. let x : v ≡ i = omega (arith, sym (ap (entry_at t') q) ∙ e, new) in
          p.free k long z j (omega (arith, l, x)) (subst (λ (y : ℕ). Starts n f (first + y) j) q s))
          (λ q. p.lowest m v (sym (other m q) ∙ e) j l s);
    }
      where
        t' : List ℕ
        t' = set t k (i + 1)

        new : entry_at t' k ≡ i + 1
        new = get_or-set_same t k (i + 1) 0 (omega (arith, long, p.long))

        other : (m : ℕ) → (m ≡ k → ⊥) → entry_at t' m ≡ entry_at t m
        other m e = get_or-set_other t k m (i + 1) 0 e

    -- the three slots that were looked at
    module _ {low own left right before : ℕ} (p : Filled n f first i t) (before-is : (0 < k → before ≡ k - 1) × (k ≡ 0 → before ≡ slots))
        (at_own : Nearer n f (entry_at t k) place low own) (at_left : Nearer n f (entry_at t before) place own left)
        (at_right : Nearer n f (entry_at t (k + 1)) place left right) where
      pub least_down : right ≤ low
      least_down = omega (arith, at_own.less, at_left.less, at_right.less)

      shared : (m v : ℕ) → entry_at t m ≡ v + 1 → Touch n (place_in (f v)) place → (v < i) × Share n f v i
      shared m v e x =
          let y = p.kept m v e in
          (y.0, record { one = y.1.large; other = has_large; touch = subst (Touch n (place_in (f v))) (sym is-place) x })

      by_kept : (m v : ℕ) → entry_at t m ≡ v + 1 → Touch n (place_in (f v)) place → Later n f (i + 1) v
      by_kept m v e x = let y = shared m v e x in record { index = i; after = y.0; below = omega arith; share = y.1 }

      found_other : (best : ℕ) → Real n f i best low → right < best → Later n f (i + 1) right
      found_other best q h =
          by_less right left (λ l. let x = at_right.real l in by_kept (k + 1) right x.0 x.1) (λ l.
          let e : right ≡ left = omega (arith, l, at_right.less) in
          by_less left own (λ m. let x = at_left.real m in subst (Later n f (i + 1)) (sym e) (by_kept before left x.0 x.1)) (λ m.
          let d : right ≡ own = omega (arith, e, m, at_left.less) in
          by_less own low (λ o. let x = at_own.real o in subst (Later n f (i + 1)) (sym d) (by_kept k own x.0 x.1)) (λ o.
          let z : right ≡ low = omega (arith, d, o, at_own.less) in
          subst (Later n f (i + 1)) (sym z) (later_on (q.other (omega (arith, h, z)))))))

      -- the first function of a slot that was looked at, which shares a byte with this one
      reached : (m v : ℕ) → entry_at t m ≡ v + 1 → (m ≡ k) ⊎ ((m ≡ before) ⊎ (m ≡ k + 1)) → Touch n (place_in (f v)) place → right ≤ v
      reached m v e (inl q) x = let y = at_own.found v (sym (ap (entry_at t) q) ∙ e) x in omega (arith, y, at_left.less, at_right.less)
      reached m v e (inr (inl q)) x = let y = at_left.found v (sym (ap (entry_at t) q) ∙ e) x in omega (arith, y, at_right.less)
      reached m v e (inr (inr q)) x = at_right.found v (sym (ap (entry_at t) q) ∙ e) x

      beside : (m : ℕ) → m ≤ k + 1 → k ≤ m + 1 → (m ≡ k) ⊎ ((m ≡ before) ⊎ (m ≡ k + 1))
      beside m l h =
          by_same m k inl (λ d. by_same m (k + 1) (λ e. inr (inr e)) (λ e. inr (inl (let z = before-is.0 (omega (arith, h, l, d, e)) in omega (arith, z, h, l, d, e)))))

      look_all : (best : ℕ) → Least n f first i best low → (a : ℕ) → a < i → Share n f a i → Within n first (place_in (f a)) → right ≤ a
      look_all best q a l s y =
          let x : Touch n (place_in (f a)) place = subst (Touch n (place_in (f a))) is-place s.touch in
          let m = slot n (place_in (f a)) - first in
          let in_slot : slot n (place_in (f a)) ≡ first + m = omega (arith, y.from) in
          let a_starts : Starts n f (first + m) a = record { large = s.one; slot = in_slot } in
          let m_long : m < slots = omega (arith, y.to, y.from) in
          let right_of = near layout x in
          let left_of = near layout (touch_back x) in
          let where_m = beside m (omega (arith, right_of, here, in_slot)) (omega (arith, left_of, here, in_slot)) in
          by_word (entry_at t m) (λ z. absurd (p.free m m_long z a l a_starts)) (λ v e.
          let kept = p.kept m v e in
          by_same v a (λ same. let z = reached m v e where_m (subst (λ (j : ℕ). Touch n (place_in (f j)) place) (sym same) x) in omega (arith, z, same)) (λ other.
          by_less a v (λ lower. absurd (p.lowest m v e a lower a_starts)) (λ higher.
          let both : Touch n (place_in (f v)) (place_in (f a)) = together layout (kept.1.slot ∙ sym in_slot) in
          let pair : Share n f v a = record { one = kept.1.large; other = s.one; touch = both } in
          let v_in : Within n first (place_in (f v)) = record { from = omega (arith, kept.1.slot); to = omega (arith, kept.1.slot, m_long) } in
          let z = q.all v a (omega (arith, higher, other)) l pair v_in y in
          omega (arith, z, higher, least_down))))

      pub least_look : (best : ℕ) → Least n f first i best low → Least n f first (i + 1) best right
      least_look best q = record {
        real = record { less = omega (arith, least_down, q.real.less); other = found_other best q.real };
        all = λ a b l h s x y. by_same b i
            (λ e. look_all best q a (omega (arith, l, e)) (subst (Share n f a) e s) x)
            (λ e. let z = q.all a b l (omega (arith, h, e)) s x y in omega (arith, z, least_down));
      }

-- ---- the function that a slot keeps

-- what a slot keeps can be read
pub kept_here : {s : List ℕ} {layout : Layout} {start first i : ℕ} {t : List ℕ} {w : ℕ} (k : ℕ) → Readable s layout start (i + 1)
    → Filled (large_of layout) (spot_at s layout start) first i t → w ≡ entry_at t k → (v : ℕ) → w ≡ v + 1
    → Here s layout start v × (is_large (spot_at s layout start v) ≡ true)
kept_here k p q d v e = let y = q.kept k v (sym d ∙ e) in (p.each v (omega (arith, y.0)), y.1.large)

-- ---- what a look leaves

module _ (layout : Layout) (f : ℕ → Option ℕ) (first i low : ℕ) (t : List ℕ) {place : ℕ} (spot : f i ≡ Some place)
    (p : Filled (large_of layout) f first i t) where
  is-place : place_in (f i) ≡ place
  is-place = ap place_in spot

  looked_out : ((k : ℕ) → k < slots → Starts (large_of layout) f (first + k) i → ⊥) → Looked (large_of layout) f first i low low t
  looked_out out = record { fills = filled_skip layout f first i t out p; least = λ best. least_skip layout f first i t out best low }

  pub looked_before : slot (large_of layout) place < first → Looked (large_of layout) f first i low low t
  looked_before h = looked_out (λ k l s. let e = sym (ap (slot (large_of layout)) is-place) ∙ s.slot in omega (arith, e, h))

  pub looked_after : first ≤ slot (large_of layout) place → slots ≤ slot (large_of layout) place - first → Looked (large_of layout) f first i low low t
  looked_after g h = looked_out (λ k l s. let e = sym (ap (slot (large_of layout)) is-place) ∙ s.slot in omega (arith, e, g, h, l))

  module _ {k own left right before : ℕ} (from : first ≤ slot (large_of layout) place) (k-is : k ≡ slot (large_of layout) place - first)
      (long : k < slots) (before-is : (0 < k → before ≡ k - 1) × (k ≡ 0 → before ≡ slots)) (at_own : Nearer (large_of layout) f (entry_at t k) place low own)
      (at_left : Nearer (large_of layout) f (entry_at t before) place own left) (at_right : Nearer (large_of layout) f (entry_at t (k + 1)) place left right) where
    here : slot (large_of layout) place ≡ first + k
    here = omega (arith, from, k-is)

    pub looked_new : entry_at t k ≡ 0 → Looked (large_of layout) f first i low right (set t k (i + 1))
    looked_new z = record {
      fills = filled_new layout f first i t long (ap is_large spot) is-place here z p;
      least = least_look layout f first i t long (ap is_large spot) is-place here p before-is at_own at_left at_right;
    }

    pub looked_kept : (entry_at t k ≡ 0 → ⊥) → Looked (large_of layout) f first i low right t
    looked_kept z = record {
      fills = filled_kept layout f first i t long (ap is_large spot) is-place here z p;
      least = least_look layout f first i t long (ap is_large spot) is-place here p before-is at_own at_left at_right;
    }

-- the place of a large header that is in the file
pub place_low : {s : List ℕ} {layout : Layout} {start : ℕ} (i : ℕ) {place : ℕ} → Readable s layout start (i + 1) → spot_at s layout start i ≡ Some place
    → length s ≤ limit → place ≤ limit
place_low {s} {layout} {start} i {place} p e h =
    let q = (p.each i (omega arith)).large (ap is_large e) in
    let d : place_in (spot_at s layout start i) ≡ place = ap place_in e in
    omega (arith, q, d, h)

-- ---- a window from its first function to its last

zeros_at : (m k : ℕ) → ◌≡◌ {A = ℕ} (get_or (replicate m 0) k 0) 0
zeros_at zero k = refl
zeros_at (suc m) zero = refl
zeros_at (suc m) (suc k) = zeros_at m k

pub filled_first : (n : ℕ) (f : ℕ → Option ℕ) (first m : ℕ) → m ≡ slots → Filled n f first 0 (replicate m 0)
unfolding entry_at
filled_first n f first m d = record {
  long = length-replicate m 0 ∙ d;
  free = λ k l e j h. absurd (omega (arith, h));
  kept = λ k v e. let z : ◌≡◌ {A = ℕ} 0 (v + 1) = sym (zeros_at m k) ∙ e in absurd (omega (arith, z));
  lowest = λ k v e. let z : ◌≡◌ {A = ℕ} 0 (v + 1) = sym (zeros_at m k) ∙ e in absurd (omega (arith, z));
}

pub least_first : (n : ℕ) (f : ℕ → Option ℕ) (first best : ℕ) → Least n f first 0 best best
least_first n f first best = record {
  real = record { less = omega arith; other = λ h. absurd (omega (arith, h)) };
  all = λ a b l h. absurd (omega (arith, h));
}

-- a function with no large header, or whose large header does not start between the window's first byte and its end
module _ (layout : Layout) (f : ℕ → Option ℕ) (first i : ℕ) (t : List ℕ) (best low : ℕ) where
  window_skip : (is_large (f i) ≡ true → first * large_of layout ≤ place_in (f i) → (first + slots) * large_of layout ≤ place_in (f i))
      → Filled (large_of layout) f first i t × Least (large_of layout) f first i best low
      → Filled (large_of layout) f first (i + 1) t × Least (large_of layout) f first (i + 1) best low
  window_skip e p =
      let out : (k : ℕ) → k < slots → Starts (large_of layout) f (first + k) i → ⊥
      = λ k l s. by_less (place_in (f i)) (first * large_of layout)
      (λ h. let z = slot_below layout h in omega (arith, z, s.slot))
      (λ h. let z = slot_above layout (e s.large h) in omega (arith, z, s.slot, l)) in
      (filled_skip layout f first i t out p.0, least_skip layout f first i t out best low p.1)

  pub window_off : None ≡ f i → Filled (large_of layout) f first i t × Least (large_of layout) f first i best low
      → Filled (large_of layout) f first (i + 1) t × Least (large_of layout) f first (i + 1) best low
  window_off q p = window_skip (λ e h. absurd (truth_clash e (sym (ap is_large q)))) p

  module _ {size place : ℕ} (w : size ≡ large_of layout) (q : Some place ≡ f i) where
    place_is : place ≡ place_in (f i)
    place_is = ap place_in q

    pub window_before : place < first * size → Filled (large_of layout) f first i t × Least (large_of layout) f first i best low
        → Filled (large_of layout) f first (i + 1) t × Least (large_of layout) f first (i + 1) best low
    window_before l p = let y = rw w at l in window_skip (λ e h. absurd (omega (arith, y, h, place_is))) p

    pub window_past : (first + slots) * size ≤ place → Filled (large_of layout) f first i t × Least (large_of layout) f first i best low
        → Filled (large_of layout) f first (i + 1) t × Least (large_of layout) f first (i + 1) best low
    window_past l p = let y = rw w at l in window_skip (λ e h. omega (arith, y, place_is)) p
