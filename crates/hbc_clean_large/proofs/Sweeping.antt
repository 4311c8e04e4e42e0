-- One pass over functions in order, all windows one after another, and the lowest function that comes of them.
use Prim.Native.Nat.{ℕ, ◌+◌, ◌-◌, ◌/◌, ◌≤◌, ◌<◌}
use mathlib.Core.Path.{◌≡◌, sym, subst}
use mathlib.Core.Bool.{true}
use mathlib.Core.List.{List}
use Rattle.std.specs.Prelude.{Option}
use native.Mathlib.Omega.{arith}
use lib.ListN.{length}
use Rattle.hbc_function_record.specs.declared.Layout.{Layout}
use Rattle.hbc_function_record.specs.Record.{large_of}
use Rattle.hbc_lowest.specs.Lowest.{lowest_of}
use Rattle.hbc_lowest.proofs.Laws.{lowest_is, lowest_none}
use Rattle.hbc_clean_large.specs.Large.{table_end, breaks_large}
use Rattle.hbc_clean_large.specs.Private.{is_large, place_in, spot_at, Share, slot, Later, Real, Least, Swept, Tidy, Early}
use Rattle.hbc_clean_large.proofs.Slots.{touch_back, share_back, near, slot_up, slot_small}
use Rattle.hbc_clean_large.proofs.Filling.{by_less}
use Rattle.hbc_clean_large.proofs.Grounds.{breaks_early, breaks_share, breaks_not}

module _ (layout : Layout) (f : ℕ → Option ℕ) (count : ℕ) where
  abbrev n : ℕ
  n = large_of layout

  real_first : (best : ℕ) → Real n f count best best
  real_first best = record { less = omega arith; other = λ h. absurd (omega (arith, h)) }

  real_then : {best low r : ℕ} → Real n f count best low → Real n f count low r → Real n f count best r
  real_then {best} {low} {r} p q = record {
    less = omega (arith, p.less, q.less);
    other = λ h. by_less r low q.other (λ l. let e : r ≡ low = omega (arith, l, q.less) in subst (Later n f count) (sym e) (p.other (omega (arith, h, e))));
  }

  pub swept_first : (from best : ℕ) → Swept n f from from count best best
  swept_first from best = record { real = real_first best; all = λ a b l h s x y z. absurd (z x y) }

  -- a window more, but for its last slot
  pub swept_next : {from to best low r : ℕ} → Swept n f from to count best low → Least n f to count low r → Swept n f from (to + 65535) count best r
  swept_next {from} {to} {best} {low} {r} p q = record {
    real = real_then p.real q.real;
    all = λ a b l h s x y z.
        let right = near layout s.touch in
        let left = near layout (touch_back s.touch) in
        let behind : (to ≤ slot n (place_in (f a)) → to ≤ slot n (place_in (f b)) → ⊥) → r ≤ a = λ w. let v = p.all a b l h s x y w in omega (arith, v, q.real.less) in
        by_less (slot n (place_in (f a))) to (λ w. behind (λ u v. omega (arith, w, u))) (λ w.
        by_less (slot n (place_in (f b))) to (λ o. behind (λ u v. omega (arith, o, v))) (λ o.
        by_less (slot n (place_in (f a))) (to + 65535)
        (λ u. q.all a b l h s (record { from = w; to = omega (arith, u) }) (record { from = o; to = omega (arith, u, left) })) (λ u.
        by_less (slot n (place_in (f b))) (to + 65535)
        (λ v. q.all a b l h s (record { from = w; to = omega (arith, v, right) }) (record { from = o; to = omega (arith, v) })) (λ v.
        absurd (z u v)))));
  }

  -- no function is below the first
  pub swept_zero : {from to best r : ℕ} → r ≡ 0 → Swept n f from to count best r → (end : ℕ) → Swept n f from end count best 0
  swept_zero {from} {to} {best} e p end = record {
    real = subst (Real n f count best) e p.real;
    all = λ a b l h s x y z. omega arith;
  }

  -- all places are behind the last window
  pub swept_all : {from to best r : ℕ} → Swept n f from to count best r → ((i : ℕ) → i < count → is_large (f i) ≡ true → slot n (place_in (f i)) < to) → (end : ℕ)
      → Swept n f from end count best r
  swept_all p h end = record {
    real = p.real;
    all = λ a b l k s x y z. p.all a b l k s x y (λ u v. let w = h b k s.other in omega (arith, v, w));
  }

  -- ---- functions in rising order

  -- so far each starts at or after the end, and all end at or before `floor`
  pub record Rising (end i floor : ℕ) : Type 0 where
    pub up : end ≤ floor
    pub late : (k : ℕ) → k < i → is_large (f k) ≡ true → end ≤ place_in (f k)
    pub ends : (k : ℕ) → k < i → is_large (f k) ≡ true → place_in (f k) + n ≤ floor
    pub apart : (a b : ℕ) → a < b → b < i → Share n f a b → ⊥

-- ---- the first that starts before the end

module _ (f : ℕ → Option ℕ) (end count : ℕ) where
  pub record NotEarly (i : ℕ) : Type 0 where
    pub late : (k : ℕ) → k < i → is_large (f k) ≡ true → end ≤ place_in (f k)

-- ---- the lowest

module _ (s : List ℕ) (layout : Layout) (start count : ℕ) where
  abbrev spots : ℕ → Option ℕ
  spots = spot_at s layout start

  abbrev end : ℕ
  end = table_end layout start count

  pub tidy_none : Tidy (large_of layout) spots end count → count ≡ lowest_of (breaks_large s layout start count) count
  tidy_none p = lowest_none _ (record {
    not = λ i l. breaks_not s layout start count i (p.late i l)
        (λ j h d q. by_less i j (λ m. p.apart i j m h q) (λ m. p.apart j i (omega (arith, m, d)) l (share_back q)));
  })

  pub lowest_early : {e : ℕ} → e ≡ 0 → Early spots end count e → 0 ≡ lowest_of (breaks_large s layout start count) count
  lowest_early {e} z p =
      let q = subst (Early spots end count) z p in
      lowest_is (breaks_large s layout start count) (record {
        most = omega arith;
        so = λ l. breaks_early s layout start count 0 (q.so l).0 (q.so l).1;
        not = λ i l. absurd (omega (arith, l));
      })

  module _ {e r : ℕ} (p : Early spots end count e) (q : Swept (large_of layout) spots (end / large_of layout - 1) (length s) count e r)
      (short : (i : ℕ) → i < count → is_large (spots i) ≡ true → place_in (spots i) < length s) where
    most : r ≤ count
    most = omega (arith, p.most, q.real.less)

    so : r < count → breaks_large s layout start count r ≡ true
    so l = by_less r e
        (λ h. let x = q.real.other h in
        breaks_share s layout start count r x.index x.below (λ z. omega (arith, z, x.after)) x.share)
        (λ h. let z : r ≡ e = omega (arith, h, q.real.less) in
        let y = p.so (omega (arith, l, z)) in
        breaks_early s layout start count r (subst (λ (j : ℕ). is_large (spots j) ≡ true) (sym z) y.0)
        (subst (λ (j : ℕ). place_in (spots j) < end) (sym z) y.1))

    -- a pair whose lower function is below r, and so does not start before the end
    none_below : (a b : ℕ) → a < b → b < count → a < r → Share (large_of layout) spots a b → ⊥
    none_below a b l h m x =
        let late = p.not a (omega (arith, m, q.real.less)) x.one in
        let own = slot_up layout late in
        let beside = near layout x.touch in
        let last = short b h x.other in
        let z = q.all a b l h x (omega (arith, own)) (omega (arith, own, beside)) (λ u v. omega (arith, v, slot_small layout (place_in (spots b)), last)) in
        omega (arith, z, m)

    pub lowest_large : r ≡ lowest_of (breaks_large s layout start count) count
    lowest_large = lowest_is _ (record {
      most = most;
      so = so;
      not = λ i l. breaks_not s layout start count i (p.not i (omega (arith, l, q.real.less)))
          (λ j h d x. by_less i j (λ m. none_below i j m h l x)
          (λ m. none_below j i (omega (arith, m, d)) (omega (arith, l, most)) (omega (arith, m, d, l)) (share_back x)));
    })
