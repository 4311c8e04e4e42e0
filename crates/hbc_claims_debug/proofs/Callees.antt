-- The rows of a part have the meaning of their entries, and two lists with one meaning are one.
use mathlib.Core.Path.{◌≡◌, refl, sym, ap, ◌∙◌}
use mathlib.Core.Bool.{Bool, true, false, cond}
use mathlib.Core.List.{List, [], ◌∷◌, ◌++◌}
use Prim.Native.Nat.{ℕ, zero, suc, ◌≤◌, ◌<◌}
use native.Mathlib.Omega.{arith}
use Rattle.std.specs.Prelude.{Option, None, Some}
use borrow.Author.Tests.{eqb-true, eqb-false, eq-eqb}
use lib.Dec.{eqb}
use Rattle.hbc_debug_pairs.specs.Pairs.{addresses}
use Rattle.hbc_debug_pairs.specs.declared.Pair.{Pair}
use Rattle.hbc_debug_rising.specs.Rising.{Found, none, name, Callee, callee_if, rising_below, if_known, last_name, after1}
use Rattle.hbc_debug_callees.specs.Callees.{callees_of, pairs_of}
use Rattle.hbc_claims_law.specs.Terms.{Either, left, right}
use Rattle.hbc_claims_debug.specs.Callees.{Between, Row, Silent, Names, Last, Rows, CalleesRead}

-- ---- the last name

none_some : {k : ℕ} → None ≡ Some k → ⊥
none_some e = let z : ◌≡◌ {A = ℕ} 0 1 = cc in absurd (omega arith)

silent_keeps : (a : ℕ) (f : Found) (ps : List Pair) → Silent a ps → last_name a f ps ≡ f
unfolding last_name after1
silent_keeps a f [] h = refl
silent_keeps a f (p ∷ ps) h = go p.name refl (eqb p.address a) refl (silent_keeps a f ps h.1)
  where
    go : (o : Option ℕ) → p.name ≡ o → (t : Bool) → eqb p.address a ≡ t → last_name a f ps ≡ f → last_name a (if_known o t f) ps ≡ f
    go None u t v w = w
    go (Some k) u false v w = w
    go (Some k) u true v w = absurd (h.0 k u (eqb-true p.address a v))

named_now : (a k : ℕ) (f : Found) (p : Pair) → Names a k p → after1 a f p ≡ name k
unfolding after1
named_now a k f p n = rw (n.name, eq-eqb p.address a n.address)

last_is : (a k : ℕ) (f : Found) (ps : List Pair) → Last a k ps → last_name a f ps ≡ name k
unfolding last_name
last_is a k f [] h = elim h [ ]
last_is a k f (p ∷ ps) (left h) = ap (λ (x : Found). last_name a x ps) (named_now a k f p h.0) ∙ silent_keeps a (name k) ps h.1
last_is a k f (p ∷ ps) (right l) = last_is a k (after1 a f p) ps l

same_name : {j k : ℕ} → name j ≡ name k → Some j ≡ Some k
same_name e = cc

is_last : (a k : ℕ) (f : Found) (ps : List Pair) → last_name a f ps ≡ name k → Either (Last a k ps) ((f ≡ name k) × Silent a ps)
unfolding last_name after1
is_last a k f [] e = right (e, tt)
is_last a k f (p ∷ ps) e = go p.name refl (eqb p.address a) refl (is_last a k (if_known p.name (eqb p.address a) f) ps e)
  where
    go : (o : Option ℕ) → p.name ≡ o → (t : Bool) → eqb p.address a ≡ t
        → Either (Last a k ps) ((if_known o t f ≡ name k) × Silent a ps) → Either (Last a k (p ∷ ps)) ((f ≡ name k) × Silent a (p ∷ ps))
    go o u t v (left l) = left (right l)
    go None u t v (right r) = right (r.0, ((λ j x y. absurd (none_some (sym u ∙ x))), r.1))
    go (Some j) u false v (right r) = right (r.0, ((λ w x y. eqb-false p.address a v y), r.1))
    go (Some j) u true v (right r) = left (left (record { address = eqb-true p.address a v; name = u ∙ same_name r.0 }, r.1))

-- ---- the rows

snoc_between : (lo a : ℕ) (f : Found) (xs : List Callee) → Between lo a xs → Between lo (suc a) (xs ++ callee_if a f)
snoc_between lo a none [] h = omega arith
snoc_between lo a (name k) [] h = (h, omega arith)
snoc_between lo a f (x ∷ xs) h = (h.0, snoc_between (suc x.address) a f xs h.1)

row_left : (x : Callee) (xs ys : List Callee) → Row x xs → Row x (xs ++ ys)
row_left x [] ys r = elim r [ ]
row_left x (y ∷ xs) ys (left e) = left e
row_left x (y ∷ xs) ys (right r) = right (row_left x xs ys r)

row_right : (x : Callee) (xs ys : List Callee) → Row x ys → Row x (xs ++ ys)
row_right x [] ys r = r
row_right x (y ∷ xs) ys r = right (row_right x xs ys r)

row_either : (x : Callee) (xs ys : List Callee) → Row x (xs ++ ys) → Either (Row x xs) (Row x ys)
row_either x [] ys r = right r
row_either x (y ∷ xs) ys (left e) = left (left e)
row_either x (y ∷ xs) ys (right r) = go (row_either x xs ys r)
  where
    go : Either (Row x xs) (Row x ys) → Either (Row x (y ∷ xs)) (Row x ys)
    go (left l) = left (right l)
    go (right q) = right q

module _ (g : ℕ → Found) where
  below_between : (hi : ℕ) → Between 0 hi (rising_below g hi)
  unfolding rising_below
  below_between zero = omega arith
  below_between (suc a) = snoc_between 0 a (g a) (rising_below g a) (below_between a)

  one_row : (x : Callee) (a : ℕ) (f : Found) → f ≡ g a → Row x (callee_if a f) → g x.address ≡ name x.name
  one_row x a none e r = elim r [ ]
  one_row x a (name k) e (right q) = elim q [ ]
  one_row x a (name k) e (left u) =
      let v : x.address ≡ a = ap (λ (y : Callee). y.address) u in
      let w : x.name ≡ k = ap (λ (y : Callee). y.name) u in
      rw (v, w) (sym e)

  row_named : (hi : ℕ) (x : Callee) → Row x (rising_below g hi) → g x.address ≡ name x.name
  unfolding rising_below
  row_named zero x r = elim r [ ]
  row_named (suc a) x r = go (row_either x (rising_below g a) (callee_if a (g a)) r) (λ l. row_named a x l)
    where
      go : Either (Row x (rising_below g a)) (Row x (callee_if a (g a))) → (Row x (rising_below g a) → g x.address ≡ name x.name) → g x.address ≡ name x.name
      go (left l) more = more l
      go (right q) more = one_row x a (g a) refl q

  lt_of : (a b : ℕ) → (a ≡ b → ⊥) → a < suc b → a < b
  lt_of a b n l = omega arith

  named_row : (hi a k : ℕ) → a < hi → g a ≡ name k → Row (record { address = a; name = k }) (rising_below g hi)
  unfolding rising_below
  named_row zero a k h e = absurd (omega arith)
  named_row (suc b) a k h e = go (eqb a b) refl (λ l. named_row b a k l e)
    where
      go : (t : Bool) → eqb a b ≡ t → (a < b → Row (record { address = a; name = k }) (rising_below g b)) → Row (record { address = a; name = k }) (rising_below g b ++ callee_if b (g b))
      go true u more =
          let v : a ≡ b = eqb-true a b u in
          let w : g b ≡ name k = ap g (sym v) ∙ e in
          row_right (record { address = a; name = k }) (rising_below g b) (callee_if b (g b)) (rw w (left (ap (λ (y : ℕ). record { address = y; name = k }) v)))
      go false u more =
          row_left (record { address = a; name = k }) (rising_below g b) (callee_if b (g b)) (more (lt_of a b (λ x. eqb-false a b u x) h))

-- the rows of a part are those that its entries have
callees_are : (n : ℕ) (s : List ℕ) → Rows (pairs_of n s) (callees_of n s)
unfolding callees_of
callees_are n s =
    record {
      rising = below_between (λ (a : ℕ). last_name a none (pairs_of n s)) addresses;
      named = λ x r. go x (is_last x.address x.name none (pairs_of n s) (row_named (λ (a : ℕ). last_name a none (pairs_of n s)) addresses x r));
      all = λ a k h l. named_row (λ (b : ℕ). last_name b none (pairs_of n s)) addresses a k h (last_is a k none (pairs_of n s) l);
    }
  where
    go : (x : Callee) → Either (Last x.address x.name (pairs_of n s)) ((none ≡ name x.name) × Silent x.address (pairs_of n s)) → Last x.address x.name (pairs_of n s)
    go x (left l) = l
    go x (right r) = let z : ◌≡◌ {A = ℕ} 0 1 = cc in absurd (omega arith)

-- ---- nothing else has that meaning

between_le : (lo hi : ℕ) (xs : List Callee) → Between lo hi xs → lo ≤ hi
between_le lo hi [] h = h
between_le lo hi (x ∷ xs) h = let t = between_le (suc x.address) hi xs h.1 in omega (arith, h.0)

row_from : (lo hi : ℕ) (x : Callee) (xs : List Callee) → Between lo hi xs → Row x xs → (lo ≤ x.address) × (x.address < hi)
row_from lo hi x [] b r = elim r [ ]
row_from lo hi x (y ∷ ys) b (left e) =
    let v : x.address ≡ y.address = ap (λ (z : Callee). z.address) e in
    let t = between_le (suc y.address) hi ys b.1 in
    (omega (arith, b.0), omega arith)
row_from lo hi x (y ∷ ys) b (right r) =
    let w = row_from (suc y.address) hi x ys b.1 r in
    (omega (arith, b.0, w.0), w.1)

module _ (hi : ℕ) (x y : Callee) (xs ys : List Callee) (b : Between (suc x.address) hi xs) where
  same_head : Between (suc y.address) hi ys → Either (x ≡ y) (Row x ys) → Either (y ≡ x) (Row y xs) → x ≡ y
  same_head d (left e) q = e
  same_head d (right r) (left e) = sym e
  same_head d (right r) (right s) =
      let u = row_from (suc y.address) hi x ys d r in
      let v = row_from (suc x.address) hi y xs b s in
      absurd (omega (arith, u.0, v.0))

  in_tail : x ≡ y → (z : Callee) → Row z xs → Either (z ≡ y) (Row z ys) → Row z ys
  in_tail e z r (right q) = q
  in_tail e z r (left u) =
      let v = row_from (suc x.address) hi z xs b r in
      let w : z.address ≡ x.address = ap (λ (t : Callee). t.address) (u ∙ sym e) in
      absurd (omega (arith, v.0))

same_rows : (lo hi : ℕ) (xs ys : List Callee) → Between lo hi xs → Between lo hi ys → ((x : Callee) → Row x xs → Row x ys) → ((x : Callee) → Row x ys → Row x xs) → xs ≡ ys
same_rows lo hi [] [] b d f g = refl
same_rows lo hi [] (y ∷ ys) b d f g = absurd (g y (left refl))
same_rows lo hi (x ∷ xs) [] b d f g = absurd (f x (left refl))
same_rows lo hi (x ∷ xs) (y ∷ ys) b d f g =
    let e : x ≡ y = same_head hi x y xs ys b.1 d.1 (f x (left refl)) (g y (left refl)) in
    let d' : Between (suc x.address) hi ys = rw e d.1 in
    let t : xs ≡ ys = same_rows (suc x.address) hi xs ys b.1 d'
    (λ z r. in_tail hi x y xs ys b.1 e z r (f z (right r)))
    (λ z r. in_tail hi y x ys xs d.1 (sym e) z r (g z (right r))) in
    rw (e, t)

-- entries have one list of rows
rows_one : (ps : List Pair) (xs ys : List Callee) → Rows ps xs → Rows ps ys → xs ≡ ys
rows_one ps xs ys a b =
    same_rows 0 addresses xs ys a.rising b.rising
    (λ x r. b.all x.address x.name (row_from 0 addresses x xs a.rising r).1 (a.named x r))
    (λ x r. a.all x.address x.name (row_from 0 addresses x ys b.rising r).1 (b.named x r))

pub callees_read : (n : ℕ) (s : List ℕ) → CalleesRead n s
callees_read n s = record { rows = callees_are n s; one = λ xs v. rows_one (pairs_of n s) xs (callees_of n s) v (callees_are n s) }
