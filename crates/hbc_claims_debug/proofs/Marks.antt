-- Every number of the list was read somewhere, so that its mark says whether its answer is DWARF's; and the mark of all says it of each.
use mathlib.Core.Path.{◌≡◌, refl, sym, ap, ◌∙◌, subst}
use mathlib.Core.Bool.{Bool, true, false, ◌&&◌}
use mathlib.Core.List.{List, [], ◌∷◌, ◌++◌}
use Prim.Native.Nat.{ℕ, zero, suc}
use native.Mathlib.Omega.{arith}
use lib.ListN.{length}
use Rattle.hbc_io.specs.Outcome.{Outcome, got, refused, cursor_at}
use Rattle.hbc_io.specs.declared.Cursor.{Cursor}
use Rattle.hbc_io_leb.specs.Leb.{leb_bytes}
use Rattle.hbc_io_leb.specs.Signed.{sleb_at}
use Rattle.hbc_io_leb.specs.Numbers.{Number, unsigned, signed, exact, and_next, no_more}
use Rattle.hbc_io_strings.specs.Strings.{prefixed}
use Rattle.hbc_debug_parts.specs.Along.{along, onward, every}
use Rattle.hbc_debug_parts.proofs.Along.{every_more, every_both}
use Rattle.hbc_debug_strings.specs.Strings.{prefix_number, string_numbers}
use Rattle.hbc_debug_scopes.specs.Scopes.{Front, front_at, scope_at, front_numbers, name_number, numbers_at, scope_numbers}
use Rattle.hbc_debug_pairs.specs.Pairs.{pair_at, counter_at, pair_numbers}
use Rattle.hbc_debug_callees.specs.Callees.{callee_numbers}
use Rattle.hbc_debug.specs.Debug.{Contents, string_count, numbers_read, all_exact}
use Rattle.hbc_claims_io.proofs.Leb128.{mark_tells}
use Rattle.hbc_claims_debug.specs.Marks.{IsDwarf, Among, Lost, Told}

abbrev bytes_in : Number → List ℕ
bytes_in (unsigned bs) = bs
bytes_in (signed bs) = bs

-- its bytes were read at a cursor of some input
record Was (x : Number) : Type 0 where
  input : List ℕ
  from : Cursor
  end : Cursor
  is : leb_bytes input from ≡ got (bytes_in x) end

-- ---- all that is listed was read

unfoldable Each : List Number → Type 0
Each [] = Unit {0}
Each (x ∷ xs) = Was x × Each xs

each_none : Each []
unfolding Each
each_none = tt

each_both : (xs ys : List Number) → Each xs → Each ys → Each (xs ++ ys)
unfolding Each
each_both [] ys a b = b
each_both (x ∷ xs) ys a b = (a.0, each_both xs ys a.1 b)

each_next : (taken : List ℕ → Number) → ((bs : List ℕ) → bytes_in (taken bs) ≡ bs) → (s : List ℕ) (c : Cursor) (more : Cursor → List Number) → ((n : Cursor) → Each (more n))
    → Each (and_next taken (leb_bytes s c) more)
unfolding Each
each_next taken t s c more h = go (leb_bytes s c) refl
  where
    go : (o : Outcome (List ℕ)) → leb_bytes s c ≡ o → Each (and_next taken o more)
    go (got bs n) e = (record { input = s; from = c; end = n; is = rw (t bs) e }, h n)
    go (refused r n) e = tt

each_onward : {A : Type 0} (o : Outcome A) (more : A → Cursor → List Number) → ((v : A) (n : Cursor) → Each (more v n)) → Each (onward o more)
each_onward (got v n) more h = h v n
each_onward (refused r n) more h = each_none

each_along : {A : Type 0} (f : Cursor → Outcome A) (g : Cursor → List Number) → ((c : Cursor) → Each (g c)) → (k : ℕ) (c : Cursor) → Each (along f g k c)
unfolding along
each_along f g h zero c = each_none
each_along f g h (suc k) c = each_both (g c) (onward (f c) (λ v n. along f g k n)) (h c) (each_onward (f c) (λ v n. along f g k n) (λ v n. each_along f g h k n))

module _ (s : List ℕ) where
  one_signed : (c : Cursor) (more : Cursor → List Number) → ((n : Cursor) → Each (more n)) → Each (and_next signed (leb_bytes s c) more)
  one_signed c more h = each_next signed (λ bs. refl) s c more h

  last_signed : (c : Cursor) → Each (and_next signed (leb_bytes s c) no_more)
  last_signed c = one_signed c no_more (λ n. each_none)

  two_signed : (c : Cursor) → Each (and_next signed (leb_bytes s c) (λ n. and_next signed (leb_bytes s n) no_more))
  two_signed c = one_signed c (λ n. and_next signed (leb_bytes s n) no_more) last_signed

  front_each : (c : Cursor) → Each (front_numbers s c)
  unfolding front_numbers
  front_each c = one_signed c (λ n. and_next signed (leb_bytes s n) (λ m. and_next signed (leb_bytes s m) no_more)) two_signed

  name_each : (c : Cursor) → Each (name_number s c)
  unfolding name_number
  name_each c = last_signed c

  scope_each : (c : Cursor) → Each (numbers_at s c)
  unfolding numbers_at
  scope_each c =
      let names : Front → Cursor → List Number = λ h n. along (sleb_at s) (name_number s) h.count n in
      each_both (front_numbers s c) (onward (front_at s c) names) (front_each c)
      (each_onward (front_at s c) names (λ h n. each_along (sleb_at s) (name_number s) name_each h.count n))

  scopes_each : Each (scope_numbers s)
  unfolding scope_numbers
  scopes_each = each_along (scope_at s) (numbers_at s) scope_each (length s) (cursor_at 0)

  pair_each : (c : Cursor) → Each (pair_numbers s c)
  unfolding pair_numbers
  pair_each c = two_signed c

  callees_each : (n : ℕ) → Each (callee_numbers n s)
  unfolding callee_numbers
  callees_each n =
      each_both (and_next signed (leb_bytes s (cursor_at 0)) no_more) (along (pair_at n s) (pair_numbers s) (counter_at s).count (cursor_at (counter_at s).at))
      (last_signed (cursor_at 0)) (each_along (pair_at n s) (pair_numbers s) pair_each (counter_at s).count (cursor_at (counter_at s).at))

  prefix_each : (c : Cursor) → Each (prefix_number s c)
  unfolding prefix_number
  prefix_each c = each_next unsigned (λ bs. refl) s c no_more (λ n. each_none)

  strings_each : Each (string_numbers s)
  unfolding string_numbers
  strings_each = each_along (prefixed s) (prefix_number s) prefix_each (length s) (cursor_at 0)

read_each : (b : Contents) → Each (numbers_read b)
unfolding numbers_read
read_each b =
    each_both (scope_numbers b.scopes) (callee_numbers (string_count b) b.callees ++ string_numbers b.strings) (scopes_each b.scopes)
    (each_both (callee_numbers (string_count b) b.callees) (string_numbers b.strings) (callees_each b.callees (string_count b)) (strings_each b.strings))

-- ---- one number

number_exact : (x : Number) → Was x → exact x ≡ true → IsDwarf x
unfolding exact
number_exact (unsigned bs) w e = (mark_tells bs w.input w.from w.end w.is).unsigned.holds e
number_exact (signed bs) w e = (mark_tells bs w.input w.from w.end w.is).signed.holds e

number_only : (x : Number) → Was x → IsDwarf x → exact x ≡ true
unfolding exact
number_only (unsigned bs) w e = (mark_tells bs w.input w.from w.end w.is).unsigned.only e
number_only (signed bs) w e = (mark_tells bs w.input w.from w.end w.is).signed.only e

-- ---- and all

never : {P : Type 0} → false ≡ true → P
never e = let z : ◌≡◌ {A = ℕ} 0 1 = cc in absurd (omega arith)

both_true : (a b : Bool) → a && b ≡ true → (a ≡ true) × (b ≡ true)
both_true true b e = (refl, e)
both_true false b e = never e

there : (ys zs : List Number) (x : Number) → Each (ys ++ x ∷ zs) → every exact (ys ++ x ∷ zs) ≡ true → Was x × (exact x ≡ true)
unfolding Each
there [] zs x w e = (w.0, (both_true (exact x) (every exact zs) (sym (every_more exact x zs) ∙ e)).0)
there (y ∷ ys) zs x w e = there ys zs x w.1 (both_true (exact y) (every exact (ys ++ x ∷ zs)) (sym (every_more exact y (ys ++ x ∷ zs)) ∙ e)).1

lost_in : (xs : List Number) → Each xs → every exact xs ≡ false → Lost xs
unfolding every Each
lost_in [] w e = never (sym e)
lost_in (x ∷ xs) w e = go (exact x) refl e (λ h. lost_in xs w.1 h)
  where
    on : Lost xs → Lost (x ∷ xs)
    on l = record {
      number = l.number;
      among = record { before = x ∷ l.among.before; behind = l.among.behind; is = ap (λ (ys : List Number). x ∷ ys) l.among.is };
      other = l.other;
    }

    go : (a : Bool) → exact x ≡ a → a && every exact xs ≡ false → (every exact xs ≡ false → Lost xs) → Lost (x ∷ xs)
    go false f h more = record { number = x; among = record { before = []; behind = xs; is = refl }; other = λ d. never (sym f ∙ number_only x w.0 d) }
    go true f h more = on (more h)

told_of : (xs : List Number) → Each xs → (e : Bool) → e ≡ every exact xs → Told e xs
told_of xs w e f = record {
  exact = λ t x a. let p = there a.before a.behind x (subst Each a.is w) (ap (every exact) (sym a.is) ∙ sym f ∙ t) in number_exact x p.0 p.1;
  only = λ h. only e f h;
  lost = λ t. lost_in xs w (sym f ∙ t);
}
  where
    only : (a : Bool) → a ≡ every exact xs → ((x : Number) → Among xs x → IsDwarf x) → a ≡ true
    only true g h = refl
    only false g h = let l = lost_in xs w (sym g) in absurd (l.other (h l.number l.among))

-- the mark of the section
pub told : (b : Contents) {e : Bool} → e ≡ all_exact b → Told e (numbers_read b)
unfolding all_exact
told b {e} f = told_of (numbers_read b) (read_each b) e f
