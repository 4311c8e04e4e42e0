-- From what a function is read from to where its large header is: which functions can be read, and which break the rule.
use Prim.Native.Nat.{ℕ, ◌+◌, ◌≤◌, ◌<◌, min, max}
use mathlib.Core.Path.{◌≡◌, refl, sym, ap, ◌∙◌, subst}
use mathlib.Core.Bool.{Bool, true, false, cond}
use mathlib.Core.List.{List}
use Rattle.std.specs.Prelude.{Option, Some, None}
use native.Mathlib.Omega.{arith}
use native.Mathlib.Decide.{dec_lt}
use lib.ListN.{length}
use lib.Dec.{ltb, eqb}
use borrow.Author.Tests.{lt-ltb, le-ltb, ltb-true, ltb-false, ne_eqb, eqb-false}
use Rattle.hbc_io.specs.Answer.{Answer, gives, refuses, asked}
use Rattle.hbc_io.specs.Outcome.{limit}
use Rattle.hbc_io.specs.Lends.{below}
use Rattle.hbc_io.proofs.Exits.{not_given}
use Rattle.hbc_function_record.specs.declared.Layout.{Layout}
use Rattle.hbc_io.specs.Plain.{word_at}
use Rattle.hbc_io.proofs.Plains.{word_there}
use Rattle.hbc_function_record.specs.Record.{size_of, large_of, inline_of, link_of}
use Rattle.hbc_io.specs.declared.Refusal.{Refusal}
use Rattle.hbc_function_header.specs.declared.Ground.{Ground}
use Rattle.hbc_function_header.specs.declared.Ground.TheVariants as ground
use Rattle.hbc_function_header.specs.Header.{header_at, ground_by, ground_here, ground_of, ground_at, where_of, where_at, found, record_at, function_at, read_function, function_ground}
use Rattle.hbc_function_header.specs.Meets.{overlap}
use Rattle.hbc_lowest.proofs.Laws.{some_is, some_none, truth_clash}
use Rattle.hbc_clean_large.specs.Large.{table_end, early, shares, breaks_large}
use Rattle.hbc_function_header.proofs.Headers.{read_at}
use Rattle.hbc_clean_large.specs.Private.{spot_of, is_large, place_in, spot_at, Here, Readable, Touch, Share}

-- ---- a function that can be read

module _ (s : List ℕ) (layout : Layout) (at i : ℕ) where
  room_by : (place : ℕ) (a b : Bool) → ltb (length s) place ≡ a → ltb (length s) (place + large_of layout) ≡ b
      → asked (found s layout at i (where_of s (large_of layout) (Some (ground.Large at place)))) ≡ gives tt → place + large_of layout ≤ length s
  unfolding where_of below
  room_by place true b e f h = absurd (not_given (rw (e) at h))
  room_by place false true e f h = absurd (not_given (rw (e, f) at h))
  room_by place false false e f h = ltb-false (length s) (place + large_of layout) f

  large_room : (g : Option Ground) → asked (found s layout at i (where_of s (large_of layout) g)) ≡ gives tt → is_large (spot_of g) ≡ true → place_in (spot_of g) + large_of layout ≤ length s
  unfolding where_of
  large_room None h e = absurd (truth_clash e refl)
  large_room (Some (ground.Inline p)) h e = absurd (truth_clash e refl)
  large_room (Some (ground.Large p place)) h e = room_by place (ltb (length s) place) (ltb (length s) (place + large_of layout)) refl refl h

  own_by : (b : Bool) → ltb (length s) (at + size_of layout) ≡ b → asked (found s layout at i (where_at s layout at)) ≡ gives tt → at + size_of layout ≤ length s
  unfolding where_at where_of ground_of below
  own_by true e h = absurd (not_given (rw e at h))
  own_by false e h = ltb-false (length s) (at + size_of layout) e

pub here_by : (s : List ℕ) (layout : Layout) (start i : ℕ) → start ≤ length s → length s ≤ limit → gives tt ≡ asked (read_function s layout start i) → Here s layout start i
unfolding read_function function_at record_at where_at ground_at spot_at below
here_by s layout start i h l e =
    let q = sym (rw (le-ltb limit (length s) l, le-ltb (length s) start h) at e) in
    record {
      own = own_by s layout (header_at layout start i) i (ltb (length s) (header_at layout start i + size_of layout)) refl q;
      large = large_room s layout (header_at layout start i) i (ground_of s layout (header_at layout start i)) q;
    }

-- ---- two large headers

touch_overlap : (n p q : ℕ) → Touch n p q → overlap p n q (q + n) ≡ true
unfolding overlap
touch_overlap n p q t = lt-ltb (max p q) (min (p + n) (q + n)) (omega (arith, t.left, t.right))

overlap_touch : (n p q : ℕ) → overlap p n q (q + n) ≡ true → Touch n p q
unfolding overlap
overlap_touch n p q e = let h = ltb-true (max p q) (min (p + n) (q + n)) e in record { left = omega (arith, h); right = omega (arith, h) }

shares_true : (n : ℕ) (g h : Option Ground) → is_large (spot_of g) ≡ true → is_large (spot_of h) ≡ true → Touch n (place_in (spot_of g)) (place_in (spot_of h)) → shares n g h ≡ true
unfolding shares
shares_true n None h e f t = absurd (truth_clash e refl)
shares_true n (Some (ground.Inline a)) h e f t = absurd (truth_clash e refl)
shares_true n (Some (ground.Large a p)) None e f t = absurd (truth_clash f refl)
shares_true n (Some (ground.Large a p)) (Some (ground.Inline b)) e f t = absurd (truth_clash f refl)
shares_true n (Some (ground.Large a p)) (Some (ground.Large b q)) e f t = touch_overlap n p q t

shares_false : (n : ℕ) (g h : Option Ground) → (is_large (spot_of g) ≡ true → is_large (spot_of h) ≡ true → Touch n (place_in (spot_of g)) (place_in (spot_of h)) → ⊥) → shares n g h ≡ false
unfolding shares
shares_false n None h f = refl
shares_false n (Some (ground.Inline a)) h f = refl
shares_false n (Some (ground.Large a p)) None f = refl
shares_false n (Some (ground.Large a p)) (Some (ground.Inline b)) f = refl
shares_false n (Some (ground.Large a p)) (Some (ground.Large b q)) f = by (overlap p n q (q + n)) refl
  where
    by : (x : Bool) → overlap p n q (q + n) ≡ x → x ≡ false
    by true e = absurd (f refl refl (overlap_touch n p q e))
    by false e = refl

early_true : (end : ℕ) (g : Option Ground) → is_large (spot_of g) ≡ true → place_in (spot_of g) < end → early end g ≡ true
unfolding early
early_true end None e h = absurd (truth_clash e refl)
early_true end (Some (ground.Inline a)) e h = absurd (truth_clash e refl)
early_true end (Some (ground.Large a p)) e h = lt-ltb _ _ h

early_false : (end : ℕ) (g : Option Ground) → (is_large (spot_of g) ≡ true → end ≤ place_in (spot_of g)) → early end g ≡ false
unfolding early
early_false end None h = refl
early_false end (Some (ground.Inline a)) h = refl
early_false end (Some (ground.Large a p)) h = le-ltb p end (h refl)

-- ---- what breaks the rule

module _ (s : List ℕ) (layout : Layout) (start count : ℕ) where
  abbrev f : ℕ → Option ℕ
  f = spot_at s layout start

  pub breaks_early : (i : ℕ) → is_large (f i) ≡ true → place_in (f i) < table_end layout start count → breaks_large s layout start count i ≡ true
  unfolding breaks_large spot_at
  breaks_early i e h = rw (early_true (table_end layout start count) (ground_at s layout start i) e h)

  true_either : (x : Bool) {y : Bool} → y ≡ true → cond x true y ≡ true
  true_either true e = refl
  true_either false e = e

  pub breaks_share : (i j : ℕ) → j < count → (i ≡ j → ⊥) → Share (large_of layout) f i j → breaks_large s layout start count i ≡ true
  unfolding breaks_large spot_at
  breaks_share i j l d p =
      let e = shares_true (large_of layout) (ground_at s layout start i) (ground_at s layout start j) p.one p.other p.touch in
      true_either (early (table_end layout start count) (ground_at s layout start i)) (some_is _ count j l (rw (ne_eqb i j d) e))

  apart_by : (i j : ℕ) (b : Bool) → eqb i j ≡ b → ((i ≡ j → ⊥) → Share (large_of layout) f i j → ⊥)
      → cond b false (shares (large_of layout) (ground_at s layout start i) (ground_at s layout start j)) ≡ false
  unfolding spot_at
  apart_by i j true e p = refl
  apart_by i j false e p =
      shares_false (large_of layout) (ground_at s layout start i) (ground_at s layout start j)
      (λ a b t. p (eqb-false i j e) (record { one = a; other = b; touch = t }))

  pub breaks_not : (i : ℕ) → (is_large (f i) ≡ true → table_end layout start count ≤ place_in (f i))
      → ((j : ℕ) → j < count → (i ≡ j → ⊥) → Share (large_of layout) f i j → ⊥) → breaks_large s layout start count i ≡ false
  unfolding breaks_large spot_at
  breaks_not i h p =
      rw (early_false (table_end layout start count) (ground_at s layout start i) h)
      (some_none _ count (record { not = λ j l. apart_by i j (eqb i j) refl (p j l) }))

-- ---- what the reader finds of a function that can be read

-- where its header's link leads
linked : (at : ℕ) (l : Option ℕ) → l ≡ spot_of (Some (ground_by at l))
linked at None = refl
linked at (Some place) = refl

pub spot_link : (s : List ℕ) (layout : Layout) (start i : ℕ) → Here s layout start i
    → link_of (inline_of layout 0 (word_at (size_of layout) s (header_at layout start i))) ≡ spot_at s layout start i
unfolding spot_at ground_at ground_of below
spot_link s layout start i here =
    rw (word_there (size_of layout) s (header_at layout start i) here.own, le-ltb (length s) (header_at layout start i + size_of layout) here.own)
    (linked (header_at layout start i) _)

-- and the answer of the call
module _ (s : List ℕ) (layout : Layout) (start i : ℕ) (h : start ≤ length s) (l : length s ≤ limit) (here : Here s layout start i) where
  abbrev here_ground : Ground
  here_ground = ground_here s layout (header_at layout start i)

  ground_is : gives here_ground ≡ function_ground s layout start i
  unfolding function_ground below
  ground_is = rw (le-ltb limit (length s) l, le-ltb (length s) start h, le-ltb (length s) (header_at layout start i + size_of layout) here.own)

  spot_is : spot_of (Some here_ground) ≡ spot_at s layout start i
  spot_is = let at = header_at layout start i in let e = spot_link s layout start i here in sym (linked at _) ∙ (rw (word_there (size_of layout) s at here.own) at e)

  pub spot_got : (g : Ground) → gives g ≡ function_ground s layout start i → spot_of (Some g) ≡ spot_at s layout start i
  spot_got g e = let q : gives g ≡ gives here_ground = e ∙ sym ground_is in let z : g ≡ here_ground = cc in ap (λ (x : Ground). spot_of (Some x)) z ∙ spot_is

  pub spot_refused : {A : Type 0} {r : Refusal} → refuses r ≡ function_ground s layout start i → A
  spot_refused e = absurd (not_given (e ∙ sym ground_is))

-- ---- one function after another

pub readable_first : {s : List ℕ} {layout : Layout} {start : ℕ} → Readable s layout start 0
readable_first = record { each = λ i l. absurd (omega (arith, l)) }

pub readable_next : {s : List ℕ} {layout : Layout} {start i : ℕ} → Readable s layout start i → Here s layout start i → Readable s layout start (i + 1)
readable_next {s} {layout} {start} {i} p h = record { each = λ k l. by k l (dec_lt k i) }
  where
    by : (k : ℕ) → k < i + 1 → Dec (k < i) → Here s layout start k
    by k l (yes m) = p.each k m
    by k l (no m) = let z : i ≡ k = omega (arith, l, m) in subst (Here s layout start) z h

-- what the reader says of a function in a file that is opened
pub asked_at : (s : List ℕ) (layout : Layout) (start i : ℕ) {a : Answer (Unit {0})} → start ≤ length s → length s ≤ limit → a ≡ asked (read_function s layout start i)
    → a ≡ asked (function_at s layout start i)
asked_at s layout start i h l e = e ∙ ap asked (sym (read_at s layout start i l h))
