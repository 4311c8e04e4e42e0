-- The cases of Header's definitions, each from plain facts on numbers.
use Prim.Native.Nat.{ℕ, ◌+◌, ◌*◌, ◌^◌, ◌≤◌, ◌<◌}
use mathlib.Core.Path.{◌≡◌, refl, ap, sym, ◌∙◌, subst}
use mathlib.Core.List.{List}
use mathlib.Core.Bool.{Bool, true, false, cond}
use native.Mathlib.Omega.{arith}
use lib.ListN.{length}
use lib.Dec.{ltb}
use borrow.Author.Tests.{le-ltb, ltb-false, eq-eqb, ne_eqb}
use Rattle.std.specs.Prelude.{Option, Some, None, Result, Ok, Err}
use Rattle.hbc_io.specs.Outcome.{limit, refusal_at}
use Rattle.hbc_io.specs.Answer.{Answer, gives, refuses, refused_at, asked}
use Rattle.hbc_io.specs.Answers.{answered}
use Rattle.hbc_io.specs.Lends.{below, choose, written}
use Rattle.hbc_io.specs.Plain.{word_at}
use Rattle.hbc_io.specs.declared.Reason.{Reason}
use Rattle.hbc_io.specs.declared.Reason.TheVariants as reason
use Rattle.hbc_io.specs.declared.Refusal.{Refusal}
use Rattle.hbc_io.proofs.Exits.{reached, not_given, words}
use Rattle.hbc_io.proofs.Plains.{word_there}
use Rattle.hbc_rows.specs.Rows.{put_row}
use Rattle.hbc_rows.proofs.RowsAt.{row_whole}
use Rattle.hbc_function_record.specs.declared.Layout.{Layout}
use Rattle.hbc_function_record.specs.declared.Layout.TheVariants as lay
use Rattle.hbc_function_record.specs.declared.Found.{Found}
use Rattle.hbc_function_record.specs.Record.{size_of, large_of, inline_of, large_in, flags_of, overflowed, link_of}
use Rattle.hbc_function_record.specs.Row.{width, inline, row_words, inline_found}
use Rattle.hbc_function_record.proofs.Records.{large_there}
use Rattle.hbc_function_record.proofs.Rows.{words_length}
use Rattle.hbc_function_header.specs.declared.Ground.{Ground}
use Rattle.hbc_function_header.specs.declared.Ground.TheVariants as ground
use Rattle.hbc_function_header.specs.Header.{header_at, ground_of, where_of, where_at, found, record_at, function_at, opened, headed}
use Rattle.hbc_function_header.specs.Header.{read_function, row_of, row_answer, FunctionRow}
use Rattle.hbc_function_header.specs.Private.{RowBy}

-- ---- the place of a header

pub size_small : (layout : Layout) → size_of layout < 2 ^ 8
size_small lay.Legacy16 = omega arith
size_small lay.Modern12 = omega arith

pub size_times : (layout : Layout) (i : ℕ) → i < 2 ^ 32 → i * size_of layout < 2 ^ 40
size_times lay.Legacy16 i h = omega arith
size_times lay.Modern12 i h = omega arith

-- ---- where the record is

-- a large header is there where the record is found in it
where_there : (s : List ℕ) (n : ℕ) (g : Option Ground) {p : ℕ} → where_of s n g ≡ Ok (Some p) → p + n ≤ length s
unfolding where_of
where_there s n None f = absurd (cc)
where_there s n (Some (ground.Inline at)) f = absurd (cc)
where_there s n (Some (ground.Large at place)) {p} f =
    let a = reached (length s) place (Err reason.PastEnd) _ (λ e. cc) f in
    let b = reached (length s) (place + n) (Err reason.Cut) (Ok (Some place)) (λ e. cc) a.1 in
    let q : place ≡ p = cc in
    rw (← q) b.0

-- and its own header, where it is found in that
here_by : (s : List ℕ) (m at n : ℕ) (g : Ground) (b : Bool) → ltb (length s) (at + n) ≡ b → where_of s m (cond b None (Some g)) ≡ Ok None → at + n ≤ length s
unfolding where_of
here_by s m at n g true e f = absurd (cc)
here_by s m at n g false e f = ltb-false (length s) (at + n) e

module _ (s : List ℕ) (layout : Layout) (at : ℕ) where
  where_here : where_at s layout at ≡ Ok None → at + size_of layout ≤ length s
  unfolding where_at ground_of below
  where_here f = here_by s (large_of layout) at (size_of layout) _ (ltb (length s) (at + size_of layout)) refl f

  -- ---- what is found there

  pub large_held : {w : Result (Option ℕ) Reason} {place : ℕ} → w ≡ where_at s layout at → w ≡ Ok (Some place) → place + large_of layout ≤ length s
  unfolding where_at
  large_held e f = where_there s (large_of layout) (ground_of s layout at) (sym e ∙ f)

  module _ {w : Result (Option ℕ) Reason} (e : w ≡ where_at s layout at) (i : ℕ) where
    pub is_found : {v : Result (Option ℕ) Reason} → w ≡ v → found s layout at i v ≡ record_at s layout at i
    unfolding record_at
    is_found f = ap (found s layout at i) (sym f ∙ e)

    pub found_asked : {p : Option ℕ} → w ≡ Ok p → gives tt ≡ asked (record_at s layout at i)
    found_asked {p} f = by p ∙ ap asked (is_found f)
      where
        by : (p : Option ℕ) → gives tt ≡ asked (found s layout at i (Ok p))
        by None = refl
        by (Some place) = refl

    pub found_own : {r : Found} → w ≡ Ok None → (r.own ≡ inline_of layout i (word_at (size_of layout) s at)) × (r.place ≡ inline) → gives r ≡ record_at s layout at i
    found_own f p =
        (λ j. gives (record { own = (p.0 ∙ ap (inline_of layout i) (word_there (size_of layout) s at (where_here (sym e ∙ f)))) j; place = p.1 j })) ∙ is_found f

    pub found_large : {r : Found} {place : ℕ} → length s ≤ limit → w ≡ Ok (Some place) → (r.own ≡ large_in s layout place i) × (r.place ≡ place)
        → gives r ≡ record_at s layout at i
    found_large {place = place} h f p =
        (λ j. gives (record { own = (p.0 ∙ sym (large_there s layout place i h (large_held e f))) j; place = p.1 j })) ∙ is_found f

-- a function whose header is in the file and not flagged is read from that alone
module _ (s : List ℕ) (layout : Layout) (at : ℕ) (h : at + size_of layout ≤ length s)
    (o : overflowed (flags_of (inline_of layout 0 (word_at (size_of layout) s at))) ≡ false) where
  pub plain_ground : Some (ground.Inline at) ≡ ground_of s layout at
  unfolding ground_of below link_of choose
  plain_ground = let f = rw (word_there (size_of layout) s at h) at o in sym (rw (le-ltb (length s) (at + size_of layout) h, f))

  pub plain_found : (i : ℕ) → gives (inline_found layout i (word_at (size_of layout) s at)) ≡ record_at s layout at i
  unfolding where_at where_of
  plain_found i = let e : Ok None ≡ where_at s layout at = rw (← plain_ground) in found_own s layout at e i refl (refl, refl)

-- ---- the tests of a call, whatever it answers

refused_is : {A : Type 0} {r q : Refusal} → ◌≡◌ {A = Answer A} (refuses r) (refuses q) → r ≡ q
refused_is e = cc

-- passed, and refused
module _ (s : List ℕ) (start : ℕ) where
  pub open_in : {v : Unit {0}} → gives v ≡ opened s start (gives tt) → (length s ≤ limit) × (start ≤ length s)
  open_in e = let a = reached _ _ _ _ not_given (sym e) in let b = reached _ _ _ _ not_given a.1 in (a.0, b.0)

  pub open_out : {A : Type 0} {r : Refusal} (a : Answer A) → ◌≡◌ {A = Answer (Unit {0})} (refuses r) (opened s start (gives tt)) → refuses r ≡ opened s start a
  unfolding below
  open_out {A} {r} a e = by (ltb limit (length s)) (ltb (length s) start) e
    where
      by : (p q : Bool) → ◌≡◌ {A = Answer (Unit {0})} (refuses r) (cond p (refused_at 1 0) (cond q (refused_at 2 0) (gives tt))) → refuses r ≡ cond p (refused_at 1 0) (cond q (refused_at 2 0) a)
      by true q e = let z : r ≡ refusal_at 1 0 = refused_is e in ap refuses z
      by false true e = let z : r ≡ refusal_at 2 0 = refused_is e in ap refuses z
      by false false e = absurd (not_given e)

  pub opened_at : {A : Type 0} (a : Answer A) → length s ≤ limit → start ≤ length s → a ≡ opened s start a
  unfolding below
  opened_at a h k = sym (rw (le-ltb limit (length s) h, le-ltb (length s) start k))

module _ (s : List ℕ) (layout : Layout) (start i : ℕ) where
  -- refused, whatever a header in the file would give
  refused_out : {A B : Type 0} {r : Refusal} (v : B) (a : Answer A) → ◌≡◌ {A = Answer B} (refuses r) (headed s layout start i (gives v)) → refuses r ≡ headed s layout start i a
  unfolding below
  refused_out {A} {B} {r} v a e = by (ltb (length s) (header_at layout start i + size_of layout)) e
    where
      by : (p : Bool) → ◌≡◌ {A = Answer B} (refuses r) (cond p (refused_at 3 i) (gives v)) → refuses r ≡ cond p (refused_at 3 i) a
      by true e = let z : r ≡ refusal_at 3 i = refused_is e in ap refuses z
      by false e = absurd (not_given e)

  -- of an answer that holds the header's place
  pub head_in : {at : ℕ} → gives at ≡ headed s layout start i (gives (header_at layout start i)) → (at ≡ header_at layout start i) × (at + size_of layout ≤ length s)
  head_in {at} e =
      let a = reached _ _ _ _ not_given (sym e) in let b = a.0 in let p : at ≡ header_at layout start i = cc in (p, rw p b)

  pub head_out : {A : Type 0} {r : Refusal} (a : Answer A) → refuses r ≡ headed s layout start i (gives (header_at layout start i)) → refuses r ≡ headed s layout start i a
  head_out a e = refused_out (header_at layout start i) a e

  -- of one that holds nothing
  pub head_there : {v : Unit {0}} → gives v ≡ headed s layout start i (gives tt) → header_at layout start i + size_of layout ≤ length s
  head_there e = (reached _ _ _ _ not_given (sym e)).0

  pub head_gone : {A : Type 0} {r : Refusal} (a : Answer A) → ◌≡◌ {A = Answer (Unit {0})} (refuses r) (headed s layout start i (gives tt)) → refuses r ≡ headed s layout start i a
  head_gone a e = refused_out tt a e

  pub headed_at : {A : Type 0} (a : Answer A) → header_at layout start i + size_of layout ≤ length s → a ≡ headed s layout start i a
  unfolding below
  headed_at a h = sym (rw (le-ltb (length s) (header_at layout start i + size_of layout) h))

-- what the calls cite of the tests of file and start, and of the header
pub ruleset opening = (open_in, open_out, opened_at)

pub ruleset heading = (opening, head_in, head_out, head_there, head_gone, headed_at)

-- ---- the calls

module _ (s : List ℕ) (layout : Layout) (start i : ℕ) {at : ℕ} (e : at ≡ header_at layout start i) where
  pub is_function : record_at s layout at i ≡ function_at s layout start i
  unfolding function_at
  is_function = rw e

module _ (s : List ℕ) (layout : Layout) (start i : ℕ) where
  pub read_at : length s ≤ limit → start ≤ length s → function_at s layout start i ≡ read_function s layout start i
  unfolding read_function
  read_at h k = opened_at s start _ h k

-- ---- a lent row

pub row_read : {r : Found} (a : Answer Found) (before words : List ℕ) {row : List ℕ} → length before ≡ width → gives r ≡ a → words ≡ row_words r
    → row ≡ put_row (length words) before 0 words → row ≡ row_of a before
row_read {r = r} a before words h e g p =
    p ∙ row_whole before words (ap length g ∙ words_length r ∙ sym h) ∙ g ∙ ap (λ (o : Answer Found). row_of o before) e

-- what the call for one row leaves, by its answer: past its tests the row is the function's, or as it was where that is refused
written_by : (a : Answer Found) (before : List ℕ) → written (asked a) (row_of a before) before ≡ row_of a before
written_by (gives r) before = refl
written_by (refuses x) before = refl

module _ (s : List ℕ) (layout : Layout) (start i words : ℕ) (h : length s ≤ limit) (k : start ≤ length s) where
  pub row_one : words ≡ width → asked (function_at s layout start i) ≡ row_answer s layout start i words
  unfolding row_answer choose
  row_one e = sym (sym (opened_at s start _ h k) ∙ rw (eq-eqb words width e))

  pub row_other : (words ≡ width → ⊥) → refused_at 4 0 ≡ row_answer s layout start i words
  unfolding row_answer choose
  row_other e = sym (sym (opened_at s start _ h k) ∙ rw (ne_eqb words width e))

pub row_is : (s : List ℕ) (layout : Layout) (start i : ℕ) (before : List ℕ) {r : Result (Unit {0}) Refusal} {row : List ℕ} → length s ≤ limit → start ≤ length s → length before ≡ width
    → FunctionRow s layout start i before r row → row ≡ row_of (function_at s layout start i) before
row_is s layout start i before h k l v =
    words v
    ∙ ap (λ (a : Answer (Unit {0})). written a (row_of (function_at s layout start i) before) before) (sym (row_one s layout start i (length before) h k l))
    ∙ written_by (function_at s layout start i) before

-- the call itself, over the row by the header's place
pub row_by_lem : (s : List ℕ) (layout : Layout) (start i : ℕ) (before : List ℕ) {at : ℕ} {r : Result (Unit {0}) Refusal} {row : List ℕ} → length s ≤ limit → start ≤ length s → length before ≡ width
    → at ≡ header_at layout start i → RowBy (record_at s layout at i) before r row → FunctionRow s layout start i before r row
row_by_lem s layout start i before {r = r} h k l e v = record {
  says = v.says ∙ ap asked (is_function s layout start i e) ∙ row_one s layout start i (length before) h k l;
  leaves = v.leaves ∙ ap (λ (a : Answer Found). written (answered r) (row_of a before) before) (is_function s layout start i e);
}

-- a row is the one of its layout
pub row_of_layout : (s : List ℕ) (layout l : Layout) (at i : ℕ) {before : List ℕ} {r : Result (Unit {0}) Refusal} {after : List ℕ} → layout ≡ l → RowBy (record_at s l at i) before r after
    → RowBy (record_at s layout at i) before r after
row_of_layout s layout l at i {before} {r} {after} e v = subst (λ (x : Layout). RowBy (record_at s x at i) before r after) (sym e) v
