-- What two refreshes of one file come to: one over both spans, where these touch or overlap, and a fresh read.
use Rattle.std.specs.Prelude.{Option, Some, None, Result as Res, Ok, Err}
use Rattle.hbc_io.specs.Answers.{answered}
use Rattle.hbc_io.specs.declared.Reason.{Reason}
use Prim.Native.Nat.{ℕ, ◌+◌, ◌*◌, ◌≤◌, ◌<◌, min, max}
use mathlib.Core.Path.{◌≡◌, refl, ap, sym, ◌∙◌, subst}
use mathlib.Core.List.{List}
use mathlib.Core.Bool.{Bool, true, false, cond}
use native.Mathlib.Omega.{arith}
use lib.ListN.{length, get_or}
use lib.Dec.{ltb}
use borrow.Author.Tests.{ltb-true, ltb-false}
use Rattle.hbc_bits.proofs.Laws.{Bytes}
use Rattle.hbc_io.specs.declared.Refusal.{Refusal}
use Rattle.hbc_io.specs.Answer.{Answer, gives, refuses, refused_at, asked}
use Rattle.hbc_io.specs.Lends.{below}
use Rattle.hbc_io.proofs.Alone.{one_answer}
use Rattle.hbc_io.proofs.Exits.{not_given, not_below}
use Rattle.hbc_function_record.specs.declared.Layout.{Layout}
use Rattle.hbc_function_record.specs.declared.Found.{Found}
use Rattle.hbc_function_record.specs.Record.{size_of, large_of}
use Rattle.hbc_function_record.specs.Row.{width}
use Rattle.hbc_function_header.specs.declared.Ground.{Ground}
use Rattle.hbc_function_header.specs.declared.Ground.TheVariants as ground
use Rattle.hbc_function_header.specs.Header.{header_at, ground_at, where_at, found, record_at, function_at, opened}
use Rattle.hbc_function_header.specs.Meets.{overlap, ground_meets, meets}
use Rattle.hbc_function.specs.Table.{scan, put_rows, all, roomed, Table, read_answer, ReadFunctions}
use Rattle.hbc_function.specs.Refresh.{fitted, kept_met, refresh_answer, RefreshFunctions}
use Rattle.hbc_function.proofs.ByFile.{below_same, kept_scan}
use Rattle.hbc_function.proofs.Laws.{put_length}
use Rattle.hbc_function.proofs.Sums.{held_short}
use Rattle.hbc_claims_law.specs.Terms.{Either, left, right, count_of, Behind, Same, Shared, RowWord}
use Rattle.hbc_claims_function.specs.Accepted.{Accepted}
use Rattle.hbc_claims_function.specs.Panes.{Result, Over, OfBoth, SameBut, either}
use Rattle.hbc_claims_function.proofs.Truths.{never, or_left, or_right, or_four}
use Rattle.hbc_claims_function.proofs.Meeting.{shares_byte, byte_shares}
use Rattle.hbc_claims_function.proofs.Function.{function_apart, function_same, meets_same}
use Rattle.hbc_claims_function.proofs.Choices.{Joint, read, by_first, by_second, joint}
use Rattle.hbc_claims_function.proofs.Accepted.{un_asked, accepted, refreshable}
use Rattle.hbc_claims_function.proofs.Tables.{row_word, rewritten}
use Rattle.hbc_claims_function.proofs.Refreshed.{scan_says, read_says, mix, mix_scan, mixed, over, rows_by}
use Rattle.hbc_claims_function.proofs.Totals.{true_same, moved_along, totals_read, totals_kept, kept_true}
use Rattle.hbc_claims_function.proofs.Panes.{Fit, along_same, rows_both, along_both, after, told, one_says}

-- ---- two spans that touch or overlap, and the one from the first byte to the last of both

module _ (low₁ high₁ low₂ high₂ : ℕ) (h : low₁ ≤ high₂) (k : low₂ ≤ high₁) where
  -- a byte of the one is of one of the two
  in_one : (j : ℕ) → min low₁ low₂ ≤ j → j < max high₁ high₂ → (p q : Bool) → ltb j high₁ ≡ p → ltb j low₁ ≡ q
      → Either ((low₁ ≤ j) × (j < high₁)) ((low₂ ≤ j) × (j < high₂))
  in_one j l m false q e f = let g = ltb-false j high₁ e in right (omega arith, omega arith)
  in_one j l m true true e f = let g = ltb-true j low₁ f in right (omega arith, omega arith)
  in_one j l m true false e f = let g = ltb-true j high₁ e in let o = ltb-false j low₁ f in left (o, g)

  wider : (a n j : ℕ) → Either (Shared a n low₁ high₁ j) (Shared a n low₂ high₂ j) → Shared a n (min low₁ low₂) (max high₁ high₂) j
  wider a n j (left v) = let l = v.low_on in let m = v.before_high in record { from = v.from; to = v.to; low_on = omega arith; before_high = omega arith }
  wider a n j (right v) = let l = v.low_on in let m = v.before_high in record { from = v.from; to = v.to; low_on = omega arith; before_high = omega arith }

  narrower : (a n j : ℕ) → Shared a n (min low₁ low₂) (max high₁ high₂) j → Either (Shared a n low₁ high₁ j) (Shared a n low₂ high₂ j)
  narrower a n j v = by (in_one j v.low_on v.before_high (ltb j high₁) (ltb j low₁) refl refl)
    where
      by : Either ((low₁ ≤ j) × (j < high₁)) ((low₂ ≤ j) × (j < high₂)) → Either (Shared a n low₁ high₁ j) (Shared a n low₂ high₂ j)
      by (left w) = left (record { from = v.from; to = v.to; low_on = w.0; before_high = w.1 })
      by (right w) = right (record { from = v.from; to = v.to; low_on = w.0; before_high = w.1 })

  -- where neither is met, the one is not
  none_met : (a n : ℕ) → overlap a n low₁ high₁ ≡ false → overlap a n low₂ high₂ ≡ false → (r : Bool) → overlap a n (min low₁ low₂) (max high₁ high₂) ≡ r → r ≡ false
  none_met a n e f false o = refl
  none_met a n e f true o = absurd (by (narrower a n _ (shares_byte a n (min low₁ low₂) (max high₁ high₂) o)))
    where
      by : Either (Shared a n low₁ high₁ (max a (min low₁ low₂))) (Shared a n low₂ high₂ (max a (min low₁ low₂))) → ⊥
      by (left v) = never (sym (byte_shares v) ∙ e)
      by (right v) = never (sym (byte_shares v) ∙ f)

  joined_by : (a n : ℕ) (p q : Bool) → overlap a n low₁ high₁ ≡ p → overlap a n low₂ high₂ ≡ q → overlap a n (min low₁ low₂) (max high₁ high₂) ≡ cond p true q
  joined_by a n true q e f = byte_shares (wider a n (max a low₁) (left (shares_byte a n low₁ high₁ e)))
  joined_by a n false true e f = byte_shares (wider a n (max a low₂) (right (shares_byte a n low₂ high₂ f)))
  joined_by a n false false e f = none_met a n e f (overlap a n (min low₁ low₂) (max high₁ high₂)) refl

  overlap_joined : (a n : ℕ) → overlap a n (min low₁ low₂) (max high₁ high₂) ≡ cond (overlap a n low₁ high₁) true (overlap a n low₂ high₂)
  overlap_joined a n = joined_by a n (overlap a n low₁ high₁) (overlap a n low₂ high₂) refl refl

  ground_joined : (n m : ℕ) (g : Option Ground) → ground_meets n m (min low₁ low₂) (max high₁ high₂) g ≡ cond (ground_meets n m low₁ high₁ g) true (ground_meets n m low₂ high₂ g)
  unfolding ground_meets
  ground_joined n m None = refl
  ground_joined n m (Some (ground.Inline at)) = overlap_joined at n
  ground_joined n m (Some (ground.Large at place)) =
      ap (λ (x : Bool). cond x true (overlap place m (min low₁ low₂) (max high₁ high₂))) (overlap_joined at n)
      ∙ ap (λ (x : Bool). cond (cond (overlap at n low₁ high₁) true (overlap at n low₂ high₂)) true x) (overlap_joined place m)
      ∙ or_four (overlap at n low₁ high₁) (overlap at n low₂ high₂) (overlap place m low₁ high₁) (overlap place m low₂ high₂)

  pub meets_joined : (s : List ℕ) (layout : Layout) (start : ℕ)
      → meets s layout start (min low₁ low₂) (max high₁ high₂) ≡ either (meets s layout start low₁ high₁) (meets s layout start low₂ high₂)
  unfolding meets
  meets_joined s layout start = λ j i. ground_joined (size_of layout) (large_of layout) (ground_at s layout start i) j

-- ---- what is said of both

module _ {x y z : Answer ℕ} where
  -- refused as x is
  of_first : (r : Refusal) → x ≡ refuses r → ((q : Refusal) → y ≡ refuses q → r.place ≤ q.place) → z ≡ refuses r → OfBoth x y z
  of_first r e l o = record {
    given = λ a b u v. absurd (not_given (sym e ∙ u));
    only = λ v u. absurd (not_given (sym o ∙ u));
    refused = λ q u. left (e ∙ sym o ∙ u);
    lowest = λ q w u v. by q w (sym o ∙ u) v;
  }
    where
      by : (q w : Refusal) → ◌≡◌ {A = Answer ℕ} (refuses r) (refuses q) → Either (x ≡ refuses w) (y ≡ refuses w) → q.place ≤ w.place
      by q w u (left v) = let f : ◌≡◌ {A = Answer ℕ} (refuses q) (refuses w) = sym u ∙ sym e ∙ v in let p : q.place ≡ w.place = cc in omega arith
      by q w u (right v) = let f = l w v in let p : r.place ≡ q.place = cc in omega arith

  -- x and y may be exchanged
  of_turned : OfBoth x y z → OfBoth y x z
  of_turned v = record {
    given = λ k m e f. v.given m k f e;
    only = λ w e. let g = v.only w e in (g.1, g.0);
    refused = λ r e. other (v.refused r e);
    lowest = λ r q e f. v.lowest r q e (other f);
  }
    where
      other : {A B : Type 0} → Either A B → Either B A
      other (left a) = right a
      other (right b) = left b

of_joint : {x y z : Answer ℕ} → Joint x y z → OfBoth x y z
of_joint (read k m j e g o) = record {
  given = λ a b u v. (j, o);
  only = λ v u. ((k, e), (m, g));
  refused = λ r u. absurd (not_given (sym u ∙ o));
  lowest = λ r q u v. absurd (not_given (sym u ∙ o));
}
of_joint (by_first r e l o) = of_first r e l o
of_joint (by_second r e l o) = of_turned (of_first r e l o)

-- a test that all three make
joint_past : (a b : ℕ) (r : Refusal) {x y z : Answer ℕ} → Joint x y z → Joint (below a b (refuses r) x) (below a b (refuses r) y) (below a b (refuses r) z)
unfolding below
joint_past a b r {x} {y} {z} v = by (ltb a b)
  where
    by : (t : Bool) → Joint (cond t (refuses r) x) (cond t (refuses r) y) (cond t (refuses r) z)
    by true = by_first r refl (λ q f. let p : r.place ≡ q.place = cc in omega arith) refl
    by false = v

-- each function is refused at its own number
found_own : (s : List ℕ) (layout : Layout) (at i : ℕ) (w : Res (Option ℕ) Reason) {r : Refusal} → found s layout at i w ≡ refuses r → r.place ≡ i
found_own s layout at i (Ok None) e = absurd (not_given (sym e))
found_own s layout at i (Ok (Some place)) e = absurd (not_given (sym e))
found_own s layout at i (Err k) e = cc

pub function_own : (s : List ℕ) (layout : Layout) (start i : ℕ) (r : Refusal) → function_at s layout start i ≡ refuses r → r.place ≡ i
unfolding function_at record_at
function_own s layout start i r e = found_own s layout (header_at layout start i) i (where_at s layout (header_at layout start i)) e

joint_same : {x u y v z w : Answer ℕ} → x ≡ u → y ≡ v → z ≡ w → Joint x y z → Joint u v w
joint_same {x} {u} {y} {v} {z} {w} e f g o =
    subst (λ (i : Answer ℕ). Joint u v i) g (subst (λ (i : Answer ℕ). Joint u i z) f (subst (λ (i : Answer ℕ). Joint i y z) e o))

done_by : (r : Res ℕ Refusal) {k : ℕ} → answered r ≡ gives k → r ≡ Ok k
done_by r {k} e = one_answer r (Ok k) e

-- ---- what both leave, word by word

module _ (s : List ℕ) (layout : Layout) (start count low₁ high₁ low₂ high₂ k m : ℕ) (t u v : Table) (p : RefreshFunctions s layout start count low₁ high₁ t (Ok k) u)
    (q : RefreshFunctions s layout start count low₂ high₂ u (Ok m) v) where
  pub both_met : (i c : ℕ) → i < count → either (meets s layout start low₁ high₁) (meets s layout start low₂ high₂) i ≡ true → c < width
      → RowWord s layout start i c (get_or v.rows (i * width + c) 0)
  both_met i c l e h =
      let x = refreshable s layout start count low₁ high₁ t k (sym p.says) in
      let y = refreshable s layout start count low₂ high₂ u m (sym q.says) in
      let j = (of_joint (joint (function_at s layout start) (function_own s layout start) (meets s layout start low₁ high₁) (meets s layout start low₂ high₂) count)).given k m x.scans y.scans in
      rw (rows_both s layout start count low₁ high₁ low₂ high₂ k m t u v p q)
      (row_word (either (meets s layout start low₁ high₁) (meets s layout start low₂ high₂)) s layout start count j.0 t.rows x.holds j.1 i c l e h)

  pub both_unmet : (i c : ℕ) → either (meets s layout start low₁ high₁) (meets s layout start low₂ high₂) i ≡ false → c < width
      → get_or v.rows (i * width + c) 0 ≡ get_or t.rows (i * width + c) 0
  both_unmet i c e h =
      let a = meets s layout start low₁ high₁ i in let b = meets s layout start low₂ high₂ i in
      (rewritten q).unmet i c (or_right a b e) h ∙ (rewritten p).unmet i c (or_left a b e) h

  pub both_behind : Behind (count * width) t.rows v.rows
  both_behind =
      let a = (rewritten p).behind in let b = (rewritten q).behind in
      record { rest = λ j h. b.rest j h ∙ a.rest j h; long = b.long ∙ a.long }

-- ---- one refresh over both spans

-- of two spans of which one ends past the file, the one over both does
joint_ends : (n high₁ high₂ : ℕ) (r : Refusal) → r.place ≡ 0 → {x y z : Answer ℕ} → Joint x y z
    → Joint (below n high₁ (refuses r) x) (below n high₂ (refuses r) y) (below n (max high₁ high₂) (refuses r) z)
unfolding below
joint_ends n high₁ high₂ r p {x} {y} {z} v = by (ltb n high₁) (ltb n high₂) (ltb n (max high₁ high₂)) refl refl refl
  where
    by : (a b c : Bool) → ltb n high₁ ≡ a → ltb n high₂ ≡ b → ltb n (max high₁ high₂) ≡ c → Joint (cond a (refuses r) x) (cond b (refuses r) y) (cond c (refuses r) z)
    by true b true e f g = by_first r refl (λ q o. omega arith) refl
    by false true true e f g = by_second r refl (λ q o. omega arith) refl
    by false false false e f g = v
    by true b false e f g = let i = ltb-true n high₁ e in let j = ltb-false n (max high₁ high₂) g in absurd (omega arith)
    by false true false e f g = let i = ltb-true n high₂ f in let j = ltb-false n (max high₁ high₂) g in absurd (omega arith)
    by false false true e f g = let i = ltb-false n high₁ e in let k = ltb-false n high₂ f in let j = ltb-true n (max high₁ high₂) g in absurd (omega arith)

-- the tests that a refresh makes whose span rises
abbrev gated : List ℕ → Layout → ℕ → ℕ → ℕ → ℕ → Answer ℕ → Answer ℕ
gated s layout start count words high o = opened s start (below (length s) high (refused_at 10 0) (roomed words count (fitted s layout start count o)))

module _ (s : List ℕ) (bytes : Bytes s) (layout : Layout) (start count : ℕ) (t : Table) (fit : Fit count t) where
  span_says : (low high : ℕ) → low ≤ high
      → refresh_answer s layout start count low high t ≡ gated s layout start count (length t.rows) high (scan (meets s layout start low high) (function_at s layout start) count)
  unfolding refresh_answer
  span_says low high h =
      below_same _ _ refl (λ h1. below_same _ _ refl (λ h2.
      sym (not_below high low _ _ h refl) ∙ below_same _ _ refl (λ h4. below_same _ _ refl (λ h5. below_same _ _ refl (λ h6.
      let l = held_short s layout start in
      let m = kept_true s layout start count low high t bytes fit.sized fit.true_of (omega arith) in
      kept_scan (scan (meets s layout start low high) (function_at s layout start) count) (kept_met s layout start low high t count) m.1)))))

  module _ (low₁ high₁ low₂ high₂ : ℕ) (a b : Result) (p : Over s layout start count low₁ high₁ t a) (g : Over s layout start count low₂ high₂ t b)
      (rises₁ : low₁ ≤ high₁) (rises₂ : low₂ ≤ high₂) where
    module _ (touch₁ : low₁ ≤ high₂) (touch₂ : low₂ ≤ high₁) (c : Result) (o : Over s layout start count (min low₁ low₂) (max high₁ high₂) t c) where
      pub says_one : OfBoth (answered a.answer) (answered b.answer) (answered c.answer)
      says_one =
          let f = function_at s layout start in let n = length t.rows in
          let j : Joint (gated s layout start count n high₁ (scan (meets s layout start low₁ high₁) f count)) (gated s layout start count n high₂ (scan (meets s layout start low₂ high₂) f count))
          (gated s layout start count n (max high₁ high₂) (scan (either (meets s layout start low₁ high₁) (meets s layout start low₂ high₂)) f count)) =
          joint_past _ _ _ (joint_past _ _ _ (joint_ends _ _ _ _ refl (joint_past _ _ _ (joint_past _ _ _
          (joint f (function_own s layout start) (meets s layout start low₁ high₁) (meets s layout start low₂ high₂) count))))) in
          of_joint (joint_same (sym (span_says low₁ high₁ rises₁) ∙ sym p.says) (sym (span_says low₂ high₂ rises₂) ∙ sym g.says)
          (ap (λ (x : ℕ → Bool). gated s layout start count n (max high₁ high₂) (scan x f count)) (sym (meets_joined low₁ high₁ low₂ high₂ touch₁ touch₂ s layout start))
          ∙ sym (span_says (min low₁ low₂) (max high₁ high₂) (omega arith)) ∙ sym o.says) j)

      -- accepted, it reports how many meet either, and leaves what the two leave
      pub as_one : (ab : Result) (j : ℕ) → Over s layout start count low₂ high₂ a.table ab → c.answer ≡ Ok j
          → (j ≡ count_of (either (meets s layout start low₁ high₁) (meets s layout start low₂ high₂)) count) × (c.table ≡ ab.table)
      as_one ab j q e =
          let m = meets_joined low₁ high₁ low₂ high₂ touch₁ touch₂ s layout start in
          let u = says_one.only j (ap answered e) in
          let ea = done_by a.answer u.0.1 in
          let eb = one_says s bytes layout start count t fit low₁ high₁ low₂ high₂ a ab b p q g ∙ done_by b.answer u.1.1 in
          let pa = told s layout start count low₁ high₁ t a p ea in
          let pb = told s layout start count low₂ high₂ a.table ab q eb in
          let pc = told s layout start count (min low₁ low₂) (max high₁ high₂) t c o e in (
            (rewritten pc).counts ∙ ap (λ (x : ℕ → Bool). count_of x count) m,
            along_same
                (ap (λ (x : Table). x.rows) pc.leaves ∙ ap (λ (x : ℕ → Bool). put_rows x (function_at s layout start) t.rows count) m
                ∙ sym (rows_both s layout start count low₁ high₁ low₂ high₂ u.0.0 u.1.0 t a.table ab.table pa pb))
                (moved_along s layout start count (min low₁ low₂) (max high₁ high₂) j t c.table pc)
                (along_both s layout start count low₁ high₁ low₂ high₂ u.0.0 u.1.0 t a.table ab.table pa pb),
          )

-- ---- a fresh read

un_refused : {A : Type 0} (z : Answer A) {r : Refusal} → asked z ≡ refuses r → z ≡ refuses r
un_refused (gives v) e = absurd (not_given (sym e))
un_refused (refuses q) {r} e = let p : q ≡ r = cc in ap refuses p

of_asked : {x y : Answer ℕ} {z : Answer ℕ} → OfBoth x y z → OfBoth x y (asked z)
of_asked {z = z} v = record {
  given = λ k m e f. let g = v.given k m e f in (tt, ap asked g.1);
  only = λ w e. let g = un_asked z e in v.only g.0 g.1;
  refused = λ r e. v.refused r (un_refused z e);
  lowest = λ r q e f. v.lowest r q (un_refused z e) f;
}

-- t has the rows of a, which was read whole into a table t₀, and true totals; s is a but for two spans
module _ {a s : List ℕ} {low₁ high₁ low₂ high₂ : ℕ} (v : SameBut a s low₁ high₁ low₂ high₂) (bytes : Bytes s) (layout : Layout) (start count : ℕ) {t₀ t₁ t : Table}
    (was : ReadFunctions a layout start count t₀ (Ok tt) t₁) (rows : t.rows ≡ t₁.rows) (fit : Fit count t) where
  same_apart : (i : ℕ) → either (meets s layout start low₁ high₁) (meets s layout start low₂ high₂) i ≡ false → function_at a layout start i ≡ function_at s layout start i
  same_apart i m =
      let p = meets s layout start low₁ high₁ i in let q = meets s layout start low₂ high₂ i in
      function_apart v i layout start (or_left p q m) (or_right p q m)

  long_as : length t.rows ≡ length t₀.rows
  long_as = ap length (rows_by a layout start count was rows) ∙ put_length all (function_at a layout start) t₀.rows count

  read_whole : Accepted a layout start count (length t₀.rows)
  read_whole = accepted a layout start count (length t₀.rows) (sym was.says)

  one_scan : (low high : ℕ) → low ≤ high → high ≤ length s → scan (meets s layout start low high) (function_at s layout start) count ≡ refresh_answer s layout start count low high t
  one_scan low high h k = scan_says a s layout start count (length t₀.rows) v.long read_whole low high t h k bytes fit.sized fit.true_of long_as

  both_scan : asked (scan (either (meets s layout start low₁ high₁) (meets s layout start low₂ high₂)) (function_at s layout start) count)
      ≡ read_answer s layout start count (length t₀.rows)
  both_scan =
      read_says a s layout start count (length t₀.rows) v.long read_whole (either (meets s layout start low₁ high₁) (meets s layout start low₂ high₂))
      (function_at a layout start) read_whole.number read_whole.scans same_apart

  module _ (one two : Result) (p : Over s layout start count low₁ high₁ t one) (g : Over s layout start count low₂ high₂ t two) (rises₁ : low₁ ≤ high₁) (ends₁ : high₁ ≤ length s)
      (rises₂ : low₂ ≤ high₂) (ends₂ : high₂ ≤ length s) (r : Res (Unit {0}) Refusal) (t₂ : Table) (fresh : ReadFunctions s layout start count t₀ r t₂) where
    pub says_fresh : OfBoth (answered one.answer) (answered two.answer) (answered r)
    says_fresh =
        subst (OfBoth (answered one.answer) (answered two.answer)) (both_scan ∙ sym fresh.says)
        (of_asked (of_joint (joint_same (one_scan low₁ high₁ rises₁ ends₁ ∙ sym p.says) (one_scan low₂ high₂ rises₂ ends₂ ∙ sym g.says) refl
        (joint (function_at s layout start) (function_own s layout start) (meets s layout start low₁ high₁) (meets s layout start low₂ high₂) count))))

    pub both_fresh : (last : Result) → Over s layout start count low₂ high₂ one.table last → r ≡ Ok tt → last.table ≡ t₂
    both_fresh last q e =
        let c = either (meets s layout start low₁ high₁) (meets s layout start low₂ high₂) in
        let u = says_fresh.only tt (ap answered e) in
        let w = subst (λ (x : Res (Unit {0}) Refusal). ReadFunctions s layout start count t₀ x t₂) e fresh in
        let x = read_whole in
        let y = un_asked (scan c (function_at s layout start) count) (both_scan ∙ sym w.says) in
        let pa = told s layout start count low₁ high₁ t one p (done_by one.answer u.0.1) in
        let pb = told s layout start count low₂ high₂ one.table last q
        (one_says s bytes layout start count t fit low₁ high₁ low₂ high₂ one last two p q g ∙ done_by two.answer u.1.1) in
        true_same
        (rows_both s layout start count low₁ high₁ low₂ high₂ u.0.0 u.1.0 t one.table last.table pa pb
        ∙ ap (λ (z : List ℕ). put_rows c (function_at s layout start) z count) (rows_by a layout start count was rows)
        ∙ over c (function_at a layout start) (function_at s layout start) count y.0 x.number y.1 x.scans t₀.rows x.holds same_apart
        ∙ sym (ap (λ (z : Table). z.rows) w.leaves))
        (totals_kept s layout start count low₂ high₂ u.1.0 one.table last.table pb (totals_kept s layout start count low₁ high₁ u.0.0 t one.table pa fit.true_of))
        (totals_read s layout start count t₀ t₂ w)

-- ---- one that is done again, with bytes of its span changed once more, after the other

-- o was read whole into t₀, and t has its rows; s is o but for two spans, and made t into u over the second; b is s but for the first
module _ {o s b : List ℕ} {low₁ high₁ low₂ high₂ : ℕ} (v : SameBut o s low₁ high₁ low₂ high₂) (w : Same s b low₁ high₁) (layout : Layout) (start count k : ℕ)
    {t₀ t₁ t u : Table} (was : ReadFunctions o layout start count t₀ (Ok tt) t₁) (rows : t.rows ≡ t₁.rows)
    (p : RefreshFunctions s layout start count low₂ high₂ t (Ok k) u) where
  both_but : SameBut o b low₁ high₁ low₂ high₂
  both_but = record { long = v.long ∙ w.long; out = λ j h l. v.out j h l ∙ w.out j h }

  first_read : Accepted o layout start count (length t₀.rows)
  first_read = accepted o layout start count (length t₀.rows) (sym was.says)

  -- what the rows of u are of
  abbrev now : ℕ → Answer Found
  now = mix (meets s layout start low₂ high₂) (function_at o layout start) (function_at s layout start)

  now_read : (j : ℕ) × (scan all now count ≡ gives j)
  now_read =
      let y = refreshable s layout start count low₂ high₂ t k (sym p.says) in
      mix_scan (meets s layout start low₂ high₂) (function_at o layout start) (function_at s layout start) count k first_read.number y.scans first_read.scans

  now_rows : u.rows ≡ put_rows all now t₀.rows count
  now_rows =
      let y = refreshable s layout start count low₂ high₂ t k (sym p.says) in
      ap (λ (x : Table). x.rows) p.leaves
      ∙ ap (λ (x : List ℕ). put_rows (meets s layout start low₂ high₂) (function_at s layout start) x count) (rows_by o layout start count was rows)
      ∙ mixed (meets s layout start low₂ high₂) (function_at o layout start) (function_at s layout start) count k first_read.number y.scans first_read.scans t₀.rows first_read.holds

  -- apart from the first span they are those of b
  now_same : (i : ℕ) → meets b layout start low₁ high₁ i ≡ false → now i ≡ function_at b layout start i
  now_same i m = by (meets s layout start low₂ high₂ i) refl
    where
      by : (x : Bool) → meets s layout start low₂ high₂ i ≡ x → cond x (function_at s layout start i) (function_at o layout start i) ≡ function_at b layout start i
      by true e = function_same w i layout start m
      by false e = function_apart both_but i layout start m (sym (meets_same w i layout start m low₂ high₂) ∙ e)

  module _ (bytes : Bytes s) (bytes-now : Bytes b) (fit : Fit count t) (rises : low₁ ≤ high₁) (ends : high₁ ≤ length b) {r : Res (Unit {0}) Refusal} {q : Res ℕ Refusal} {t₂ t₃ : Table}
      (f : ReadFunctions b layout start count t₀ r t₂) (g : RefreshFunctions b layout start count low₁ high₁ u q t₃) where
    pub mended_answers : answered r ≡ asked (answered q)
    mended_answers =
        let j = after s bytes layout start count low₂ high₂ (Ok k) t u p fit in
        let n : length u.rows ≡ length t₀.rows = ap length now_rows ∙ put_length all now t₀.rows count in
        f.says ∙ sym (read_says o b layout start count (length t₀.rows) both_but.long first_read (meets b layout start low₁ high₁) now now_read.0 now_read.1 now_same)
        ∙ ap asked (scan_says o b layout start count (length t₀.rows) both_but.long first_read low₁ high₁ u rises ends bytes-now j.sized j.true_of n ∙ sym g.says)

    pub mended_table : r ≡ Ok tt → t₃ ≡ t₂
    mended_table e =
        let fr = subst (λ (x : Res (Unit {0}) Refusal). ReadFunctions b layout start count t₀ x t₂) e f in
        let d = un_asked (answered q) (sym mended_answers ∙ ap answered e) in
        let gr = subst (λ (x : Res ℕ Refusal). RefreshFunctions b layout start count low₁ high₁ u x t₃) (done_by q d.1) g in
        let y = refreshable b layout start count low₁ high₁ u d.0 (sym gr.says) in
        true_same
        (ap (λ (x : Table). x.rows) gr.leaves ∙ ap (λ (x : List ℕ). put_rows (meets b layout start low₁ high₁) (function_at b layout start) x count) now_rows
        ∙ over (meets b layout start low₁ high₁) now (function_at b layout start) count d.0 now_read.0 y.scans now_read.1 t₀.rows first_read.holds now_same
        ∙ sym (ap (λ (x : Table). x.rows) fr.leaves))
        (totals_kept b layout start count low₁ high₁ d.0 u t₃ gr (totals_kept s layout start count low₂ high₂ k t u p fit.true_of))
        (totals_read b layout start count t₀ t₂ fr)
