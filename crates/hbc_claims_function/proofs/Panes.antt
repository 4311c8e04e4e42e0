-- Two refreshes of one file: in either order, one of them twice, and one of which is refused.
use Rattle.std.specs.Prelude.{Result as Res, Ok, Err}
use Rattle.hbc_io.specs.Answers.{answered}
use Prim.Native.Nat.{ℕ, ◌+◌}
use mathlib.Core.Path.{◌≡◌, refl, ap, sym, ◌∙◌, subst}
use mathlib.Core.List.{List}
use mathlib.Core.Bool.{Bool}
use native.Mathlib.Omega.{arith}
use lib.ListN.{length}
use Rattle.hbc_bits.proofs.Laws.{Bytes}
use Rattle.hbc_io.specs.declared.Refusal.{Refusal}
use Rattle.hbc_io.specs.Answer.{refuses, asked}
use Rattle.hbc_io.proofs.Alone.{one_answer}
use Rattle.hbc_io.proofs.Exits.{not_given, alone}
use Rattle.hbc_function_record.specs.declared.Layout.{Layout}
use Rattle.hbc_function_header.specs.Header.{function_at}
use Rattle.hbc_function_header.specs.Meets.{meets}
use Rattle.hbc_function_totals.specs.Totals.{sum}
use Rattle.hbc_function.specs.Table.{all, put_rows, Table}
use Rattle.hbc_function.specs.Refresh.{refresh_answer, RefreshFunctions}
use Rattle.hbc_function.proofs.ByFile.{by_file}
use Rattle.hbc_function.proofs.Sums.{held_short}
use Rattle.hbc_claims_law.specs.Terms.{count_of}
use Rattle.hbc_claims_function.specs.Totals.{one_if_large, size_word, True}
use Rattle.hbc_claims_function.specs.Panes.{Result, Over, either, both}
use Rattle.hbc_claims_function.proofs.Choices.{turned, same_twice, counts_both, put_both}
use Rattle.hbc_claims_function.proofs.Accepted.{refreshable}
use Rattle.hbc_claims_function.proofs.Tables.{rewritten}
use Rattle.hbc_claims_function.proofs.Totals.{Along, Sized, table_is, moved_along, totals_kept, sized_kept, kept_true}

-- ---- totals that move along with the sums

along_on : {count : ℕ} {t u v : Table} → Along count t u → Along count u v → Along count t v
along_on a b =
    let al = a.large in let az = a.sizes in let bl = b.large in let bz = b.sizes in
    record { large = omega arith; sizes = omega arith }

-- so that the same rows have the same totals, wherever they began
pub along_same : {count : ℕ} {t u v : Table} → u.rows ≡ v.rows → Along count t u → Along count t v → u ≡ v
along_same {count} {t} {u} {v} e a b =
    let l = ap (λ (x : List ℕ). sum all (one_if_large x) count) e in let z = ap (λ (x : List ℕ). sum all (size_word x) count) e in
    let al = a.large in let az = a.sizes in let bl = b.large in let bz = b.sizes in
    table_is e (omega arith) (omega arith)

-- ---- tables with true totals

-- a table with true totals, whose sizes fit
pub record Fit (count : ℕ) (t : Table) : Type 0 where
  pub true_of : True t count
  pub sized : Sized t.rows count

-- a table stays as long as it was
pub long_after : (s : List ℕ) (layout : Layout) (start count low high : ℕ) (r : Res ℕ Refusal) (t t' : Table) → RefreshFunctions s layout start count low high t r t' → length t'.rows ≡ length t.rows
long_after s layout start count low high (Ok k) t t' p = (rewritten p).behind.long
long_after s layout start count low high (Err x) t t' p = ap (λ (y : Table). length y.rows) p.leaves

module _ (s : List ℕ) (bytes : Bytes s) (layout : Layout) (start count : ℕ) where
  -- of such tables, of one length, one refresh says one thing
  same_says : (low high : ℕ) (t u : Table) → Fit count t → Fit count u → length t.rows ≡ length u.rows
      → refresh_answer s layout start count low high t ≡ refresh_answer s layout start count low high u
  same_says low high t u v w e =
      by_file s layout start count low high t u
      (λ h k. let l = held_short s layout start in kept_true s layout start count low high t bytes v.sized v.true_of (omega arith))
      (λ h k. let l = held_short s layout start in kept_true s layout start count low high u bytes w.sized w.true_of (omega arith)) e

  -- and such a table stays one
  pub after : (low high : ℕ) (r : Res ℕ Refusal) (t t' : Table) → RefreshFunctions s layout start count low high t r t' → Fit count t → Fit count t'
  after low high (Ok k) t t' p v = record {
    true_of = totals_kept s layout start count low high k t t' p v.true_of;
    sized = sized_kept s layout start count low high k t t' bytes p v.sized;
  }
  after low high (Err x) t t' p v = subst (Fit count) (sym p.leaves) v

  -- ---- one refresh, of two such tables
  told_same : (low high : ℕ) (r q : Res ℕ Refusal) (t t' u u' : Table) → RefreshFunctions s layout start count low high t r t'
      → RefreshFunctions s layout start count low high u q u' → Fit count t → Fit count u → length t.rows ≡ length u.rows → r ≡ q
  told_same low high r q t t' u u' p g v w e = one_answer r q (p.says ∙ same_says low high t u v w e ∙ sym g.says)

-- ---- both accepted, whatever the totals

module _ (s : List ℕ) (layout : Layout) (start count : ℕ) where
  -- one and then the other leaves the rows of either
  pub rows_both : (low₁ high₁ low₂ high₂ k m : ℕ) (t u v : Table) → RefreshFunctions s layout start count low₁ high₁ t (Ok k) u
      → RefreshFunctions s layout start count low₂ high₂ u (Ok m) v
      → v.rows ≡ put_rows (either (meets s layout start low₁ high₁) (meets s layout start low₂ high₂)) (function_at s layout start) t.rows count
  rows_both low₁ high₁ low₂ high₂ k m t u v p q =
      let c = meets s layout start low₁ high₁ in let d = meets s layout start low₂ high₂ in let f = function_at s layout start in
      let x = refreshable s layout start count low₁ high₁ t k (sym p.says) in
      let y = refreshable s layout start count low₂ high₂ u m (sym q.says) in
      ap (λ (z : Table). z.rows) q.leaves ∙ ap (λ (z : Table). put_rows d f z.rows count) p.leaves
      ∙ put_both c d f count k m x.scans y.scans t.rows x.holds

  pub along_both : (low₁ high₁ low₂ high₂ k m : ℕ) (t u v : Table) → RefreshFunctions s layout start count low₁ high₁ t (Ok k) u
      → RefreshFunctions s layout start count low₂ high₂ u (Ok m) v → Along count t v
  along_both low₁ high₁ low₂ high₂ k m t u v p q =
      along_on (moved_along s layout start count low₁ high₁ k t u p) (moved_along s layout start count low₂ high₂ m u v q)

  pub accepted_either : (low₁ high₁ low₂ high₂ k m m' k' : ℕ) (t t₁ t₁₂ t₂ t₂₁ : Table) → RefreshFunctions s layout start count low₁ high₁ t (Ok k) t₁
      → RefreshFunctions s layout start count low₂ high₂ t₁ (Ok m) t₁₂ → RefreshFunctions s layout start count low₂ high₂ t (Ok m') t₂
      → RefreshFunctions s layout start count low₁ high₁ t₂ (Ok k') t₂₁ → (k' ≡ k) × (m ≡ m') × (t₁₂ ≡ t₂₁)
  accepted_either low₁ high₁ low₂ high₂ k m m' k' t t₁ t₁₂ t₂ t₂₁ p q g h =
      let c = meets s layout start low₁ high₁ in let d = meets s layout start low₂ high₂ in (
        (rewritten h).counts ∙ sym (rewritten p).counts,
        (rewritten q).counts ∙ sym (rewritten g).counts,
        along_same
            (rows_both low₁ high₁ low₂ high₂ k m t t₁ t₁₂ p q ∙ ap (λ (x : ℕ → Bool). put_rows x (function_at s layout start) t.rows count) (turned c d)
            ∙ sym (rows_both low₂ high₂ low₁ high₁ m' k' t t₂ t₂₁ g h))
            (along_both low₁ high₁ low₂ high₂ k m t t₁ t₁₂ p q) (along_both low₂ high₂ low₁ high₁ m' k' t t₂ t₂₁ g h),
      )

  pub accepted_twice : (low high k m : ℕ) (t u v : Table) → RefreshFunctions s layout start count low high t (Ok k) u
      → RefreshFunctions s layout start count low high u (Ok m) v → (m ≡ k) × (v ≡ u)
  accepted_twice low high k m t u v p q =
      let c = meets s layout start low high in (
        (rewritten q).counts ∙ sym (rewritten p).counts,
        along_same
            (rows_both low high low high k m t u v p q ∙ ap (λ (x : ℕ → Bool). put_rows x (function_at s layout start) t.rows count) (same_twice c)
            ∙ sym (ap (λ (z : Table). z.rows) p.leaves))
            (along_both low high low high k m t u v p q) (moved_along s layout start count low high k t u p),
      )

-- ---- true totals: whatever the answers are

pub told : (s : List ℕ) (layout : Layout) (start count low high : ℕ) (t : Table) (r : Result) {x : Res ℕ Refusal} → Over s layout start count low high t r → r.answer ≡ x
    → RefreshFunctions s layout start count low high t x r.table
told s layout start count low high t r p e = subst (λ (x : Res ℕ Refusal). RefreshFunctions s layout start count low high t x r.table) e p

pub left_when : (s : List ℕ) (layout : Layout) (start count low high : ℕ) (r : Res ℕ Refusal) (t t' : Table) (x : Refusal) → RefreshFunctions s layout start count low high t r t'
    → asked (answered r) ≡ refuses x → t' ≡ t
left_when s layout start count low high (Err y) t t' x p e = p.leaves
left_when s layout start count low high (Ok k) t t' x p e = absurd (not_given (sym e))

module _ (s : List ℕ) (bytes : Bytes s) (layout : Layout) (start count : ℕ) (t : Table) (fit : Fit count t) where
  -- the second one, after the first or alone
  pub one_says : (low₁ high₁ low₂ high₂ : ℕ) (a ab b : Result) → Over s layout start count low₁ high₁ t a → Over s layout start count low₂ high₂ a.table ab
      → Over s layout start count low₂ high₂ t b → ab.answer ≡ b.answer
  one_says low₁ high₁ low₂ high₂ a ab b p q g =
      told_same s bytes layout start count low₂ high₂ ab.answer b.answer a.table ab.table t b.table q g
      (after s bytes layout start count low₁ high₁ a.answer t a.table p fit) fit (long_after s layout start count low₁ high₁ a.answer t a.table p)

  -- the first is refused: the second's effect stands
  pub other_stands : (low₁ high₁ low₂ high₂ : ℕ) (a ab b : Result) (x : Refusal) → Over s layout start count low₁ high₁ t a
      → Over s layout start count low₂ high₂ a.table ab → Over s layout start count low₂ high₂ t b → a.answer ≡ Err x → ab.table ≡ b.table
  other_stands low₁ high₁ low₂ high₂ a ab b x p q g e =
      let l : a.table ≡ t = left_when s layout start count low₁ high₁ a.answer t a.table x p (ap (λ (y : Res ℕ Refusal). asked (answered y)) e) in
      let h : Over s layout start count low₂ high₂ t ab = subst (λ (y : Table). Over s layout start count low₂ high₂ y ab) l q in
      (alone one_answer h g).1

  -- one that is refused after the other leaves what the other left
  pub refused_after : (low₁ high₁ low₂ high₂ : ℕ) (a ab b : Result) (x : Refusal) → Over s layout start count low₁ high₁ t a
      → Over s layout start count low₂ high₂ a.table ab → Over s layout start count low₂ high₂ t b → b.answer ≡ Err x → ab.table ≡ a.table
  refused_after low₁ high₁ low₂ high₂ a ab b x p q g e =
      left_when s layout start count low₂ high₂ ab.answer a.table ab.table x q
      (ap (λ (y : Res ℕ Refusal). asked (answered y)) (one_says low₁ high₁ low₂ high₂ a ab b p q g ∙ e))

  pub tables_same : (low₁ high₁ low₂ high₂ : ℕ) (a ab b ba : Result) → Over s layout start count low₁ high₁ t a → Over s layout start count low₂ high₂ a.table ab
      → Over s layout start count low₂ high₂ t b → Over s layout start count low₁ high₁ b.table ba → ab.table ≡ ba.table
  tables_same low₁ high₁ low₂ high₂ a ab b ba p q g h = by a.answer b.answer refl refl
    where
      by : (x y : Res ℕ Refusal) → a.answer ≡ x → b.answer ≡ y → ab.table ≡ ba.table
      by (Ok k) (Ok m) e f =
          (accepted_either s layout start count low₁ high₁ low₂ high₂ k m m k t a.table ab.table b.table ba.table
          (told s layout start count low₁ high₁ t a p e) (told s layout start count low₂ high₂ a.table ab q (one_says low₁ high₁ low₂ high₂ a ab b p q g ∙ f))
          (told s layout start count low₂ high₂ t b g f) (told s layout start count low₁ high₁ b.table ba h (one_says low₂ high₂ low₁ high₁ b ba a g h p ∙ e))).2
      by (Err x) y e f =
          other_stands low₁ high₁ low₂ high₂ a ab b x p q g e ∙ sym (refused_after low₂ high₂ low₁ high₁ b ba a x g h p e)
      by (Ok k) (Err y) e f =
          refused_after low₁ high₁ low₂ high₂ a ab b y p q g f ∙ sym (other_stands low₂ high₂ low₁ high₁ b ba a y g h p f)

-- ---- the counts

pub counts_of : (s : List ℕ) (layout : Layout) (start count low₁ high₁ low₂ high₂ k m : ℕ) (t t' u u' : Table)
    → RefreshFunctions s layout start count low₁ high₁ t (Ok k) t' → RefreshFunctions s layout start count low₂ high₂ u (Ok m) u'
    → k + m ≡ count_of (either (meets s layout start low₁ high₁) (meets s layout start low₂ high₂)) count
    + count_of (both (meets s layout start low₁ high₁) (meets s layout start low₂ high₂)) count
counts_of s layout start count low₁ high₁ low₂ high₂ k m t t' u u' p q =
    let a = (rewritten p).counts in let b = (rewritten q).counts in
    ap (λ (x : ℕ). x + m) a ∙ ap (λ (x : ℕ). count_of (meets s layout start low₁ high₁) count + x) b
    ∙ counts_both (meets s layout start low₁ high₁) (meets s layout start low₂ high₂) count
