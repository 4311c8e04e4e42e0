-- One refresh done twice, the totals being true at first: the second finds the file's own rows, and exchanges each for itself.
use Rattle.std.specs.Prelude.{Result as Res, Ok, Err}
use Rattle.hbc_io.specs.declared.Refusal.{Refusal}
use Prim.Native.Nat.{ℕ, zero, suc, ◌+◌, ◌-◌, ◌*◌, ◌≤◌, ◌<◌}
use mathlib.Core.Path.{◌≡◌, refl, ap, sym, ◌∙◌, subst}
use mathlib.Core.List.{List}
use mathlib.Core.Bool.{Bool, true, false, cond}
use native.Mathlib.Omega.{arith}
use lib.ListN.{length}
use lib.Dec.{ltb}
use Rattle.hbc_io.specs.Answer.{Answer, gives, and_then}
use Rattle.hbc_io.proofs.Alone.{one_answer}
use Rattle.hbc_io.proofs.Exits.{not_below, alone}
use Rattle.hbc_rows.specs.Rows.{row_at}
use Rattle.hbc_function_record.specs.declared.Layout.{Layout}
use Rattle.hbc_function_record.specs.Row.{width}
use Rattle.hbc_function_header.specs.Header.{function_at}
use Rattle.hbc_function_header.specs.Meets.{meets}
use Rattle.hbc_function_totals.specs.declared.Share.{Share}
use Rattle.hbc_function_totals.specs.declared.Totals.{Totals}
use Rattle.hbc_function_totals.specs.Totals.{sum, totals, most, exchanged, next, kept, share_of}
use Rattle.hbc_function.specs.Table.{all, scan, share_by, Table}
use Rattle.hbc_function.specs.Refresh.{kept_met, refresh_answer, RefreshFunctions}
use Rattle.hbc_function.proofs.ByFile.{kept_scan}
use Rattle.hbc_function.proofs.Passes.{last_or}
use Rattle.hbc_claims_law.specs.Terms.{count_of}
use Rattle.hbc_claims_function.specs.Totals.{one_if_large, size_word, True}
use Rattle.hbc_claims_function.specs.Panes.{Result, Over}
use Rattle.hbc_claims_function.proofs.Accepted.{refreshable}
use Rattle.hbc_claims_function.proofs.Tables.{rewritten}
use Rattle.hbc_claims_function.proofs.Totals.{totals_kept, totals_moved, share_now, large_word, size_word_lem}
use Rattle.hbc_claims_function.proofs.Refreshed.{past_tests}
use Rattle.hbc_claims_function.proofs.Panes.{told, accepted_twice}

-- ---- one among many

-- it is no more than the sum
sum_one : (f : ℕ → ℕ) (n i : ℕ) → i < n → f i ≤ sum all f n
unfolding sum
sum_one f zero i h = absurd (omega arith)
sum_one f (suc n) i h = last_or (λ k. f k ≤ sum all f n + f n) n i (ltb i n) refl (omega arith) (λ l. let a = sum_one f n i l in omega arith) (omega arith)

-- and is counted, if it is chosen
count_one : (c : ℕ → Bool) (n i : ℕ) → i < n → c i ≡ true → 0 < count_of c n
unfolding count_of
count_one c zero i h e = absurd (omega arith)
count_one c (suc n) i h e = last_or (λ k. c k ≡ true → 0 < cond (c n) (count_of c n + 1) (count_of c n)) n i (ltb i n) refl (omega arith) (λ l g. more (c n) (count_one c n i l g)) (λ g. rw g (omega arith)) e
  where
    more : (b : Bool) → 0 < count_of c n → 0 < cond b (count_of c n + 1) (count_of c n)
    more true l = omega arith
    more false l = l

-- ---- rows that are exchanged for themselves

-- a share that is taken out of totals and put back
record Held (old new : Share) (now : Totals) : Type 0 where
  same : old ≡ new
  large_out : old.large ≤ now.large
  sizes_out : old.size ≤ now.sizes
  large_most : now.large ≤ most
  sizes_most : now.sizes ≤ most

exchange_same : (i : ℕ) (now : Totals) (old new : Share) → Held old new now → gives now ≡ exchanged i now old new
unfolding exchanged
exchange_same i now old new v =
    let el = ap (λ (x : Share). x.large) v.same in let es = ap (λ (x : Share). x.size) v.same in
    let a = v.large_out in let b = v.sizes_out in let c = v.large_most in let d = v.sizes_most in
    let l : now.large ≡ now.large - old.large + new.large = omega arith in
    let z : now.sizes ≡ now.sizes - old.size + new.size = omega arith in
    not_below _ _ _ _ a (not_below _ _ _ _ b (not_below _ _ _ _ (omega arith) (not_below _ _ _ _ (omega arith)
    (ap gives (ap (λ (u : ℕ). totals u now.sizes) l ∙ ap (totals (now.large - old.large + new.large)) z)))))

module _ (chosen : ℕ → Bool) (old new : ℕ → Share) (now : Totals) where
  kept_same : (n : ℕ) → ((i : ℕ) → i < n → chosen i ≡ true → Held (old i) (new i) now) → kept chosen old new now n ≡ gives now
  unfolding kept next
  kept_same zero v = refl
  kept_same (suc n) v = by (chosen n) refl (kept chosen old new now n) (kept_same n (λ i h e. v i (omega arith) e))
    where
      by : (b : Bool) → chosen n ≡ b → (k : Answer Totals) → k ≡ gives now → next b k (λ x. exchanged n x (old n) (new n)) ≡ gives now
      by false e k g = g
      by true e k g = ap (λ (y : Answer Totals). and_then y (λ x. exchanged n x (old n) (new n))) g ∙ sym (exchange_same n now (old n) (new n) (v n (omega arith) e))

-- ---- the second time

module _ (s : List ℕ) (layout : Layout) (start count low high : ℕ) (t : Table) (v : True t count) where
  totals_held : (k : ℕ) (u : Table) → RefreshFunctions s layout start count low high t (Ok k) u → (i : ℕ) → i < count → meets s layout start low high i ≡ true
      → Held (share_of (row_at width u.rows i)) (share_by (function_at s layout start i)) u.totals
  totals_held k u p i h e =
      let w = totals_kept s layout start count low high k t u p v in let tl = w.large in let ts = w.sizes in
      let lw = large_word u.rows i in let sw = size_word_lem u.rows i in
      let ol = sum_one (one_if_large u.rows) count i h in let os = sum_one (size_word u.rows) count i h in
      let n = count_one (meets s layout start low high) count i h e in let c = (rewritten p).counts in
      let m = (totals_moved s layout start count low high k t u p).most (omega arith) in let m0 = m.0 in let m1 = m.1 in
      record {
        same = sym (share_now s layout start count low high k t u p i h e);
        large_out = omega arith;
        sizes_out = omega arith;
        large_most = omega arith;
        sizes_most = omega arith;
      }

  says_again : (k : ℕ) (u : Table) → RefreshFunctions s layout start count low high t (Ok k) u → gives k ≡ refresh_answer s layout start count low high u
  says_again k u p =
      let x = refreshable s layout start count low high t k (sym p.says) in
      let n = (rewritten p).behind.long in
      let h5 : count * width ≤ length u.rows = rw n x.holds in
      let q = kept_same (meets s layout start low high) (λ i. share_of (row_at width u.rows i)) (λ i. share_by (function_at s layout start i)) u.totals count (totals_held k u p) in
      sym x.scans ∙ sym (kept_scan (scan (meets s layout start low high) (function_at s layout start) count) (kept_met s layout start low high u count) q)
      ∙ past_tests s layout start count low high u x.short x.begins x.rises x.ends h5 x.fits

  pub twice : (a aa : Result) → Over s layout start count low high t a → Over s layout start count low high a.table aa → aa ≡ a
  twice a aa p q = let z = by a.answer refl in λ j. record { answer = z.0 j; table = z.1 j }
    where
      by : (x : Res ℕ Refusal) → a.answer ≡ x → (aa.answer ≡ a.answer) × (aa.table ≡ a.table)
      by (Ok k) e =
          let pa = told s layout start count low high t a p e in
          let f = one_answer aa.answer (Ok k) (q.says ∙ sym (says_again k a.table pa)) in
          (f ∙ sym e, (accepted_twice s layout start count low high k k t a.table aa.table pa (told s layout start count low high a.table aa q f)).1)
      by (Err x) e =
          let l : a.table ≡ t = (told s layout start count low high t a p e).leaves in
          alone one_answer (subst (λ (y : Table). Over s layout start count low high y aa) l q) p
