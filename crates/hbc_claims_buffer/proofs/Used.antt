-- An accepted series ends at or behind its start and not past the buffer's end.
use Prim.Native.Nat.{ℕ, zero, suc, ◌+◌, ◌-◌, ◌^◌, ◌≤◌, ◌<◌}
use mathlib.Core.Path.{◌≡◌, refl, sym, ap, ◌∙◌, subst}
use mathlib.Core.List.{List}
use mathlib.Core.Bool.{Bool, true, false, cond}
use native.Mathlib.Omega.{arith}
use borrow.Author.Tests.{leb-false, eqb-false, ne_eqb}
use lib.Dec.{leb, eqb}
use lib.ListN.{length}
use Rattle.hbc_io.specs.Outcome.{Outcome, got, refused, valued, cursor_at, limit}
use Rattle.hbc_io.specs.Answer.{Answer, gives}
use Rattle.hbc_io.specs.Lends.{choose}
use Rattle.hbc_io.specs.Plain.{plain_at}
use Rattle.hbc_io.specs.declared.Cursor.{Cursor}
use Rattle.hbc_io.proofs.Reading.{then_got, valued_got, not_both}
use Rattle.hbc_io.proofs.Plains.{plain_got}
use Rattle.hbc_io.proofs.Exits.{reached, not_given}
use Rattle.hbc_buffer_literal.specs.Literal.{width_of}
use Rattle.hbc_buffer.specs.Series.{Run, run_of, tag_at, head_at, run_at, step, placed, after, used_of, series_answer}
use Rattle.hbc_buffer.proofs.Tags.{tag_on}
use Rattle.hbc_claims_law.proofs.Tests.{past}
use Rattle.hbc_claims_buffer.specs.Used.{UsedWithin, UsedSmall}

-- from c to n, and not past the end
pub record Reach (s : List ℕ) (c n : Cursor) : Type 0 where
  pub up : c.at ≤ n.at
  pub within : n.at ≤ length s

reach_on : {s : List ℕ} {c m n : Cursor} → Reach s c m → Reach s m n → Reach s c n
reach_on a b = record { up = omega (arith, a.up, b.up); within = b.within }

reach_self : {s : List ℕ} {c n : Cursor} → c.at ≤ length s → c ≡ n → Reach s c n
reach_self {s} {c} {n} h e = subst (λ (x : Cursor). Reach s c x) e (record { up = omega arith; within = h })

head_test : {s : List ℕ} {c m n : Cursor} {u : Run} (t : Run) (o : Outcome Run) (b : Bool) → Reach s c m → (o ≡ got u n → Reach s m n)
    → cond b o (got t m) ≡ got u n → Reach s c n
head_test t o true r f e = reach_on r (f e)
head_test {s} {c} {m} {n} t o false r f e = let p : m ≡ n = cc in rw p at r

head_reach : (f : ℕ) (s : List ℕ) (c : Cursor) (u : Run) (n : Cursor) → head_at f s c ≡ got u n → Reach s c n
unfolding head_at
head_reach zero s c u n e = absurd (not_both e refl)
head_reach (suc f) s c u n e =
    let p = then_got (tag_at s c) (λ t m. cond (eqb t.left 0) (head_at f s m) (got t m)) u n e in
    let o = tag_on s c p.0 p.1 p.2 in
    let r : Reach s c p.1 = record { up = omega (arith, o.from); within = o.within } in
    head_test p.0 (head_at f s p.1) (eqb p.0.left 0) r (head_reach f s p.1 u n) p.3

run_test : {s : List ℕ} {c n : Cursor} {u : Run} (t : Run) (o : Outcome Run) (b : Bool) → c.at ≤ length s → (o ≡ got u n → Reach s c n)
    → cond b o (got t c) ≡ got u n → Reach s c n
run_test t o true h f e = f e
run_test t o false h f e = reach_self h cc

run_reach : (s : List ℕ) (t : Run) (c : Cursor) (u : Run) (n : Cursor) → c.at ≤ length s → run_at s t c ≡ got u n → Reach s c n
unfolding run_at
run_reach s t c u n h e = run_test t (head_at (length s) s c) (eqb t.left 0) h (head_reach (length s) s c u n) e

step_reach : (s : List ℕ) (t : Run) (c : Cursor) (u : Run) (n : Cursor) → c.at ≤ length s → step s t c ≡ got u n → Reach s c n
unfolding step
step_reach s t c u n h e =
    let p = then_got (run_at s t c) (λ q m. valued (λ (v : ℕ). run_of q.tag (q.left - 1)) (plain_at (width_of q.tag) s m)) u n e in
    let a = run_reach s t c p.0 p.1 h p.2 in
    let v = valued_got (λ (x : ℕ). run_of p.0.tag (p.0.left - 1)) (plain_at (width_of p.0.tag) s p.1) u n p.3 in
    let g = (plain_got (width_of p.0.tag) s p.1 v.0 n v.1).1 in
    let r : Reach s p.1 (cursor_at (p.1.at + width_of p.0.tag)) = record { up = omega arith; within = g.room } in
    reach_on a (subst (Reach s p.1) (sym g.next) r)

pub placed_got : (k : ℕ) (o : Outcome Run) (u : Run) (n : Cursor) → placed k o ≡ got u n → o ≡ got u n
placed_got k (got v m) u n e = e
placed_got k (refused r m) u n e = absurd (not_both e refl)

pub after_reach : (k : ℕ) (s : List ℕ) (c : Cursor) (u : Run) (n : Cursor) → c.at ≤ length s → after k s c ≡ got u n → Reach s c n
unfolding after
after_reach zero s c u n h e = reach_self h cc
after_reach (suc k) s c u n h e =
    let p = then_got (after k s c) (λ t m. placed k (step s t m)) u n e in
    let a = after_reach k s c p.0 p.1 h p.2 in
    reach_on a (step_reach s p.0 p.1 u n a.within (placed_got k (step s p.0 p.1) u n p.3))

pub past_none : (b : Bool) (x : Answer ℕ) (n : ℕ) → b ≡ false → cond b (gives 0) x ≡ gives n → x ≡ gives n
past_none b x n h e = ap (λ (c : Bool). cond c (gives 0) x) (sym h) ∙ e

used-reach : (s : List ℕ) (offset n : ℕ) (o : Outcome Run) → used_of offset o ≡ gives n
    → ((u : Run) (m : Cursor) → o ≡ got u m → Reach s (cursor_at offset) m) → offset + n ≤ length s
used-reach s offset n (got u m) e f = let r = f u m refl in let k : m.at - offset ≡ n = cc in omega (arith, r.up, r.within)
used-reach s offset n (refused r m) e f = absurd (not_given e)

module _ (s : List ℕ) (offset count kinds payloads n : ℕ) where
  pub used_within : UsedWithin s offset count kinds payloads n
  unfolding series_answer choose
  used_within some e =
      let a = reached limit (length s) _ _ not_given e in
      let b = past_none (eqb count 0) _ n (ne_eqb _ _ some) a.1 in
      let c = past not_given (leb (length s) offset) b in
      let d = reached kinds count _ _ not_given c.1 in
      let f = reached payloads count _ _ not_given d.1 in
      used-reach s offset n (after count s (cursor_at offset)) f.1
      (λ u m. after_reach count s (cursor_at offset) u m (omega (arith, leb-false (length s) offset c.0)))

  used-short : series_answer s offset count kinds payloads ≡ gives n → length s ≤ limit
  unfolding series_answer
  used-short e = (reached limit (length s) _ _ not_given e).0

  pub used_none : eqb count 0 ≡ true → series_answer s offset count kinds payloads ≡ gives n → 0 ≡ n
  unfolding series_answer choose
  used_none q e =
      let a = (reached limit (length s) _ _ not_given e).1 in
      let b : gives 0 ≡ gives n = rw q at a in
      cc

  pub used_small : UsedSmall s offset count kinds payloads n
  used_small e = by_count (eqb count 0) refl
    where
      by_count : (b : Bool) → eqb count 0 ≡ b → n < 2 ^ 32
      by_count true q = omega (arith, used_none q e)
      by_count false q = omega (arith, used-short e, used_within (eqb-false count 0 q) e)
