-- What a refresh answers is the file's to say and not the table's, where the totals can be kept: two tables of one length are told the same.
use Prim.Native.Nat.{ℕ, ◌≤◌}
use mathlib.Core.Path.{◌≡◌, refl, ap, ◌∙◌}
use mathlib.Core.List.{List}
use mathlib.Core.Bool.{Bool, true, false, cond}
use lib.ListN.{length}
use lib.Dec.{ltb}
use borrow.Author.Tests.{ltb-false}
use Rattle.hbc_io.specs.Outcome.{limit}
use Rattle.hbc_io.specs.Answer.{Answer, gives, refuses, and_then}
use Rattle.hbc_io.specs.Lends.{below}
use Rattle.hbc_function_record.specs.declared.Layout.{Layout}
use Rattle.hbc_function_totals.specs.declared.Totals.{Totals}
use Rattle.hbc_function.specs.Table.{Table}
use Rattle.hbc_function.specs.Refresh.{held, kept_met, if_kept, refresh_answer}

-- the same test with the same number, and what follows where it is passed
pub below_same : {A : Type 0} {a c : ℕ} (b : ℕ) (x : A) {o p : A} → a ≡ c → (b ≤ a → o ≡ p) → below a b x o ≡ below c b x p
unfolding below
below_same {a = a} b x {o} {p} e h = by (ltb a b) refl ∙ ap (λ (n : ℕ). cond (ltb n b) x p) e
  where
    by : (t : Bool) → ltb a b ≡ t → cond t x o ≡ cond t x p
    by true q = refl
    by false q = h (ltb-false a b q)

-- totals that are kept decide nothing
pub kept_scan : (a : Answer ℕ) (k : Answer Totals) {now : Totals} → k ≡ gives now → and_then a (λ n. if_kept n k) ≡ a
kept_scan (gives n) k e = ap (if_kept n) e
kept_scan (refuses x) k e = refl

module _ (s : List ℕ) (layout : Layout) (start count low high : ℕ) where
  -- past the tests, the totals of a table can be kept
  abbrev pub Keeps : Table → Type 0
  Keeps t = length s ≤ limit → count ≤ held s layout start → (now : Totals) × (kept_met s layout start low high t count ≡ gives now)

  pub by_file : (t u : Table) → Keeps t → Keeps u → length t.rows ≡ length u.rows
      → refresh_answer s layout start count low high t ≡ refresh_answer s layout start count low high u
  unfolding refresh_answer
  by_file t u v w e =
      below_same _ _ refl (λ h1. below_same _ _ refl (λ h2. below_same _ _ refl (λ h3. below_same _ _ refl (λ h4. below_same _ _ e (λ h5. below_same _ _ refl (λ h6.
      let a = v h1 h6 in let b = w h1 h6 in
      rw (a.1, b.1) refl))))))
