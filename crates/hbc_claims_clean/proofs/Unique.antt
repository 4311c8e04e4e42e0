-- Each call leaves one outcome: its promise fixes the answer.
use Prim.Native.Nat.{ℕ}
use mathlib.Core.Path.{◌≡◌, refl, sym, ap, ◌∙◌}
use native.Mathlib.Omega.{arith}
use Rattle.hbc_io.specs.Answer.{gives}
use Rattle.hbc_io.proofs.Exits.{not_given}
use mathlib.Core.Bool.{cond}
use lib.Dec.{eqb}
use Rattle.std.specs.Prelude.{Option, Some, None, Ok, Err}
use Rattle.hbc_io.proofs.Alone.{one_answer}
use Rattle.hbc_clean.specs.declared.Rule.{Rule}
use Rattle.hbc_clean.specs.declared.Rule.TheVariants as rule_of
use Rattle.hbc_clean.specs.declared.Broken.{Broken}
use Rattle.hbc_clean.specs.Bundle.{Verdict, clean, broken, number_of, found_by, Bundle, says_bundle}
use Rattle.hbc_claims_clean.specs.Unique.{Unique}

pub clean_not : {k p : ℕ} → clean ≡ broken k p → ⊥
clean_not e = let z : ◌≡◌ {A = ℕ} 0 1 = cc in omega arith

-- a rule by its number
abbrev rule_at : ℕ → Rule
rule_at k =
    cond (eqb k 1) rule_of.LargeHeaders
    (cond (eqb k 2) rule_of.KindRuns (cond (eqb k 3) rule_of.Strings (cond (eqb k 4) rule_of.EmptyTags rule_of.LiteralStrings)))

rule_back : (r : Rule) → rule_at (number_of r) ≡ r
rule_back rule_of.LargeHeaders = refl
rule_back rule_of.KindRuns = refl
rule_back rule_of.Strings = refl
rule_back rule_of.EmptyTags = refl
rule_back rule_of.LiteralStrings = refl

one_broken : (a b : Broken) → broken (number_of a.rule) a.place ≡ broken (number_of b.rule) b.place → a ≡ b
one_broken a b e =
    let p : number_of a.rule ≡ number_of b.rule = cc in
    let q : a.place ≡ b.place = cc in
    let r : a.rule ≡ b.rule = sym (rule_back a.rule) ∙ ap rule_at p ∙ rule_back b.rule in
    ap (λ (x : Rule). make x a.place) r ∙ ap (λ (x : ℕ). make b.rule x) q
  where
    make : Rule → ℕ → Broken
    make rule place = record { rule = rule; place = place }

one_found : (a b : Option Broken) → found_by a ≡ found_by b → a ≡ b
one_found None None e = refl
one_found (Some a) (Some b) e = ap Some (one_broken a b e)
one_found None (Some b) e = absurd (clean_not e)
one_found (Some a) None e = absurd (clean_not (sym e))

pub one_bundle : (r q : Bundle) → says_bundle r ≡ says_bundle q → r ≡ q
one_bundle (Ok a) (Ok b) e = let z : found_by a ≡ found_by b = cc in ap Ok (one_found a b z)
one_bundle (Err x) (Err y) e = cc
one_bundle (Ok a) (Err y) e = absurd (not_given (sym e))
one_bundle (Err x) (Ok b) e = absurd (not_given e)

pub unique : Unique
unique = record {
  check_large = λ k a r q s u e f. one_answer r q (e ∙ sym f);
  check_series = λ k a r q s u e f. one_answer r q (e ∙ sym f);
  check_bundle = λ k a r q s u e f. one_bundle r q (e ∙ sym f);
}
