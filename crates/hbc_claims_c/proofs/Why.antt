-- What the number of the call on reasons tells.
use Prim.Native.Nat.{ℕ, suc, ◌≤◌}
use mathlib.Core.Path.{◌≡◌, refl, ap, sym, ◌∙◌}
use mathlib.Core.List.{List}
use native.Mathlib.Omega.{arith}
use lib.ListN.{length}
use lib.Dec.{ltb}
use Rattle.hbc_io.specs.Outcome.{limit, refusal_at}
use Rattle.std.specs.Prelude.{Result, Ok, Err}
use Rattle.hbc_io.specs.Answers.{answered}
use Rattle.hbc_parsing_handlers.specs.declared.Reason.{Reason}
use Rattle.hbc_parsing_handlers.specs.declared.Table.{Table}
use Rattle.hbc_io.specs.Answer.{Answer, gives, refuses, refused_at}
use Rattle.hbc_io.specs.Lends.{below}
use Rattle.hbc_io.specs.declared.Refusal.{Refusal}
use Rattle.hbc_io.proofs.Exits.{not_given}
use Rattle.hbc_rows.specs.Rows.{rows}
use Rattle.hbc_function_record.specs.Row.{width}
use Rattle.hbc_parsing_handlers.specs.Why.{why_answer, WhyNoHandlers}
use Rattle.hbc_c_code.specs.Code.{code_in}
use Rattle.hbc_c_parsing.specs.Parsing.{why_number, handlers_in, ToldWhy}
use Rattle.hbc_claims_law.proofs.Tests.{either}
use Rattle.hbc_claims_parsing.proofs.Why.{same_reason, numbered}
use Rattle.hbc_claims_c.specs.Why.{WhyTold}

-- a refusal has a number from 1 up
refuses_some : (s functions : List ℕ) (id : ℕ) (k : Refusal) → why_answer s functions id ≡ refuses k → 1 ≤ k.number
unfolding why_answer below
refuses_some s functions id k e =
    either (ltb limit (length s)) e (some 1 (omega arith))
    (λ f. either (ltb (rows width functions) (suc id)) f (some 11 (omega arith)) (λ g. absurd (not_given (sym g))))
  where
    some : (n : ℕ) → 1 ≤ n → refused_at {A = Result Table Reason} n 0 ≡ refuses k → 1 ≤ k.number
    some n h f = let z : refusal_at n 0 ≡ k = cc in let y : n ≡ k.number = ap (λ (x : Refusal). x.number) z in omega arith

tells : (q : Result (Result Table Reason) Refusal) (n r n' : ℕ) → ((k : Refusal) → q ≡ Err k → 1 ≤ k.number) → r ≡ code_in why_number (answered q)
    → n' ≡ handlers_in (answered q) n → WhyTold q n r n'
tells (Ok (Ok t)) n r n' some e f = record {
  shown = λ z. (t, refl, f);
  reason = λ x z. absurd (omega (arith, (numbered x).0));
  refused = λ h. absurd (omega arith);
}
tells (Ok (Err y)) n r n' some e f = record {
  shown = λ z. absurd (omega (arith, (numbered y).0));
  reason = λ x z. (ap (λ (z : Reason). Ok (Err z)) (same_reason y x (sym e ∙ z)), f);
  refused = λ h. absurd (omega (arith, (numbered y).1));
}
tells (Err k) n r n' some e f =
    let h = some k refl in
    record {
      shown = λ z. absurd (omega arith);
      reason = λ x z. absurd (omega (arith, (numbered x).1));
      refused = λ l. (k, refl, e, f);
    }

-- the answer that is told
abbrev told_as : Answer (Result Table Reason) → Result (Result Table Reason) Refusal
told_as (gives v) = Ok v
told_as (refuses k) = Err k

says_back : (a : Answer (Result Table Reason)) → answered (told_as a) ≡ a
says_back (gives v) = refl
says_back (refuses k) = refl

pub why_told : (s functions : List ℕ) (id n r n' : ℕ) → ToldWhy s functions id n r n' → (q : Result (Result Table Reason) Refusal) × WhyNoHandlers s functions id q × WhyTold q n r n'
why_told s functions id n r n' v =
    let q = told_as (why_answer s functions id) in
    let p : WhyNoHandlers s functions id q = says_back (why_answer s functions id) in (
      q,
      p,
      tells q n r n' (λ k e. refuses_some s functions id k (sym p ∙ ap answered e))
          (v.says ∙ ap (code_in why_number) (sym p))
          (v.leaves ∙ ap (λ (x : Answer (Result Table Reason)). handlers_in x n) (sym p)),
    )
