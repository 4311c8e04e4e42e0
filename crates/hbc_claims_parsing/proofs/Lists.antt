-- How many of the rows that the handlers' reader lists are of one function: as many as the reason says that are shown.
use Rattle.hbc_io.specs.declared.Refusal.{Refusal}
use Rattle.hbc_parsing_handlers.specs.declared.Table.{Table}
use Rattle.hbc_parsing_handlers.specs.declared.Reason.{Reason}
use Rattle.std.specs.Prelude.{Result, Ok, Err}
use Prim.Native.Nat.{ℕ, zero, suc, ◌+◌, ◌*◌, ◌≤◌, ◌<◌}
use mathlib.Core.Path.{◌≡◌, refl, ap, sym, ◌∙◌}
use mathlib.Core.List.{List}
use mathlib.Core.Bool.{Bool, true, false, cond}
use native.Mathlib.Omega.{arith}
use native.Mathlib.Numerals.{unary_clauses}
use lib.Dec.{ltb, eqb}
use borrow.Author.Tests.{eqb-true, eqb-false, ltb-true, ltb-false, lt-ltb, le-ltb}
use Rattle.hbc_rows.specs.Rows.{entry_at}
use Rattle.hbc_parsing_handlers.specs.Why.{why, shown_by, shown, WhyNoHandlers}
use Rattle.hbc_parsing_handlers.specs.Handlers.{handler_width, total, handler_row, ReadHandlers}
use Rattle.hbc_claims_law.specs.Terms.{count_of}
use Rattle.hbc_claims_parsing.specs.Why.{is_of, Lists}
use Rattle.hbc_claims_parsing.proofs.HandlerRows.{total_more, word_is, ok, shown_rows, rows_shown}
use Rattle.hbc_claims_parsing.proofs.Why.{accepted}

-- ---- numbers chosen in turn

module _ (chosen : ℕ → Bool) (base : ℕ) where
  -- c numbers from base on that are all chosen, or none of them is
  run_of : (b : Bool) (c : ℕ) → ((j : ℕ) → j < c → chosen (base + j) ≡ b) → count_of chosen (base + c) ≡ count_of chosen base + cond b c 0
  unfolding count_of
  run_of true zero all = simp unary_clauses refl
  run_of false zero all = simp unary_clauses refl
  run_of true (suc c) all =
      let p = run_of true c (λ j h. all j (omega arith)) in
      simp (unary_clauses, all c (omega arith)) (omega (arith, p))
  run_of false (suc c) all =
      let p = run_of false c (λ j h. all j (omega arith)) in
      simp (unary_clauses, all c (omega arith)) (omega (arith, p))

module _ (s functions : List ℕ) (count : ℕ) (t : List ℕ) (n : ℕ) (t' : List ℕ) (v : ReadHandlers s functions count t (Ok n) t') where
  -- the first word of a row is its function
  first_word : (i j : ℕ) → i < count → j < (shown s functions i).count → entry_at t' ((total s functions i + j) * handler_width) ≡ i
  unfolding entry_at handler_row
  first_word i j h k =
      rw v.leaves (simp unary_clauses at (word_is s functions t count i j 0 (ok s functions count t n t' v).holds h k (omega arith)))

  own_rows : (id i : ℕ) → i < count
      → count_of (is_of t' id) (total s functions (suc i)) ≡ count_of (is_of t' id) (total s functions i) + cond (eqb i id) (shown s functions i).count 0
  own_rows id i h =
      ap (count_of (is_of t' id)) (total_more s functions i)
      ∙ run_of (is_of t' id) (total s functions i) (eqb i id) (shown s functions i).count (λ j k. ap (λ x. eqb x id) (first_word i j h k))

  -- before its turn a function has none, after it all of its own
  turn : (id i : ℕ) (b d : Bool) → eqb i id ≡ b → ltb id i ≡ d → (c : ℕ → ℕ) → cond d (c id) 0 + cond b (c i) 0 ≡ cond (ltb id (suc i)) (c id) 0
  turn id i true true e k c = absurd (omega (arith, eqb-true i id e, ltb-true id i k))
  turn id i true false e k c = let z : i ≡ id = eqb-true i id e in rw (lt-ltb id (suc i) (omega arith), z) (omega arith)
  turn id i false true e k c = rw (lt-ltb id (suc i) (omega (arith, ltb-true id i k))) (simp unary_clauses refl)
  turn id i false false e k c =
      let z : (i ≡ id → ⊥) = eqb-false i id e in
      rw (le-ltb id (suc i) (omega (arith, ltb-false id i k))) refl

  rows_of : (id i : ℕ) → i ≤ count → count_of (is_of t' id) (total s functions i) ≡ cond (ltb id i) (shown s functions id).count 0
  unfolding total count_of
  rows_of id zero h = rw (le-ltb id 0 (omega arith)) refl
  rows_of id (suc i) h =
      own_rows id i (omega arith)
      ∙ ap (λ x. x + cond (eqb i id) (shown s functions i).count 0) (rows_of id i (omega arith))
      ∙ turn id i (eqb i id) (ltb id i) refl refl (λ k. (shown s functions k).count)

  -- a function below the count has the rows that are shown of it
  all_rows : (id : ℕ) → id < count → count_of (is_of t' id) n ≡ (shown s functions id).count
  all_rows id h =
      ap (count_of (is_of t' id)) (ok s functions count t n t' v).all ∙ rows_of id count (omega arith) ∙ by (lt-ltb id count h)
    where
      by : ltb id count ≡ true → cond (ltb id count) (shown s functions id).count 0 ≡ (shown s functions id).count
      by e = rw e

  module _ (id : ℕ) (r : Result (Result Table Reason) Refusal) (h : id < count) (q : WhyNoHandlers s functions id r) where
    is_why : r ≡ Ok (why s functions id)
    is_why = accepted s functions id r q ((ok s functions count t n t' v).short, omega (arith, (ok s functions count t n t' v).lent))

    the_why : (x : Result Table Reason) → r ≡ Ok x → why s functions id ≡ x
    the_why x e = cc (sym is_why ∙ e)

    of_why : (x : Result Table Reason) → why s functions id ≡ x → count_of (is_of t' id) n ≡ (shown_by x).count
    unfolding shown
    of_why x e = all_rows id h ∙ ap (λ (y : Result Table Reason). (shown_by y).count) e

    pub lists : Lists id r n t'
    unfolding shown
    lists = record {
      accepted = (why s functions id, is_why);
      shown = λ w e. of_why (Ok w) (the_why (Ok w) e);
      some = λ w e. rw (of_why (Ok w) (the_why (Ok w) e)) (shown_rows s functions id w (the_why (Ok w) e)).0;
      only = λ k. let p = rows_shown s functions id (rw (← all_rows id h) k) in (p.0, is_why ∙ ap Ok p.1);
      none = λ x e. of_why (Err x) (the_why (Err x) e);
    }
