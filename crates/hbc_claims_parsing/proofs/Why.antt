-- The reason is true of the file, and the first that is.
use Rattle.hbc_io.specs.declared.Refusal.{Refusal}
use Rattle.std.specs.Prelude.{Result, Ok, Err}
use Prim.Native.Nat.{ℕ, suc, ◌+◌, ◌-◌, ◌*◌, ◌%◌, ◌≤◌, ◌<◌}
use mathlib.Core.Path.{◌≡◌, refl, ap, sym, subst, ◌∙◌}
use mathlib.Core.List.{List}
use mathlib.Core.Bool.{Bool, true, false, cond}
use native.Mathlib.Omega.{arith}
use lib.ListN.{length}
use lib.Dec.{ltb, leb, eqb}
use borrow.Author.Tests.{eqb-true, eqb-false, ltb-true, ltb-false, leb-true, leb-false}
use Rattle.hbc_bits.specs.Bits.{le_at, field}
use Rattle.hbc_io.specs.Outcome.{refusal_at}
use Rattle.hbc_io.specs.Lends.{below, choose}
use Rattle.hbc_io.specs.Plain.{aligned_up}
use Rattle.hbc_io.specs.Answers.{answered}
use Rattle.hbc_io.proofs.Alone.{one_answer}
use Rattle.hbc_io.proofs.Exits.{is_below, not_below, reached, not_given}
use Rattle.hbc_parsing_handlers.specs.declared.Table.{Table}
use Rattle.hbc_parsing_handlers.specs.declared.Reason.{Reason}
use Rattle.hbc_parsing_handlers.specs.declared.Reason.TheVariants as r
use Rattle.hbc_parsing_handlers.specs.Why.{table, counted, table_at, why_at, info_in, flags_in, why, reason_number, why_answer, WhyNoHandlers}
use Rattle.hbc_claims_parsing.specs.Why.{Rounded, Counts, Says, First, Shows, Asked, Explains}

-- ---- a reason's number is its own

abbrev reason_of : ℕ → Reason
reason_of n =
    cond (eqb n 1) r.FlagClear
    (cond (eqb n 2) r.InfoZero
    (cond (eqb n 3) r.InfoPast
    (cond (eqb n 4) r.NoRoom
    (cond (eqb n 5) r.CountZero
    (cond (eqb n 6) r.CountHigh r.Cut)))))

reason_back : (x : Reason) → reason_of (reason_number x) ≡ x
reason_back r.FlagClear = refl
reason_back r.InfoZero = refl
reason_back r.InfoPast = refl
reason_back r.NoRoom = refl
reason_back r.CountZero = refl
reason_back r.CountHigh = refl
reason_back r.Cut = refl

pub same_reason : (x y : Reason) → reason_number x ≡ reason_number y → x ≡ y
same_reason x y e = sym (reason_back x) ∙ ap reason_of e ∙ reason_back y

-- from 1 to 7
pub numbered : (x : Reason) → (1 ≤ reason_number x) × (reason_number x < 8)
numbered r.FlagClear = (omega arith, omega arith)
numbered r.InfoZero = (omega arith, omega arith)
numbered r.InfoPast = (omega arith, omega arith)
numbered r.NoRoom = (omega arith, omega arith)
numbered r.CountZero = (omega arith, omega arith)
numbered r.CountHigh = (omega arith, omega arith)
numbered r.Cut = (omega arith, omega arith)

-- ---- the count's place

rounded_by : (info : ℕ) (b : Bool) → eqb (info % 4) 0 ≡ b → Rounded info (cond b info (info + (4 - info % 4)))
rounded_by info true e = let z = eqb-true (info % 4) 0 e in record { multiple = z; up = omega arith; first = omega arith }
rounded_by info false e =
    let z : (info % 4 ≡ 0 → ⊥) = eqb-false (info % 4) 0 e in
    record { multiple = omega arith; up = omega arith; first = omega arith }

rounded : (info : ℕ) → Rounded info (aligned_up 4 info)
rounded info = rounded_by info (eqb (info % 4) 0) refl

one_place : {info at to : ℕ} → Rounded info at → Rounded info to → at ≡ to
one_place v w = omega (arith, v.multiple, v.up, v.first, w.multiple, w.up, w.first)

-- ---- reason after reason

module _ (s : List ℕ) (info flags : ℕ) where
  abbrev at : ℕ
  at = aligned_up 4 info

  -- none with a number below k is true
  abbrev Past : ℕ → Type 0
  Past k = (y : Reason) → reason_number y < k → Says s info flags y → ⊥

  past_more : (x : Reason) → Past (reason_number x) → (Says s info flags x → ⊥) → Past (suc (reason_number x))
  past_more x p never y h v = by (eqb (reason_number y) (reason_number x)) refl
    where
      by : (b : Bool) → eqb (reason_number y) (reason_number x) ≡ b → ⊥
      by true e = never (subst (Says s info flags) (same_reason y x (eqb-true _ _ e)) v)
      by false e = let z : (reason_number y ≡ reason_number x → ⊥) = eqb-false _ _ e in p y (omega arith) v

  -- what is known of an answer
  abbrev Known : Result Table Reason → Type 0
  Known (Ok t) = Shows s info flags t
  Known (Err x) = First s info flags x

  -- a test that decides whether a reason is true, and what follows where it is not
  step : (b : Bool) (x : Reason) (o : Result Table Reason) → Past (reason_number x) → (b ≡ true → Says s info flags x) → (b ≡ false → Says s info flags x → ⊥)
      → (b ≡ false → Past (suc (reason_number x)) → Known o) → Known (cond b (Err x) o)
  step true x o p holds never on = record { holds = holds refl; none = p }
  step false x o p holds never on = on refl (past_more x p (never refl))

  -- the one count, where there is room for it
  the_count : at + 4 ≤ length s → Counts s info at (le_at s at 4)
  the_count h = record { place = rounded info; there = h; is = refl }

  count_is : {to n : ℕ} → Counts s info to n → (to ≡ at) × (n ≡ le_at s at 4)
  count_is v = let z = one_place v.place (rounded info) in (z, v.is ∙ ap (λ k. le_at s k 4) z)

  module _ (there : at + 4 ≤ length s) where
    -- some triple is cut exactly where all of them together are
    cut_of : (le_at s at 4 ≡ 0 → ⊥) → length s < at + 4 + 12 * le_at s at 4 → Says s info flags r.Cut
    cut_of some h = (at, le_at s at 4, le_at s at 4 - 1, the_count there, omega arith, omega arith)

    cut_not : at + 4 + 12 * le_at s at 4 ≤ length s → Says s info flags r.Cut → ⊥
    cut_not h v = let z = count_is v.3 in omega (arith, z.0, z.1, v.4, v.5)

    shows : (field 3 1 flags ≡ 0 → ⊥) → (info ≡ 0 → ⊥) → info < length s → (le_at s at 4 ≡ 0 → ⊥) → le_at s at 4 ≤ 1000
        → at + 4 + 12 * le_at s at 4 ≤ length s → Past 8 → Shows s info flags (table (le_at s at 4) (at + 4))
    unfolding field
    shows flag zero inside some few room p = record {
      none = λ x. p x (numbered x).1;
      flag = omega arith;
      inside = (omega arith, inside);
      at = at;
      count = the_count there;
      few = (omega arith, few);
      behind = refl;
      room = room;
    }

  known : Known (why_at s info flags)
  unfolding why_at table_at counted choose below
  known =
      step (eqb (field 3 1 flags) 0) r.FlagClear _ (λ y h v. absurd (omega (arith, (numbered y).0, h))) (eqb-true _ _) (eqb-false _ _) (λ flag p₁.
      step (eqb info 0) r.InfoZero _ p₁ (eqb-true _ _) (eqb-false _ _) (λ zero p₂.
      step (leb (length s) info) r.InfoPast _ p₂ (leb-true _ _) (λ e h. absurd (omega (arith, leb-false (length s) info e, h))) (λ inside p₃.
      step (ltb (length s) (at + 4)) r.NoRoom _ p₃ (λ e. (at, rounded info, ltb-true _ _ e))
      (λ e v. absurd (omega (arith, ltb-false (length s) (at + 4) e, one_place v.1 (rounded info), v.2))) (λ there p₄.
      let room = ltb-false _ _ there in
      step (eqb (le_at s at 4) 0) r.CountZero _ p₄ (λ e. (at, subst (Counts s info at) (eqb-true _ _ e) (the_count room)))
      (λ e v. eqb-false _ _ e (sym (count_is v.1).1)) (λ some p₅.
      step (ltb 1000 (le_at s at 4)) r.CountHigh _ p₅ (λ e. (at, le_at s at 4, the_count room, ltb-true _ _ e))
      (λ e v. absurd (omega (arith, ltb-false 1000 (le_at s at 4) e, (count_is v.2).1, v.3))) (λ few p₆.
      step (ltb (length s) (at + 4 + 12 * le_at s at 4)) r.Cut _ p₆ (λ e. cut_of room (eqb-false _ _ some) (ltb-true _ _ e)) (λ e. cut_not room (ltb-false _ _ e)) (λ all p₇.
      shows room (eqb-false _ _ flag) (eqb-false _ _ zero) (leb-false _ _ inside) (eqb-false _ _ some) (ltb-false _ _ few) (ltb-false _ _ all) p₇)))))))

  -- nothing else is answered than what is known
  one_first : {x y : Reason} → First s info flags x → First s info flags y → x ≡ y
  one_first {x} {y} f g = by (ltb (reason_number x) (reason_number y)) refl (ltb (reason_number y) (reason_number x)) refl
    where
      by : (b : Bool) → ltb (reason_number x) (reason_number y) ≡ b → (d : Bool) → ltb (reason_number y) (reason_number x) ≡ d → x ≡ y
      by true e d k = absurd (g.none x (ltb-true _ _ e) f.holds)
      by false e true k = absurd (f.none y (ltb-true _ _ k) g.holds)
      by false e false k =
          let h = ltb-false (reason_number x) (reason_number y) e in
          let l = ltb-false (reason_number y) (reason_number x) k in
          same_reason x y (omega arith)

  only_first : (v : Result Table Reason) → Known v → (x : Reason) → First s info flags x → v ≡ Err x
  only_first (Ok t) k x f = absurd (k.none x f.holds)
  only_first (Err y) k x f = ap Err (one_first k f)

  only_none : (v : Result Table Reason) → Known v → ((x : Reason) → Says s info flags x → ⊥) → (t : Table) × (v ≡ Ok t)
  only_none (Ok t) k n = (t, refl)
  only_none (Err y) k n = absurd (n y k.holds)

-- ---- from the call's promise

module _ (s functions : List ℕ) (id : ℕ) where
  is_known : (x : Result Table Reason) → why s functions id ≡ x → Known s (info_in functions id) (flags_in functions id) x
  unfolding why
  is_known x e = subst (Known s (info_in functions id) (flags_in functions id)) e (known s (info_in functions id) (flags_in functions id))

  record Answered (x : Result Table Reason) : Type 0 where
    asked : Asked s functions id
    is : why s functions id ≡ x

  module _ (r : Result (Result Table Reason) Refusal) (v : WhyNoHandlers s functions id r) where
    -- what is due is answered
    due : (q : Result (Result Table Reason) Refusal) → answered q ≡ why_answer s functions id → r ≡ q
    due q e = one_answer r q (v ∙ sym e)

    pub accepted : Asked s functions id → r ≡ Ok (why s functions id)
    unfolding why_answer
    accepted a = due (Ok (why s functions id)) (not_below _ _ _ _ a.0 (not_below _ _ _ _ a.1 refl))

    was_answered : (x : Result Table Reason) → r ≡ Ok x → Answered x
    unfolding why_answer
    was_answered x e =
        let p = reached _ _ _ _ not_given (sym v ∙ ap answered e) in
        let q = reached _ _ _ _ not_given p.1 in
        record { asked = (p.0, q.0); is = cc q.1 }

    pub explains : Explains s functions id r
    unfolding why_answer
    explains = record {
      accepted = λ a. (why s functions id, accepted a);
      only = λ x e. (was_answered x e).asked;
      too_long = λ h. due (Err (refusal_at 1 0)) (is_below _ _ _ _ h refl);
      no_row = λ h k. due (Err (refusal_at 11 0)) (not_below _ _ _ _ h (is_below _ _ _ _ (omega arith) refl));
      reason = λ x e. is_known (Err x) (was_answered (Err x) e).is;
      first = λ a x f. accepted a ∙ ap Ok (only_first s (info_in functions id) (flags_in functions id) (why s functions id) (is_known _ refl) x f);
      shown = λ t e. is_known (Ok t) (was_answered (Ok t) e).is;
      none = λ a n. let p = only_none s (info_in functions id) (flags_in functions id) (why s functions id) (is_known _ refl) n in (p.0, accepted a ∙ ap Ok p.1);
    }
