-- What the loop of the check knows: rows 0 to id - 1 are right, and the plan is theirs.
use Prim.Native.Nat.{ℕ, ◌+◌, ◌^◌, ◌≤◌, ◌<◌}
use mathlib.Core.Path.{◌≡◌, refl, ap, ◌∙◌}
use mathlib.Core.List.{List}
use Rattle.std.specs.Prelude.{Option, Some, None}
use mathlib.Core.Bool.{Bool, true, false}
use native.Mathlib.Omega.{arith}
use Rattle.hbc_io.specs.Answer.{Answer, gives, refused_at}
use Rattle.hbc_rows.specs.Rows.{row_at}
use Rattle.hbc_function_record.specs.declared.Layout.{Layout}
use Rattle.hbc_function_record.specs.Row.{width}
use Rattle.hbc_function_bytes.specs.Bytes.{right_row}
use Rattle.hbc_function_write.specs.declared.Plan.{Plan}
use Rattle.hbc_function_write.specs.Write.{free_at, end_at, right_end, checked, right_rows}
use Rattle.hbc_function_write.specs.Private.{Plain, far, first, plan_of, looked_at, next_plan}
use Rattle.hbc_function_write.proofs.Places.{free_bound}
use Rattle.hbc_function_write.proofs.Plans.{is_next, plan_inline, plan_large, plan_next, checked_more, late_row, right_rows_lem}

pub record Checking (rows : List ℕ) (layout : Layout) (count large table i : ℕ) (p : Plan) : Type 0 where
  pub within : i ≤ count
  pub right : checked 13 (λ i. right_row layout i (row_at width rows i)) i ≡ gives tt
  pub plan : p ≡ plan_of layout (row_at width rows) large table i

pub checking_first : (rows : List ℕ) (layout : Layout) (count large table : ℕ) → Checking rows layout count large table 0 (record { free = large; end = table; late = None })
unfolding checked plan_of free_at end_at first
checking_first rows layout count large table = record { within = omega arith; right = refl; plan = refl }

module _ {rows : List ℕ} {layout : Layout} {count large table i : ℕ} {p : Plan} (v : Checking rows layout count large table i p) where
  free_is : p.free ≡ free_at layout (row_at width rows) large i
  unfolding plan_of
  free_is = ap (λ (q : Plan). q.free) v.plan

  end_is : p.end ≡ end_at layout (row_at width rows) large table i
  unfolding plan_of
  end_is = ap (λ (q : Plan). q.end) v.plan

  late_is : p.late ≡ first (right_end layout (row_at width rows) large) i
  unfolding plan_of
  late_is = ap (λ (q : Plan). q.late) v.plan

  pub checking_small : large ≤ far → i < 2 ^ 32 → p.free ≤ 2 ^ 60
  checking_small h l = let a = free_bound layout (row_at width rows) large i in omega (arith, free_is)

  checking_next : {q : Plan} → i < count → right_row layout i (row_at width rows i) ≡ true → q ≡ next_plan layout (row_at width rows i) i p
      → Checking rows layout count large table (i + 1) q
  checking_next h r n =
      record {
        within = omega arith;
        right = checked_more 13 (λ i. right_row layout i (row_at width rows i)) i v.right r;
        plan = plan_next layout (row_at width rows) large table i v.plan refl n;
      }

  -- with a row that is right and goes inline, and with any other that is right
  pub checking_plain : {b : Bool} → i < count → Plain layout i (row_at width rows i) b → b ≡ true → Checking rows layout count large table (i + 1) p
  checking_plain h w e = checking_next h (w.right e) (plan_inline layout (row_at width rows i) i p (w.inline e))

  pub checking_more : {b : Bool} {r : Option Plan} {q : Plan} → i < count → Plain layout i (row_at width rows i) b → b ≡ false → r ≡ Some q
      → r ≡ looked_at layout (row_at width rows i) i p → Checking rows layout count large table (i + 1) q
  checking_more h l e f n =
      let t = is_next layout (row_at width rows i) i p f n in
      checking_next h t.0 (plan_large layout (row_at width rows i) i p (l.large e t.0) t.1)

  module _ (d : i ≡ count) where
    all_right : checked 13 (λ i. right_row layout i (row_at width rows i)) count ≡ gives tt
    all_right = rw (← d) v.right

    pub checking_late : {A : Type 0} {k : ℕ} → p.late ≡ Some k → (o : Answer A) → refused_at 14 k ≡ right_rows rows layout count large o
    checking_late h o = late_row rows layout count large o all_right (late_is ∙ ap (first (right_end layout (row_at width rows) large)) d) h

    pub checking_done : p.late ≡ None → gives p.end ≡ right_rows rows layout count large (gives (end_at layout (row_at width rows) large table count))
    checking_done h =
        ap gives (end_is ∙ ap (end_at layout (row_at width rows) large table) d)
        ∙ right_rows_lem rows layout count large (gives (end_at layout (row_at width rows) large table count)) all_right
        (late_is ∙ ap (first (right_end layout (row_at width rows) large)) d) h
