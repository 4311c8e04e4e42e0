use native.Mathlib.Omega.{arith}
use Prim.Native.Nat.{◌+◌, ◌-◌}
use mathlib.Core.Path.{◌≡◌}
use lib.ListN.{length}
use Rattle.hbc_io.specs.Answers.{says}
use Rattle.hbc_io.proofs.Reading.{found}
use Rattle.hbc_rows.proofs.Passes.{counted_first, counted_on, counted_stop, counted_done, summed_first, summed_on, summed_stop, summed_done}
use Rattle.hbc_debug_parts.proofs.Along.{marked_first, marked_stop, marked_done}
use Rattle.hbc_debug_scopes.specs.Scopes.{scopes_of, scope_numbers}
use Rattle.hbc_debug_scopes.proofs.Fronts.{turn, scope_refused}
use Rattle.hbc_debug_scopes.proofs.Marks.{scope_marked, stop_mark}
use Rattle.hbc_debug_scopes.proofs.count.Goals as goal

pub loop-n-init : goal.loop-n-init
unfolding scopes_of scope_numbers
loop-n-init c =
    let z : length c.args.s.now - 0 ≡ length c.args.s.now = omega arith in
    rw z (counted_first _ _, summed_first _ _, omega arith, omega arith, marked_first _ _)

pub returns-in_default : goal.returns-in_default
returns-in_default c =
    let h = found says c.read_head-front.ensures.is c.in_default.is in
    let e = scope_refused _ _ _ _ h in
    record {
      scopes_are = record { scopes_are = counted_stop e c.loop-n.invariant.0; names_are = summed_stop e c.loop-n.invariant.1 };
      exact_value = marked_stop (omega arith) e (stop_mark _ _ _ _ h c.read_head-front.ensures.mark) c.loop-n.invariant.4;
    }

pub overflow_add-names : goal.overflow_add-names
overflow_add-names c =
    let t = turn _ _ _ _ _ _ (found says c.read_head-front.ensures.is c.in-Ok.is) c.count_names-read.ensures.ended in
    omega (arith, t.low, t.high, c.loop-n.invariant.2)

pub loop-n-preserved : goal.loop-n-preserved
loop-n-preserved c =
    let l = c.loop-n in
    let h = found says c.read_head-front.ensures.is c.in-Ok.is in
    let t = turn _ _ _ _ _ _ h c.count_names-read.ensures.ended in
    let all = length c.args.s.now in
    let j : all - l.n - 1 ≡ all - (l.n + 1) = omega arith in
    rw (← j) (
      counted_on (omega arith) t.is l.invariant.0,
      summed_on _ (omega arith) t.is t.count l.invariant.1,
      omega (arith, t.low, l.invariant.2),
      omega (arith, t.high),
      scope_marked (omega arith) t h c.read_head-front.ensures.mark c.count_names-read.ensures.exact_value l.invariant.4,
    )

pub returns : goal.returns
returns c = record {
  scopes_are = record { scopes_are = omega (arith, counted_done (omega arith) c.loop-n.invariant.0); names_are = summed_done (omega arith) c.loop-n.invariant.1 };
  exact_value = marked_done (omega arith) c.loop-n.invariant.4;
}
