use native.Mathlib.Omega.{arith}
use Prim.Native.Nat.{◌+◌, ◌-◌, ◌*◌}
use mathlib.Core.Path.{◌≡◌, ap, ◌∙◌}
use lib.ListN.{length}
use lib.Seq.{sets}
use Rattle.hbc_io.specs.Answers.{says}
use Rattle.hbc_io.proofs.Reading.{found}
use Rattle.hbc_rows.proofs.Passes.{written_first, written_stop, written_done, rowed_first, rowed_on, rowed_stop, rowed_done}
use Rattle.hbc_debug_scopes.specs.Scopes.{scopes_of, scope_width}
use Rattle.hbc_debug_scopes.proofs.Fronts.{head_most, turn, turned, scope_refused, row_size}
use Rattle.hbc_debug_scopes.proofs.write_rows.Goals as goal

pub loop-n-init : goal.loop-n-init
unfolding scopes_of
loop-n-init c =
    let z : length c.args.s.now - 0 ≡ length c.args.s.now = omega arith in
    rw z (rowed_first _ _, written_first _ _, omega arith, omega arith)

pub returns-in_default : goal.returns-in_default
returns-in_default c =
    let e = scope_refused _ _ _ _ (found says c.read_head.ensures.is c.in_default.is) in
    record { rows_are = rowed_stop e c.loop-n.invariant.0; names_are = written_stop e c.loop-n.invariant.1 }

pub write_names-read-requires : goal.write_names-read-requires
write_names-read-requires c =
    let e = found says c.read_head.ensures.is c.in-Ok.is in
    omega (arith, head_most _ _ _ _ e, c.loop-n.invariant.2, c.loop-n.invariant.3, c.well_formed.0)

pub overflow_cast-row : goal.overflow_cast-row
overflow_cast-row c =
    let t = turn _ _ _ _ _ _ (found says c.read_head.ensures.is c.in-Ok.is) c.write_names-read.ensures.ended in
    omega (arith, t.short, c.loop-n.invariant.3)

pub overflow_cast-row-in-loop-n : goal.overflow_cast-row-in-loop-n
overflow_cast-row-in-loop-n c =
    let t = turn _ _ _ _ _ _ (found says c.read_head.ensures.is c.in-Ok.is) c.write_names-read.ensures.ended in
    omega (arith, t.short, c.loop-n.invariant.2, c.loop-n.invariant.3)

pub overflow_cast-row-in-loop-n-2 : goal.overflow_cast-row-in-loop-n-2
overflow_cast-row-in-loop-n-2 c =
    let t = turn _ _ _ _ _ _ (found says c.read_head.ensures.is c.in-Ok.is) c.write_names-read.ensures.ended in
    omega (arith, t.short, t.low, t.high)

pub overflow_add-first : goal.overflow_add-first
overflow_add-first c =
    let t = turn _ _ _ _ _ _ (found says c.read_head.ensures.is c.in-Ok.is) c.write_names-read.ensures.ended in
    omega (arith, t.short, t.low, t.high, c.loop-n.invariant.2)

pub loop-n-preserved : goal.loop-n-preserved
loop-n-preserved c =
    let l = c.loop-n in
    let all = length c.args.s.now in
    let t = turn _ _ _ _ _ _ (found says c.read_head.ensures.is c.in-Ok.is) c.write_names-read.ensures.ended in
    let put = c.put_words.ensures ∙ ap (sets l.rows (scope_width * l.n)) (t.row l.first) in
    let j : all - l.n - 1 ≡ all - (l.n + 1) = omega arith in
    let k : scope_width * l.n + scope_width ≡ scope_width * (l.n + 1) = omega arith in
    rw (← j, ← k) (
      rowed_on scope_width _ (omega arith) t.is (row_size _ _) t.count put l.invariant.0,
      turned _ _ t (omega arith) c.write_names-read.ensures.names_after l.invariant.1,
      omega (arith, t.low, l.invariant.2),
      omega (arith, t.high),
    )

pub returns : goal.returns
returns c = record { rows_are = rowed_done (omega arith) c.loop-n.invariant.0; names_are = written_done (omega arith) c.loop-n.invariant.1 }

pub overflow_mul-n : goal.overflow_mul-n
overflow_mul-n c =
    let t = turn _ _ _ _ _ _ (found says c.read_head.ensures.is c.in-Ok.is) c.write_names-read.ensures.ended in
    omega (arith, t.short)
