use mathlib.Core.Path.{sym}
use native.Mathlib.Omega.{arith}
use native.Mathlib.Nat.{zero-mul, add-zero}
use Rattle.hbc_buffer.proofs.Fills.{run_room, run_step}
use Rattle.hbc_lowest.proofs.Laws.{none_first}
use Rattle.hbc_clean_series.proofs.Highs.{high_here, high_not, high_none}
use Rattle.hbc_clean_series.proofs.any_high.Goals as goal

pub loop-i-init : goal.loop-i-init
loop-i-init c = (none_first, rw zero-mul (sym (add-zero _)))

pub payload-requires : goal.payload-requires
payload-requires c = (c.requires.0, run_room _ _ _ _ c.loop-i-test.true c.loop-i.invariant.1 c.requires.1)

pub returns-then-strings-payload : goal.returns-then-strings-payload
returns-then-strings-payload c = high_here _ _ _ _ c.loop-i-test.true c.loop-i.invariant.1 c.payload.ensures (omega (arith, c.if-strings-payload.true))

pub overflow_add-p : goal.overflow_add-p
overflow_add-p c = omega (arith, c.width-w.ensures, run_room _ _ _ _ c.loop-i-test.true c.loop-i.invariant.1 c.requires.1, c.requires.0)

pub loop-i-preserved : goal.loop-i-preserved
loop-i-preserved c = (high_not _ _ _ _ c.loop-i.invariant.0 c.loop-i.invariant.1 c.payload.ensures (omega (arith, c.if-strings-payload.false)), run_step _ _ _ c.loop-i.invariant.1 c.width-w.ensures)

pub returns : goal.returns
returns c = high_none _ _ _ _ c.loop-i.invariant.0 (omega arith)
