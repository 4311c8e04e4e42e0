use mathlib.Core.Path.{ap, ◌∙◌}
use native.Mathlib.Omega.{arith}
use Rattle.hbc_io.specs.Answer.{refuses}
use Rattle.hbc_function_write.proofs.Checking.{checking_first, checking_small, checking_plain, checking_more, checking_late, checking_done}
use Rattle.hbc_function_write.proofs.Plans.{wrong_row, is_wrong}
use Rattle.hbc_function_write.proofs.check.Goals as goal

pub loop-id-init : goal.loop-id-init
loop-id-init g c = checking_first _ _ _ _ _

pub loop-id-preserved-then-is_plain : goal.loop-id-preserved-then-is_plain
loop-id-preserved-then-is_plain g c = checking_plain c.loop-id.invariant c.loop-id-test.true (rw c.row-row.ensures at c.is_plain.ensures) c.if-is_plain.true

pub look_at-requires : goal.look_at-requires
look_at-requires g c = checking_small c.loop-id.invariant c.requires (omega arith)

pub loop-id-preserved : goal.loop-id-preserved
loop-id-preserved g c = checking_more c.loop-id.invariant c.loop-id-test.true (rw c.row-row.ensures at c.is_plain.ensures) c.if-is_plain.false c.in-Some.is (rw (c.row-row.ensures, c.LAYOUT.ensures) at c.look_at.ensures)

pub returns-in-None : goal.returns-in-None
returns-in-None g c = ap refuses c.refuse.ensures ∙ wrong_row _ _ _ _ _ _ c.loop-id-test.true c.loop-id.invariant.right (is_wrong _ _ _ _ c.in-None.is (rw (c.row-row.ensures, c.LAYOUT.ensures) at c.look_at.ensures))

pub returns-in-Some-late : goal.returns-in-Some-late
returns-in-Some-late g c = ap refuses c.refuse-in-Some-late.ensures ∙ checking_late c.loop-id.invariant (omega arith) c.in-Some-late.is _

pub returns-in-None-late : goal.returns-in-None-late
returns-in-None-late g c = checking_done c.loop-id.invariant (omega arith) c.in-None-late.is
