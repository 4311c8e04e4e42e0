use Rattle.hbc_text_utf8.proofs.Copies.{copy_next, copy_last}
use native.Mathlib.Omega.{arith}
use Rattle.hbc_text_utf8.proofs.put.copy_many.Goals as goal

pub loop-i-preserved : goal.loop-i-preserved
loop-i-preserved c = copy_next _ _ _ _ c.loop-i.invariant 8 (omega arith) (omega arith) c.move_eight.ensures

pub returns : goal.returns
returns c = copy_last _ _ _ c.loop-i.invariant c.requires.1 _ 8 c.loop-i-test.false (omega arith) c.move_eight-2.ensures
