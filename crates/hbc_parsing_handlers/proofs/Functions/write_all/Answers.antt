use Rattle.hbc_parsing_handlers.proofs.Laws.{handled_first, handled_length, handled_more, handled_done}
use native.Mathlib.Omega.{arith}
use Rattle.hbc_parsing_handlers.proofs.Functions.write_all.Goals as goal

pub loop-i-init : goal.loop-i-init
loop-i-init c = handled_first _ _ _

pub loop-i-preserved : goal.loop-i-preserved
loop-i-preserved c = handled_more c.loop-i.invariant c.shown-t.ensures c.write_one.ensures

pub shape_of-rows : goal.shape_of-rows
shape_of-rows c = handled_length c.loop-i.invariant

pub returns : goal.returns
returns c = handled_done c.loop-i.invariant (omega arith)
