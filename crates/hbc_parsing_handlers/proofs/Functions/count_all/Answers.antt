use Rattle.hbc_parsing_handlers.proofs.Laws.{counted_first, counted_more, counted_done}
use native.Mathlib.Omega.{arith}
use Rattle.hbc_parsing_handlers.proofs.Functions.count_all.Goals as goal

pub loop-i-init : goal.loop-i-init
loop-i-init c = counted_first _ _

pub loop-i-preserved : goal.loop-i-preserved
loop-i-preserved c = counted_more c.loop-i.invariant c.shown.ensures

pub returns : goal.returns
returns c = counted_done c.loop-i.invariant (omega arith)
