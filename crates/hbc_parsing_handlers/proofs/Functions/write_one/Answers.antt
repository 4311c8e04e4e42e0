use native.Mathlib.Omega.{arith}
use Rattle.hbc_parsing_handlers.proofs.Laws.{rowed_first, rowed_length, rowed_more, rowed_done}
use Rattle.hbc_parsing_handlers.proofs.Functions.write_one.Goals as goal

pub loop-j-init : goal.loop-j-init
loop-j-init c = rowed_first

pub loop-j-preserved : goal.loop-j-preserved
loop-j-preserved c =
    let turn = c in
    let head = turn.loop-j in
    let start = turn.u32_at-start.ensures in
    let end = turn.u32_at-end.ensures in
    rowed_more head.invariant (omega arith) start end turn.u32_at-target.ensures c.put_row.ensures

pub shape_of-rows : goal.shape_of-rows
shape_of-rows c = rowed_length c.loop-j.invariant

pub returns : goal.returns
returns c = rowed_done c.loop-j.invariant (omega arith)
