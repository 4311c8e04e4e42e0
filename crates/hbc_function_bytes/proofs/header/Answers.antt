use native.Mathlib.Omega.{arith}
use Rattle.hbc_function_bytes.proofs.Words.{packing_room, packing_more, packing_done}
use Rattle.hbc_function_bytes.proofs.header.Goals as goal

pub overflow_add-words : goal.overflow_add-words
overflow_add-words g c = let l = packing_room _ _ c.requires c.loop-f.invariant (omega (arith, c.loop-f-test.true)) _ c.put.ensures in omega arith

pub loop-f-preserved : goal.loop-f-preserved
loop-f-preserved g c = packing_more _ _ c.requires c.loop-f.invariant (omega (arith, c.loop-f-test.true)) _ c.put.ensures

pub returns : goal.returns
returns g c = packing_done _ _ c.requires c.loop-f.invariant (omega (arith, c.loop-f-test.false))
