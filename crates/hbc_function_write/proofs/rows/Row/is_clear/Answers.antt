use native.Mathlib.Omega.{arith}
use Rattle.hbc_function_write.proofs.Plains.{clearing_first, clearing_more}
use Rattle.hbc_function_write.proofs.rows.Row.is_clear.Goals as goal

pub loop-k-init : goal.loop-k-init
loop-k-init c = clearing_first _ _

pub loop-k-preserved : goal.loop-k-preserved
loop-k-preserved c = clearing_more c.args.self.words.now c.args.self.small c.loop-k.invariant (omega (arith, c.loop-k-test.true)) c.pair.ensures
