use mathlib.Core.Path.{sym}
use native.Mathlib.Omega.{arith}
use Rattle.hbc_rows.proofs.Puts.{put_none}
use Rattle.hbc_function_put.proofs.Puts.{byte_more}
use Rattle.hbc_function_put.proofs.put_bytes.Goals as goal

pub loop-k-init : goal.loop-k-init
loop-k-init g c = sym (put_none _ _)

pub loop-k-preserved : goal.loop-k-preserved
loop-k-preserved g c = byte_more _ _ _ _ (omega arith) c.loop-k.invariant
