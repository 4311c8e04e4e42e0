use Rattle.hbc_text_utf8.proofs.Copies.{copy_end}
use native.Mathlib.Omega.{arith}
use Rattle.hbc_text_utf8.proofs.put.copy.Goals as goal

pub returns-after-loop-i : goal.returns-after-loop-i
returns-after-loop-i c = copy_end _ _ _ c.loop-i.invariant c.requires (omega arith)
