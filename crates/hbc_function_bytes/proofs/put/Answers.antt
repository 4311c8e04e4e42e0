use native.Mathlib.Nat.{mod-lt}
use native.Mathlib.Omega.{arith}
use lib.Pow.{pow_pos, shl_exact}
use Rattle.hbc_bits.proofs.Laws.{one_shl}
use Rattle.hbc_function_bytes.specs.Private.{placed}
use Rattle.hbc_function_bytes.proofs.put.Goals as goal

pub returns : goal.returns
unfolding placed
returns c = rw (one_shl 32 _ c.requires.narrow) (shl_exact _ _ 32 (mod-lt _ (pow_pos _)) (omega (arith, c.requires.end)))
