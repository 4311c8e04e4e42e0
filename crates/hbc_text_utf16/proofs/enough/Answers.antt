use native.Mathlib.Omega.{arith}
use Rattle.hbc_text_utf16.proofs.Sizes.{text_enough}
use Rattle.hbc_text_utf16.proofs.enough.Goals as goal

pub returns-then-s-room : goal.returns-then-s-room
returns-then-s-room c = text_enough _ _ (λ i. (c.type_inv.s i).fits) (omega (arith, c.if-s-room.true))
