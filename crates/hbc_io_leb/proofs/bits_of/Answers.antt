use native.Mathlib.Omega.{arith}
use mathlib.Core.Path.{◌∙◌, sym}
use Rattle.hbc_io_leb.proofs.Bits.{is_up, is_down, up_is, turned}
use Rattle.hbc_io_leb.proofs.bits_of.Goals as goal

pub returns-then-v-ge0 : goal.returns-then-v-ge0
returns-then-v-ge0 c = let u = is_up _ c.ranges.v c.if-v-ge0.true in up_is _ u.n u.is u.small ∙ sym u.bits

pub returns-else-v-ge0 : goal.returns-else-v-ge0
returns-else-v-ge0 c =
    let d = is_down _ c.ranges.v c.if-v-ge0.false in
    omega (arith, d.small, d.bits, up_is _ d.n (turned _ d.n d.is d.small) d.small)
