use Rattle.std.proofs.Common.{◌+◌, ◌-◌, ◌*◌, ◌^◌, ◌<◌, arith, rules}
use mathlib.Core.Path.{refl}
use native.Mathlib.Nat.{sub_self}
use Rattle.hbc_bits.specs.Bits.{le_at}
use Rattle.hbc_bits.proofs.Laws.{Bytes}
use Rattle.hbc_io.proofs.Plains.{le_turn, le_room}
use Rattle.hbc_io.proofs.gather.Goals as goal

pub loop-k-init : goal.loop-k-init
unfolding le_at
loop-k-init c = (search rules, rw (sub_self))

-- the elements are bytes, and the number so far leaves room for one more
pub overflow_mul-v : goal.overflow_mul-v
overflow_mul-v c =
    let a = c.args in
    let bytes : Bytes a.s.now = λ i. (c.type_inv.s i).fits in
    let room : c.loop-k.v * 256 + 255 < 2 ^ 64 = rw c.loop-k.invariant.1 (le_room a.s.now (a.at + c.loop-k.k) (a.width - c.loop-k.k) bytes (omega arith)) in
    omega arith

pub overflow_add-v-in-loop-k : goal.overflow_add-v-in-loop-k
overflow_add-v-in-loop-k c =
    let a = c.args in
    let bytes : Bytes a.s.now = λ i. (c.type_inv.s i).fits in
    let room : c.loop-k.v * 256 + 255 < 2 ^ 64 = rw c.loop-k.invariant.1 (le_room a.s.now (a.at + c.loop-k.k) (a.width - c.loop-k.k) bytes (omega arith)) in
    omega (arith, bytes (a.at + (c.loop-k.k - 1)))

pub loop-k-preserved : goal.loop-k-preserved
loop-k-preserved c =
    let a = c.args in
    let l = c.loop-k in
    (omega arith, le_turn a.s.now a.at a.width l.k l.v _ c.loop-k-test.true l.invariant.0 (omega arith) l.invariant.1 refl)
