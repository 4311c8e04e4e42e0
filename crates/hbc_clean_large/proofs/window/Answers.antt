use Prim.Native.Nat.{◌+◌}
use mathlib.Core.Path.{refl}
use native.Mathlib.Omega.{arith}
use Rattle.hbc_clean_large.proofs.Slots.{bytes_small}
use Rattle.hbc_clean_large.proofs.Filling.{filled_first, least_first, window_off, window_before, window_past}
use Rattle.hbc_clean_large.proofs.window.Goals as goal

pub overflow_mul-from : goal.overflow_mul-from
overflow_mul-from c = omega (arith, bytes_small c.args.layout c.args.first c.large_size-size.result c.large_size-size.ensures (omega (arith, c.requires.3)))

pub overflow_mul-to : goal.overflow_mul-to
overflow_mul-to c = omega (arith, bytes_small c.args.layout (c.args.first + 65536) c.large_size-size.result c.large_size-size.ensures (omega (arith, c.requires.3)))

pub loop-id-init : goal.loop-id-init
loop-id-init c = (filled_first _ _ _ 65536 refl, least_first _ _ _ _)

pub loop-id-preserved-in_default : goal.loop-id-preserved-in_default
loop-id-preserved-in_default c = window_off c.args.layout _ _ _ _ _ _ c.in_default.ensures c.loop-id.invariant

pub loop-id-preserved-then-place-from : goal.loop-id-preserved-then-place-from
loop-id-preserved-then-place-from c = window_before c.args.layout _ _ _ _ _ _ c.large_size-size.ensures c.in-Some.ensures c.if-place-from.true c.loop-id.invariant

pub loop-id-preserved-then-to-place : goal.loop-id-preserved-then-to-place
loop-id-preserved-then-to-place c = window_past c.args.layout _ _ _ _ _ _ c.large_size-size.ensures c.in-Some.ensures c.if-to-place.true c.loop-id.invariant

pub loop-id-preserved : goal.loop-id-preserved
loop-id-preserved c = (c.look-low.ensures.fills, c.look-low.ensures.least _ c.loop-id.invariant.1)
