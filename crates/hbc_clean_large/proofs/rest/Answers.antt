use native.Mathlib.Omega.{arith}
use Rattle.hbc_clean_large.proofs.Slots.{size_small, slot_below, first_small, bytes_small}
use Rattle.hbc_clean_large.proofs.Sweeping.{swept_next, swept_zero, swept_all}
use Rattle.hbc_clean_large.proofs.rest.Goals as goal

pub loop-first-init : goal.loop-first-init
loop-first-init c = (omega (arith, c.requires.3), record { on = λ a b w. w })

pub overflow_mul-first : goal.overflow_mul-first
overflow_mul-first c = omega (arith, bytes_small c.args.layout c.loop-first.first c.large_size-size.result c.large_size-size.ensures (omega (arith, c.loop-first.invariant.0)))

pub window-low-requires : goal.window-low-requires
window-low-requires c = (c.requires.0, c.requires.1, c.requires.2, c.loop-first.invariant.0)

pub returns-then-low-eq0 : goal.returns-then-low-eq0
returns-then-low-eq0 c = record { on = λ a b w. swept_zero c.args.layout _ _ c.if-low-eq0.true (swept_next c.args.layout _ _ (c.loop-first.invariant.1.on a b w) c.window-low.ensures) _ }

pub loop-first-preserved : goal.loop-first-preserved
loop-first-preserved c = let z = first_small c.args.layout c.loop-first.first (rw c.large_size-size.ensures at c.loop-first-test.true) in (omega (arith, z, c.requires.1), record { on = λ a b w. swept_next c.args.layout _ _ (c.loop-first.invariant.1.on a b w) c.window-low.ensures })

pub returns : goal.returns
returns c = record { on = λ a b x. swept_all c.args.layout _ _ (c.loop-first.invariant.1.on a b x) (λ i l e. slot_below c.args.layout (let z = (c.requires.2.each i l).large e in let w = (size_small c.args.layout).0 in let v = rw c.large_size-size.ensures at c.loop-first-test.false in omega (arith, z, w, v))) _ }
