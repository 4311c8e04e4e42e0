use native.Mathlib.Omega.{arith}
use Rattle.hbc_clean_large.proofs.Slots.{size_small, own_small, first_low}
use Rattle.hbc_clean_large.proofs.Sweeping.{tidy_none, lowest_early, lowest_large}
use Rattle.hbc_clean_large.proofs.lowest_large.Goals as goal

pub overflow_mul-end : goal.overflow_mul-end
overflow_mul-end c = omega (arith, own_small c.args.layout c.args.count c.header_size.result c.header_size.ensures (omega arith))

pub overflow_add-end : goal.overflow_add-end
overflow_add-end c = omega (arith, own_small c.args.layout c.args.count c.header_size.result c.header_size.ensures (omega arith), c.requires.0, c.requires.1)

pub returns-then-is_rising : goal.returns-then-is_rising
returns-then-is_rising c = tidy_none _ _ _ _ (rw c.header_size.ensures at (c.is_rising.ensures c.if-is_rising.true))

pub returns-then-early-eq0 : goal.returns-then-early-eq0
returns-then-early-eq0 c = lowest_early _ _ _ _ c.if-early-eq0.true (rw c.header_size.ensures at c.first_early-early.ensures)

pub first_slot-requires : goal.first_slot-requires
first_slot-requires c = omega (arith, c.large_size.ensures, (size_small c.args.layout).0)

pub windows-requires : goal.windows-requires
windows-requires c = (c.requires.0, c.requires.1, c.requires.2, rw c.first_slot.ensures (first_low c.args.layout _ c.large_size.result c.large_size.ensures (omega (arith, own_small c.args.layout c.args.count c.header_size.result c.header_size.ensures (omega arith), c.requires.0, c.requires.1))))

pub returns : goal.returns
returns c = lowest_large _ _ _ _ (rw c.header_size.ensures at c.first_early-early.ensures) (rw (c.first_slot.ensures, c.large_size.ensures, c.header_size.ensures) at c.windows.ensures) (λ i l e. let z = (c.requires.2.each i l).large e in let w = (size_small c.args.layout).0 in omega (arith, z, w))
