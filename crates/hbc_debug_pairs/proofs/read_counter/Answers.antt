use native.Mathlib.Omega.{arith}
use Rattle.hbc_io.specs.Answers.{says}
use Rattle.hbc_io.proofs.Reading.{found}
use Rattle.hbc_io_leb.proofs.Helds.{bits_got, bits_inside}
use Rattle.hbc_debug_pairs.proofs.Pairs.{counter_1, counter_2, counter_3}
use Rattle.hbc_debug_pairs.proofs.Marks.{count_on, count_off}
use Rattle.hbc_debug_pairs.proofs.read_counter.Goals as goal

pub returns-in_default : goal.returns-in_default
returns-in_default c = let e = found says c.read_sleb128_bits.ensures c.in_default.is in count_off c.args.s.now _ _ e (counter_1 c.args.s.now _ _ e)

pub overflow_sub-fits : goal.overflow_sub-fits
overflow_sub-fits c =
    let e = found says c.read_sleb128_bits.ensures c.in-Ok.is in
    omega (arith, bits_inside (bits_got _ _ _ _ e))

pub returns-then-fits : goal.returns-then-fits
returns-then-fits c = let e = found says c.read_sleb128_bits.ensures c.in-Ok.is in count_on c.args.s.now _ _ e (counter_2 c.args.s.now _ _ e (omega (arith, c.well_formed)) (omega arith))

pub returns-else-fits : goal.returns-else-fits
returns-else-fits c = let e = found says c.read_sleb128_bits.ensures c.in-Ok.is in count_on c.args.s.now _ _ e (counter_3 c.args.s.now _ _ e (omega (arith, c.well_formed)) (omega arith))
