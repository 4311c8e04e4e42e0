use native.Mathlib.Omega.{arith}
use Prim.Native.Nat.{◌+◌, ◌-◌}
use mathlib.Core.Path.{◌≡◌}
use lib.ListN.{length}
use Rattle.hbc_io.specs.Answers.{says}
use Rattle.hbc_io.proofs.Reading.{found}
use Rattle.hbc_io_strings.proofs.Strings.{span_got, span_refused}
use Rattle.hbc_rows.proofs.Passes.{counted_first, counted_on, counted_stop, counted_done}
use Rattle.hbc_debug_parts.proofs.Along.{marked_first, marked_on, marked_stop, marked_done}
use Rattle.hbc_debug_strings.specs.Strings.{strings_of, string_numbers}
use Rattle.hbc_debug_strings.proofs.Marks.{string_mark}
use Rattle.hbc_debug_strings.proofs.count.Goals as goal

pub loop-n-init : goal.loop-n-init
unfolding strings_of string_numbers
loop-n-init c = let z : length c.args.part.now - 0 ≡ length c.args.part.now = omega arith in rw z (counted_first _ _, marked_first _ _)

pub returns-in_default : goal.returns-in_default
returns-in_default c =
    let e = span_refused _ _ (found says c.read_length_prefixed_string.ensures c.in_default.is) in
    record { strings_value = counted_stop e c.loop-n.invariant.0; exact_value = marked_stop (omega arith) e c.length_exact.ensures c.loop-n.invariant.1 }

pub loop-n-preserved : goal.loop-n-preserved
loop-n-preserved c =
    let m = found says c.read_length_prefixed_string.ensures c.in-Ok.is in
    let e = span_got _ _ m in
    let all = length c.args.part.now in
    let j : all - c.loop-n.n - 1 ≡ all - (c.loop-n.n + 1) = omega arith in
    rw (← j) (counted_on (omega arith) e c.loop-n.invariant.0, marked_on (omega arith) e (string_mark _ _ m) c.loop-n.invariant.1)

pub returns : goal.returns
returns c = record {
  strings_value = omega (arith, counted_done (omega arith) c.loop-n.invariant.0);
  exact_value = marked_done (omega arith) c.loop-n.invariant.1;
}
