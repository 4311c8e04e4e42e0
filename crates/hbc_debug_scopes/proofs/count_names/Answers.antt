use native.Mathlib.Omega.{arith}
use Prim.Native.Nat.{◌+◌, ◌-◌}
use mathlib.Core.Path.{◌≡◌, sym, ◌∙◌}
use Rattle.hbc_io.specs.Answers.{says}
use Rattle.hbc_io.proofs.Reading.{found}
use Rattle.hbc_rows.proofs.Passes.{ends_first, ends_on, ends_stop, ends_done}
use Rattle.hbc_io_leb.proofs.Helds.{bits_got, bits_refused}
use Rattle.hbc_debug_parts.proofs.Along.{and_true, marked_first, marked_on, marked_stop, marked_done}
use Rattle.hbc_debug_scopes.proofs.Marks.{name_mark, name_failed}
use Rattle.hbc_debug_scopes.proofs.count_names.Goals as goal

pub loop-n-init : goal.loop-n-init
loop-n-init c = let z : c.args.count - 0 ≡ c.args.count = omega arith in rw z (ends_first _ _, marked_first _ _)

pub returns-in-Err : goal.returns-in-Err
returns-in-Err c =
    let e = found says c.read_sleb128_bits.ensures c.in-Err.is in
    let f = bits_refused _ _ _ _ e in
    record { ended = ends_stop (omega arith) f c.loop-n.invariant.0; exact_value = sym (and_true _) ∙ marked_stop (omega arith) f (name_failed _ _ _ _ e) c.loop-n.invariant.1 }

pub loop-n-preserved : goal.loop-n-preserved
loop-n-preserved c =
    let e = found says c.read_sleb128_bits.ensures c.in-Ok.is in
    let g = bits_got _ _ _ _ e in
    let n = c.args.count in
    let j : n - c.loop-n.n - 1 ≡ n - (c.loop-n.n + 1) = omega arith in
    rw (← j) (ends_on (omega arith) g.is c.loop-n.invariant.0, marked_on (omega arith) g.is (name_mark _ _ _ _ e) c.loop-n.invariant.1)

pub returns : goal.returns
returns c =
    let d = ends_done (omega arith) c.loop-n.invariant.0 in
    record { ended = record { count = omega (arith, d.count); place = d.place }; exact_value = marked_done (omega arith) c.loop-n.invariant.1 }
