use native.Mathlib.Omega.{arith}
use Prim.Native.Nat.{◌+◌, ◌-◌}
use mathlib.Core.Path.{◌≡◌, refl, ap, ◌∙◌}
use lib.Seq.{sets}
use Rattle.hbc_io.specs.Answers.{says}
use Rattle.hbc_io.proofs.Reading.{found}
use Rattle.hbc_rows.proofs.Passes.{ends_first, ends_on, ends_stop, ends_done, written_first, written_on, written_stop, written_done}
use Rattle.hbc_debug_scopes.proofs.Fronts.{cell_is}
use Rattle.hbc_io_leb.proofs.Helds.{bits_got, bits_refused}
use Rattle.hbc_debug_scopes.proofs.write_names.Goals as goal

pub loop-n-init : goal.loop-n-init
loop-n-init c =
    let z : c.args.count - 0 ≡ c.args.count = omega arith in
    let y : c.args.at + 0 ≡ c.args.at = omega arith in
    rw (z, y) (ends_first _ _, written_first _ _)

pub returns-in-Err : goal.returns-in-Err
returns-in-Err c =
    let e = found says c.read_sleb128_bits.ensures c.in-Err.is in
    record { ended = ends_stop (omega arith) (bits_refused _ _ _ _ e) c.loop-n.invariant.0; names_after = written_stop (bits_refused _ _ _ _ e) c.loop-n.invariant.1 }

pub loop-n-preserved : goal.loop-n-preserved
loop-n-preserved c =
    let l = c.loop-n in
    let e = found says c.read_sleb128_bits.ensures c.in-Ok.is in
    let g = bits_got _ _ _ _ e in
    let w = cell_is c.args.strings g c.word_below.ensures (omega (arith, c.ranges.strings)) in
    let n = c.args.count in
    let j : n - l.n - 1 ≡ n - (l.n + 1) = omega arith in
    let k : c.args.at + l.n + 1 ≡ c.args.at + (l.n + 1) = omega arith in
    rw (← j, ← k)
    (ends_on (omega arith) g.is l.invariant.0, written_on 1 (omega arith) g.is refl (c.put_words.ensures ∙ ap (sets l.names (c.args.at + l.n)) w) l.invariant.1)

pub returns : goal.returns
returns c =
    let d = ends_done (omega arith) c.loop-n.invariant.0 in
    record { ended = record { count = omega (arith, d.count); place = d.place }; names_after = written_done (omega arith) c.loop-n.invariant.1 }
