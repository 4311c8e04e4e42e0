use native.Mathlib.Omega.{arith}
use borrow.Author.Rules.{rules}
use mathlib.Core.Bool.{Bool, ◌&&◌}
use mathlib.Core.Path.{◌≡◌, ap, ◌∙◌}
use Rattle.std.specs.Prelude.{Err}
use Rattle.hbc_io.specs.Answers.{says}
use Rattle.hbc_io.proofs.Reading.{found}
use Rattle.hbc_io_leb.proofs.Helds.{bits_got, bits_inside}
use Rattle.hbc_debug_scopes.proofs.Fronts.{head_1, head_2, head_3, head_4, head_5}
use Rattle.hbc_debug_scopes.proofs.Marks.{mark_1, mark_2, mark_3, mark_4}
use Rattle.hbc_debug_scopes.proofs.front.Goals as goal

pub returns-in_err-parent : goal.returns-in_err-parent
returns-in_err-parent c =
    let e = found says c.read_sleb128_bits.ensures c.in_err-parent.was in
    let r : c.from_residual.result ≡ Err c.in_err-parent.field-0.0 = search rules in
    record { is = rw r (head_1 c.args.s.now c.args.c _ _ e); mark = rw c.requires (mark_1 _ _ _ _ e) }

pub returns-in_err-flags : goal.returns-in_err-flags
returns-in_err-flags c =
    let p = found says c.read_sleb128_bits.ensures c.in_ok-parent.was in
    let e = found says c.read_sleb128_bits-2.ensures c.in_err-flags.was in
    let r : c.from_residual-in_err-flags.result ≡ Err c.in_err-flags.field-0.0 = search rules in
    record { is = rw r (head_2 c.args.s.now c.args.c _ _ p _ _ e); mark = rw c.requires (mark_2 _ _ _ _ p _ _ e) }

pub returns-in_err-count : goal.returns-in_err-count
returns-in_err-count c =
    let p = found says c.read_sleb128_bits.ensures c.in_ok-parent.was in
    let f = found says c.read_sleb128_bits-2.ensures c.in_ok-flags.was in
    let e = found says c.read_sleb128_bits-3.ensures c.in_err-count.was in
    let r : c.from_residual-in_err-count.result ≡ Err c.in_err-count.field-0.0 = search rules in
    record { is = rw r (head_3 c.args.s.now c.args.c _ _ p _ _ f _ _ e); mark = rw c.requires (mark_3 _ _ _ _ p _ _ f _ _ e) }

pub overflow_sub-s : goal.overflow_sub-s
overflow_sub-s c = omega (arith, bits_inside (bits_got _ _ _ _ (found says c.read_sleb128_bits-3.ensures c.in_ok-count.was)))

pub returns-then-s-c3 : goal.returns-then-s-c3
returns-then-s-c3 c =
    let p = found says c.read_sleb128_bits.ensures c.in_ok-parent.was in
    let f = found says c.read_sleb128_bits-2.ensures c.in_ok-flags.was in
    let k = found says c.read_sleb128_bits-3.ensures c.in_ok-count.was in
    record {
      is = rw c.stop.ensures (head_5 c.args.s.now c.args.c _ _ p _ _ f _ _ k (omega (arith, c.well_formed)) c.if-s-c3.true);
      mark = ap (λ (e : Bool). ((e && c.in_ok-parent.parent.exact) && c.in_ok-flags.flags.exact) && c.in_ok-count.count.exact) c.requires ∙ mark_4 _ _ _ _ p _ _ f _ _ k;
    }

pub returns : goal.returns
returns c =
    let p = found says c.read_sleb128_bits.ensures c.in_ok-parent.was in
    let f = found says c.read_sleb128_bits-2.ensures c.in_ok-flags.was in
    let k = found says c.read_sleb128_bits-3.ensures c.in_ok-count.was in
    record {
      is = head_4 c.args.s.now c.args.c _ _ p _ _ f _ _ k (omega (arith, c.well_formed)) _ c.if-s-c3.false c.word_below.ensures;
      mark = rw c.requires (mark_4 _ _ _ _ p _ _ f _ _ k);
    }
