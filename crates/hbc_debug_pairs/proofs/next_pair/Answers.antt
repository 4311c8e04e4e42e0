use native.Mathlib.Omega.{arith}
use borrow.Author.Rules.{rules}
use mathlib.Core.Path.{◌≡◌}
use Rattle.std.specs.Prelude.{Err}
use Rattle.hbc_io.specs.Answers.{says}
use Rattle.hbc_io.proofs.Reading.{found}
use Rattle.hbc_debug_pairs.proofs.Pairs.{pair_1, pair_2, pair_3}
use Rattle.hbc_debug_pairs.proofs.Marks.{pair_mark_1, pair_mark_2, pair_mark_3}
use Rattle.hbc_debug_pairs.proofs.next_pair.Goals as goal

pub returns-in_err-a : goal.returns-in_err-a
returns-in_err-a c =
    let e = found says c.read_sleb128_bits.ensures c.in_err-a.was in
    let r : c.from_residual.result ≡ Err c.in_err-a.field-0.0 = search rules in
    record { is = rw r (pair_1 c.args.strings c.args.s.now c.args.c _ _ e); mark = rw c.requires (pair_mark_1 c.args.s.now c.args.c _ _ e) }

pub returns-in_err-b : goal.returns-in_err-b
returns-in_err-b c =
    let e = found says c.read_sleb128_bits.ensures c.in_ok-a.was in
    let f = found says c.read_sleb128_bits-2.ensures c.in_err-b.was in
    let r : c.from_residual-in_err-b.result ≡ Err c.in_err-b.field-0.0 = search rules in
    record { is = rw r (pair_2 c.args.strings c.args.s.now c.args.c _ _ e _ _ f); mark = rw c.requires (pair_mark_2 c.args.s.now c.args.c _ _ e _ _ f) }

pub returns : goal.returns
returns c =
    let e = found says c.read_sleb128_bits.ensures c.in_ok-a.was in
    let f = found says c.read_sleb128_bits-2.ensures c.in_ok-b.was in
    record {
      is = pair_3 _ c.args.s.now c.args.c _ _ e _ _ _ f (omega (arith, c.ranges.strings)) c.pair_of.ensures;
      mark = rw c.requires (pair_mark_3 c.args.s.now c.args.c _ _ e _ _ f);
    }
