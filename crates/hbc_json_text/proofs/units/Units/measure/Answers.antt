use Rattle.hbc_text_forms.proofs.Exits.{as_given, as_refused, has_length, has_no_room}
use Rattle.hbc_json_text.proofs.Loops.{measure_first, long_piece_more, long_last, measure_last, piece_fits, long_escape, measure_more}
use Rattle.std.proofs.Common.{rules}
use Rattle.hbc_json_forms.specs.Json.{escaped, text_in}
use native.Mathlib.Omega.{arith}
use Rattle.hbc_json_text.proofs.units.Units.measure.Goals as goal

pub loop-e-init : goal.loop-e-init
loop-e-init c = measure_first _ _ _ _ c.args.self.even c.next-e.ensures

pub returns-in_err-n : goal.returns-in_err-n
returns-in_err-n c =
    let p = as_refused _ _ c.piece_length.ensures c.in_err-n.was in
    let q = has_no_room (escaped (text_in c.args.self.wide c.args.self.bytes.now)) c.args.room (long_piece_more c.args.self.wide c.args.self.bytes.now c.args.room c.loop-e.at c.loop-e.e c.loop-e.n c.loop-e.invariant c.loop-e-test.true p.0) p.1 in
    search (rules, q)

pub overflow_add-n : goal.overflow_add-n
overflow_add-n c =
    let p = as_given _ _ c.piece_length.ensures c.in_ok-n.was in
    omega (arith, piece_fits c.args.self.wide c.args.self.bytes.now c.args.room c.loop-e.at c.loop-e.e c.loop-e.n c.loop-e.invariant c.loop-e-test.true p.0 p.1)

pub overflow_sub-room-in-loop-e : goal.overflow_sub-room-in-loop-e
overflow_sub-room-in-loop-e c =
    let p = as_given _ _ c.piece_length.ensures c.in_ok-n.was in
    piece_fits c.args.self.wide c.args.self.bytes.now c.args.room c.loop-e.at c.loop-e.e c.loop-e.n c.loop-e.invariant c.loop-e-test.true p.0 p.1

pub returns-then-room-n : goal.returns-then-room-n
returns-then-room-n c =
    let p = as_given _ _ c.piece_length.ensures c.in_ok-n.was in
    has_no_room _ _ (long_escape c.args.self.wide c.args.self.bytes.now c.args.room c.loop-e.at c.loop-e.e c.loop-e.n c.loop-e.invariant c.loop-e-test.true p.0 p.1 c.escape_length-k.ensures.0 c.if-room-n.true) c.refuse.ensures

pub overflow_add-n-in-loop-e : goal.overflow_add-n-in-loop-e
overflow_add-n-in-loop-e c =
    let p = as_given _ _ c.piece_length.ensures c.in_ok-n.was in
    omega (arith, c.if-room-n.false, piece_fits c.args.self.wide c.args.self.bytes.now c.args.room c.loop-e.at c.loop-e.e c.loop-e.n c.loop-e.invariant c.loop-e-test.true p.0 p.1)

pub loop-e-preserved : goal.loop-e-preserved
loop-e-preserved c =
    let p = as_given _ _ c.piece_length.ensures c.in_ok-n.was in
    measure_more c.args.self.wide c.args.self.bytes.now c.args.room c.loop-e.at c.loop-e.e c.loop-e.n c.loop-e.invariant c.loop-e-test.true p.0 p.1 c.escape_length-k.ensures.0 c.step.ensures c.if-room-n.false c.follow-e.ensures

pub overflow_add-result : goal.overflow_add-result
overflow_add-result c =
    let p = as_given _ _ c.piece_length-2.ensures c.in_ok-piece_length.was in
    omega (arith, p.0, p.1, c.loop-e.invariant.counting.fits)

pub returns-in_err-piece_length : goal.returns-in_err-piece_length
returns-in_err-piece_length c =
    let p = as_refused _ _ c.piece_length-2.ensures c.in_err-piece_length.was in
    let q = has_no_room (escaped (text_in c.args.self.wide c.args.self.bytes.now)) c.args.room (long_last c.args.self.wide c.args.self.bytes.now c.args.room c.loop-e.at c.loop-e.e c.loop-e.n c.loop-e.invariant c.loop-e-test.false p.0) p.1 in
    search (rules, q)

pub returns : goal.returns
returns c =
    let p = as_given _ _ c.piece_length-2.ensures c.in_ok-piece_length.was in
    let m = measure_last c.args.self.wide c.args.self.bytes.now c.args.room c.loop-e.at c.loop-e.e c.loop-e.n c.loop-e.invariant c.loop-e-test.false p.0 p.1 in
    has_length _ _ m.0 m.1
