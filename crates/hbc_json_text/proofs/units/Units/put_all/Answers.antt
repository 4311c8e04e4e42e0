use Rattle.hbc_json_text.proofs.Loops.{put_first, room_here, put_last, escape_room, put_length, behind_length, put_more}
use native.Mathlib.Omega.{arith}
use Rattle.hbc_json_text.proofs.units.Units.put_all.Goals as goal

pub loop-e-init : goal.loop-e-init
loop-e-init c = put_first _ _ _ _ c.args.self.even c.requires c.next-e.ensures

pub put_piece-n-requires : goal.put_piece-n-requires
put_piece-n-requires c = (c.loop-e.invariant.place.next.from, c.loop-e.invariant.place.next.inside, room_here c.args.self.wide c.args.self.bytes.now c.args.d.now c.loop-e.at c.loop-e.e c.loop-e.n c.loop-e.invariant c.loop-e-test.true)

pub overflow_add-n : goal.overflow_add-n
overflow_add-n c = omega (arith, room_here c.args.self.wide c.args.self.bytes.now c.args.d.now c.loop-e.at c.loop-e.e c.loop-e.n c.loop-e.invariant c.loop-e-test.true, put_length c.args.self.wide c.args.self.bytes.now c.args.d.now c.loop-e.at c.loop-e.e c.loop-e.n c.loop-e.invariant, c.put_piece-n.ensures.0)

pub put_escape-n-requires : goal.put_escape-n-requires
put_escape-n-requires c = escape_room c.args.self.wide c.args.self.bytes.now c.args.d.now c.loop-e.at c.loop-e.e c.loop-e.n c.loop-e.invariant c.loop-e-test.true c.put_piece-n.ensures.0 c.put_piece-n.ensures.1

pub overflow_add-n-in-loop-e : goal.overflow_add-n-in-loop-e
overflow_add-n-in-loop-e c = omega (arith, escape_room c.args.self.wide c.args.self.bytes.now c.args.d.now c.loop-e.at c.loop-e.e c.loop-e.n c.loop-e.invariant c.loop-e-test.true c.put_piece-n.ensures.0 c.put_piece-n.ensures.1, behind_length c.args.self.wide c.args.self.bytes.now c.args.d.now c.loop-e.at c.loop-e.e c.loop-e.n c.loop-e.invariant c.loop-e-test.true c.put_piece-n.ensures.0 c.put_piece-n.ensures.1, c.put_escape-n.ensures.0)

pub loop-e-preserved : goal.loop-e-preserved
loop-e-preserved c = put_more c.args.self.wide c.args.self.bytes.now c.args.d.now c.loop-e.at c.loop-e.e c.loop-e.n c.loop-e.invariant c.loop-e-test.true c.put_piece-n.ensures.0 c.put_piece-n.ensures.1 c.step.ensures c.put_escape-n.ensures.0 c.put_escape-n.ensures.1 c.follow-e.ensures

pub returns : goal.returns
returns c = put_last c.args.self.wide c.args.self.bytes.now c.args.d.now c.loop-e.at c.loop-e.e c.loop-e.n c.loop-e.invariant c.loop-e-test.false c.put_piece.ensures.0 c.put_piece.ensures.1
