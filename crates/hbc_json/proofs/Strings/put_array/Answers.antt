use Rattle.hbc_json.proofs.Laws.{positive, none_room, none_length, none_put, put_first, put_room, put_length, begun_room, filled_room, put_more, close_room, closed_length, put_end}
use lib.ListN.{length-set}
use native.Mathlib.Omega.{arith}
use Rattle.hbc_json.proofs.Strings.put_array.Goals as goal

pub bounds-out-0 : goal.bounds-out-0
bounds-out-0 c = omega (arith, none_room c.args.self.storage.now c.args.self.rows.now c.args.self.count c.args.out.now c.if-self-eq0.true c.requires)

pub bounds-out-1 : goal.bounds-out-1
bounds-out-1 c = simp length-set (omega (arith, none_room c.args.self.storage.now c.args.self.rows.now c.args.self.count c.args.out.now c.if-self-eq0.true c.requires))

pub shape_of-out-then-self-eq0 : goal.shape_of-out-then-self-eq0
shape_of-out-then-self-eq0 c = none_length c.args.self.storage.now c.args.self.rows.now c.args.self.count c.args.out.now c.if-self-eq0.true c.requires

pub returns-then-self-eq0 : goal.returns-then-self-eq0
returns-then-self-eq0 c = none_put c.args.self.storage.now c.args.self.rows.now c.args.self.count c.args.out.now c.if-self-eq0.true c.requires

pub loop-k-init : goal.loop-k-init
loop-k-init c = put_first c.args.self.storage.now c.args.self.rows.now c.args.self.count _ (positive c.if-self-eq0.false) c.requires

pub bounds-out-n : goal.bounds-out-n
bounds-out-n c = omega (arith, put_room c.args.self.storage.now c.args.self.rows.now c.args.self.count c.args.out.now c.loop-k.lead c.loop-k.n c.loop-k.k c.loop-k.invariant c.loop-k-test.true)

pub overflow_add-out : goal.overflow_add-out
overflow_add-out c = omega (arith, put_room c.args.self.storage.now c.args.self.rows.now c.args.self.count c.args.out.now c.loop-k.lead c.loop-k.n c.loop-k.k c.loop-k.invariant c.loop-k-test.true, put_length c.args.self.storage.now c.args.self.rows.now c.args.self.count c.args.out.now c.loop-k.lead c.loop-k.n c.loop-k.k c.loop-k.invariant)

pub bounds-out-n-in-loop-k : goal.bounds-out-n-in-loop-k
bounds-out-n-in-loop-k c = simp length-set (omega (arith, put_room c.args.self.storage.now c.args.self.rows.now c.args.self.count c.args.out.now c.loop-k.lead c.loop-k.n c.loop-k.k c.loop-k.invariant c.loop-k-test.true))

pub overflow_add-n : goal.overflow_add-n
overflow_add-n c = omega (arith, put_room c.args.self.storage.now c.args.self.rows.now c.args.self.count c.args.out.now c.loop-k.lead c.loop-k.n c.loop-k.k c.loop-k.invariant c.loop-k-test.true, put_length c.args.self.storage.now c.args.self.rows.now c.args.self.count c.args.out.now c.loop-k.lead c.loop-k.n c.loop-k.k c.loop-k.invariant)

pub put_inside-m-requires : goal.put_inside-m-requires
put_inside-m-requires c = begun_room c.args.self.storage.now c.args.self.rows.now c.args.self.count c.args.out.now c.loop-k.lead c.loop-k.n c.loop-k.k c.loop-k.invariant c.loop-k-test.true

pub overflow_add-out-in-loop-k : goal.overflow_add-out-in-loop-k
overflow_add-out-in-loop-k c = omega (arith, put_room c.args.self.storage.now c.args.self.rows.now c.args.self.count c.args.out.now c.loop-k.lead c.loop-k.n c.loop-k.k c.loop-k.invariant c.loop-k-test.true, put_length c.args.self.storage.now c.args.self.rows.now c.args.self.count c.args.out.now c.loop-k.lead c.loop-k.n c.loop-k.k c.loop-k.invariant)

pub overflow_add-out-in-loop-k-2 : goal.overflow_add-out-in-loop-k-2
overflow_add-out-in-loop-k-2 c = omega (arith, put_room c.args.self.storage.now c.args.self.rows.now c.args.self.count c.args.out.now c.loop-k.lead c.loop-k.n c.loop-k.k c.loop-k.invariant c.loop-k-test.true, put_length c.args.self.storage.now c.args.self.rows.now c.args.self.count c.args.out.now c.loop-k.lead c.loop-k.n c.loop-k.k c.loop-k.invariant, c.put_inside-m.ensures.0)

pub bounds-out-n-in-loop-k-2 : goal.bounds-out-n-in-loop-k-2
bounds-out-n-in-loop-k-2 c = filled_room c.args.self.storage.now c.args.self.rows.now c.args.self.count c.args.out.now c.loop-k.lead c.loop-k.n c.loop-k.k c.loop-k.invariant c.loop-k-test.true c.put_inside-m.ensures.0 c.put_inside-m.ensures.1

pub overflow_add-n-in-loop-k : goal.overflow_add-n-in-loop-k
overflow_add-n-in-loop-k c = omega (arith, put_room c.args.self.storage.now c.args.self.rows.now c.args.self.count c.args.out.now c.loop-k.lead c.loop-k.n c.loop-k.k c.loop-k.invariant c.loop-k-test.true, put_length c.args.self.storage.now c.args.self.rows.now c.args.self.count c.args.out.now c.loop-k.lead c.loop-k.n c.loop-k.k c.loop-k.invariant, c.put_inside-m.ensures.0)

pub overflow_add-n-in-loop-k-2 : goal.overflow_add-n-in-loop-k-2
overflow_add-n-in-loop-k-2 c = omega (arith, put_room c.args.self.storage.now c.args.self.rows.now c.args.self.count c.args.out.now c.loop-k.lead c.loop-k.n c.loop-k.k c.loop-k.invariant c.loop-k-test.true, put_length c.args.self.storage.now c.args.self.rows.now c.args.self.count c.args.out.now c.loop-k.lead c.loop-k.n c.loop-k.k c.loop-k.invariant, c.put_inside-m.ensures.0)

pub loop-k-preserved : goal.loop-k-preserved
loop-k-preserved c = put_more c.args.self.storage.now c.args.self.rows.now c.args.self.count c.args.out.now c.loop-k.lead c.loop-k.n c.loop-k.k c.loop-k.invariant c.loop-k-test.true c.put_inside-m.ensures.0 c.put_inside-m.ensures.1

pub bounds-out-n-2 : goal.bounds-out-n-2
bounds-out-n-2 c = close_room c.args.self.storage.now c.args.self.rows.now c.args.self.count c.args.out.now c.loop-k.lead c.loop-k.n c.loop-k.k c.loop-k.invariant c.loop-k-test.false

pub overflow_add-result : goal.overflow_add-result
overflow_add-result c = omega (arith, close_room c.args.self.storage.now c.args.self.rows.now c.args.self.count c.args.out.now c.loop-k.lead c.loop-k.n c.loop-k.k c.loop-k.invariant c.loop-k-test.false, put_length c.args.self.storage.now c.args.self.rows.now c.args.self.count c.args.out.now c.loop-k.lead c.loop-k.n c.loop-k.k c.loop-k.invariant)

pub shape_of-out : goal.shape_of-out
shape_of-out c = closed_length c.args.self.storage.now c.args.self.rows.now c.args.self.count c.args.out.now c.loop-k.lead c.loop-k.n c.loop-k.k c.loop-k.invariant c.loop-k-test.false

pub returns : goal.returns
returns c = put_end c.args.self.storage.now c.args.self.rows.now c.args.self.count c.args.out.now c.loop-k.lead c.loop-k.n c.loop-k.k c.loop-k.invariant c.loop-k-test.false
