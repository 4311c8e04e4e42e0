use Rattle.hbc_json.proofs.Laws.{positive, none_fits, no_room, measure_first, long_marks, long_inside, measure_more, measure_end}
use Rattle.hbc_text_forms.proofs.Exits.{as_given, as_refused}
use native.Mathlib.Omega.{arith}
use Rattle.hbc_json.proofs.Strings.measure.Goals as goal

pub returns-then-self-eq0 : goal.returns-then-self-eq0
returns-then-self-eq0 c = none_fits c.args.self.storage.now c.args.self.rows.now c.args.self.count _ c.if-self-eq0.true

pub returns-then-room-eq0 : goal.returns-then-room-eq0
returns-then-room-eq0 c = no_room c.args.self.storage.now c.args.self.rows.now c.args.self.count _ (positive c.if-self-eq0.false) c.if-room-eq0.true

pub loop-k-init : goal.loop-k-init
loop-k-init c = measure_first c.args.self.storage.now c.args.self.rows.now c.args.self.count _ (positive c.if-self-eq0.false) (positive c.if-room-eq0.false)

pub overflow_sub-room : goal.overflow_sub-room
overflow_sub-room c = c.loop-k.invariant.counting.fits

pub returns-then-room-n-lt3 : goal.returns-then-room-n-lt3
returns-then-room-n-lt3 c = long_marks c.args.self.storage.now c.args.self.rows.now c.args.self.count c.args.room c.loop-k.n c.loop-k.k c.loop-k.invariant c.loop-k-test.true c.if-room-n-lt3.true

pub overflow_sub-room-in-loop-k : goal.overflow_sub-room-in-loop-k
overflow_sub-room-in-loop-k c = c.loop-k.invariant.counting.fits

pub overflow_sub-room-in-loop-k-2 : goal.overflow_sub-room-in-loop-k-2
overflow_sub-room-in-loop-k-2 c = c.if-room-n-lt3.false

pub returns-in_default : goal.returns-in_default
returns-in_default c = long_inside c.args.self.storage.now c.args.self.rows.now c.args.self.count c.args.room c.loop-k.n c.loop-k.k c.loop-k.invariant c.loop-k-test.true c.if-room-n-lt3.false (as_refused _ _ c.inside_length.ensures c.in_default.is).0

pub overflow_add-n : goal.overflow_add-n
overflow_add-n c = omega (arith, (as_given _ _ c.inside_length.ensures c.in-Ok.is).0, (as_given _ _ c.inside_length.ensures c.in-Ok.is).1)

pub overflow_add-n-in-loop-k : goal.overflow_add-n-in-loop-k
overflow_add-n-in-loop-k c = omega (arith, (as_given _ _ c.inside_length.ensures c.in-Ok.is).0, (as_given _ _ c.inside_length.ensures c.in-Ok.is).1, c.if-room-n-lt3.false, c.loop-k.invariant.counting.fits)

pub loop-k-preserved : goal.loop-k-preserved
loop-k-preserved c = measure_more c.args.self.storage.now c.args.self.rows.now c.args.self.count c.args.room c.loop-k.n c.loop-k.k c.loop-k.invariant c.loop-k-test.true c.if-room-n-lt3.false (as_given _ _ c.inside_length.ensures c.in-Ok.is).1 (as_given _ _ c.inside_length.ensures c.in-Ok.is).0

pub returns : goal.returns
returns c = measure_end c.args.self.storage.now c.args.self.rows.now c.args.self.count c.args.room c.loop-k.n c.loop-k.k c.loop-k.invariant c.loop-k-test.false
