use native.Mathlib.Omega.{arith}
use Rattle.hbc_text_utf16.proofs.Steps.{put_length, put_end, put_more, plain_room, plain_more, ascii_room, ascii_more, code_room, code_below, some_taken}
use Rattle.hbc_text_utf16.proofs.put_text.Goals as goal

pub bounds-d-n : goal.bounds-d-n
bounds-d-n c =
    let turn = c in
    ascii_room _ _ _ _ turn.loop-at.invariant c.unit-u.result turn.loop-at-test.true c.unit-u.ensures.0 c.if-u-lt128.true

pub loop-at-preserved-then-u-lt128 : goal.loop-at-preserved-then-u-lt128
loop-at-preserved-then-u-lt128 c =
    let turn = c in
    ascii_more _ _ _ _ turn.loop-at.invariant c.unit-u.result turn.loop-at-test.true c.unit-u.ensures.0 c.if-u-lt128.true

pub put-n-requires : goal.put-n-requires
put-n-requires c =
    let turn = c in
    (rw c.next-c.ensures (code_below _ _ (λ i. (turn.type_inv.s i).fits)), code_room _ _ _ _ turn.loop-at.invariant c.next-c.result turn.loop-at-test.true c.next-c.ensures)

pub overflow_add-n-then-is_surrogate : goal.overflow_add-n-then-is_surrogate
overflow_add-n-then-is_surrogate c =
    let read = c in
    let turn = read in
    omega (arith, code_room _ _ _ _ turn.loop-at.invariant read.next-c.result turn.loop-at-test.true read.next-c.ensures, c.put-n.ensures.0, put_length _ _ _ _ turn.loop-at.invariant, turn.well_formed.1.0.0)

pub overflow_add-at-then-is_surrogate : goal.overflow_add-at-then-is_surrogate
overflow_add-at-then-is_surrogate c =
    let read = c in
    let turn = read in
    omega (arith, some_taken _ _ turn.loop-at.invariant.between turn.loop-at-test.true read.next-c.result read.next-c.ensures)

pub loop-at-smaller-then-is_surrogate : goal.loop-at-smaller-then-is_surrogate
loop-at-smaller-then-is_surrogate c =
    let read = c in
    let turn = read in
    omega (arith, some_taken _ _ turn.loop-at.invariant.between turn.loop-at-test.true read.next-c.result read.next-c.ensures)

pub loop-at-preserved-then-is_surrogate : goal.loop-at-preserved-then-is_surrogate
loop-at-preserved-then-is_surrogate c =
    let read = c in
    let turn = read in
    put_more _ _ _ _ turn.loop-at.invariant read.next-c.result turn.loop-at-test.true read.next-c.ensures c.put-n.ensures.0 c.put-n.ensures.1

pub put-n-requires-else-is_surrogate : goal.put-n-requires-else-is_surrogate
put-n-requires-else-is_surrogate c =
    let turn = c in
    (omega (arith, c.unit-u.ensures.1), plain_room _ _ _ _ turn.loop-at.invariant c.unit-u.result turn.loop-at-test.true c.unit-u.ensures.0 c.is_surrogate.ensures c.if-is_surrogate.false)

pub overflow_add-n-else-is_surrogate : goal.overflow_add-n-else-is_surrogate
overflow_add-n-else-is_surrogate c =
    let turn = c in
    omega (arith, plain_room _ _ _ _ turn.loop-at.invariant c.unit-u.result turn.loop-at-test.true c.unit-u.ensures.0 c.is_surrogate.ensures c.if-is_surrogate.false, c.put-n-else-is_surrogate.ensures.0, put_length _ _ _ _ turn.loop-at.invariant, turn.well_formed.1.0.0)

pub loop-at-preserved : goal.loop-at-preserved
loop-at-preserved c =
    let turn = c in
    plain_more _ _ _ _ turn.loop-at.invariant c.unit-u.result turn.loop-at-test.true c.unit-u.ensures.0 c.is_surrogate.ensures c.if-is_surrogate.false c.put-n-else-is_surrogate.ensures.0 c.put-n-else-is_surrogate.ensures.1

pub returns : goal.returns
returns c = put_end _ _ _ _ c.loop-at.invariant c.loop-at-test.false
