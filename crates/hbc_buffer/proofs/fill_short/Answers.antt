use mathlib.Core.Path.{◌≡◌, refl, sym, ap, ◌∙◌}
use native.Mathlib.Omega.{arith}
use native.Mathlib.Nat.{zero-mul, add-zero}
use lib.ListN.{length}
use Rattle.hbc_buffer.specs.Private.{filled_from}
use Rattle.hbc_buffer.proofs.Fills.{from_more, from_length, run_room_8, run_step, payload_more}
use Rattle.hbc_buffer.proofs.fill_short.Goals as goal

pub loop-i-init : goal.loop-i-init
unfolding filled_from
loop-i-init c = (rw zero-mul (sym (add-zero _)), refl, refl)

pub overflow_add-kinds : goal.overflow_add-kinds
overflow_add-kinds c = omega (arith, ap length c.loop-i.invariant.1 ∙ from_length _ _ _ _)

pub offset_bounds-kinds-first : goal.offset_bounds-kinds-first
offset_bounds-kinds-first c = omega (arith, ap length c.loop-i.invariant.1 ∙ from_length _ _ _ _)

pub bounds-kinds-first : goal.bounds-kinds-first
bounds-kinds-first c = omega (arith, ap length c.loop-i.invariant.1 ∙ from_length _ _ _ _)

pub word-requires : goal.word-requires
word-requires c =
    let start = c in
    (start.requires.0, run_room_8 _ _ start.args.n _ c.loop-i-test.true c.loop-i.invariant.0 start.requires.1)

pub overflow_cast-w : goal.overflow_cast-w
overflow_cast-w c = omega (arith, c.requires.2)

pub overflow_mul-w : goal.overflow_mul-w
overflow_mul-w c = omega (arith, c.requires.2)

pub overflow_add-payloads : goal.overflow_add-payloads
overflow_add-payloads c = omega (arith, ap length c.loop-i.invariant.2 ∙ from_length _ _ _ _)

pub offset_bounds-payloads-first : goal.offset_bounds-payloads-first
offset_bounds-payloads-first c = omega (arith, ap length c.loop-i.invariant.2 ∙ from_length _ _ _ _)

pub bounds-payloads-first : goal.bounds-payloads-first
bounds-payloads-first c = omega (arith, ap length c.loop-i.invariant.2 ∙ from_length _ _ _ _)

pub overflow_add-p : goal.overflow_add-p
overflow_add-p c =
    let start = c in
    let place = c.loop-i.invariant.0 in
    omega (arith, start.requires.2, run_room_8 _ _ start.args.n _ c.loop-i-test.true place start.requires.1)

pub loop-i-preserved : goal.loop-i-preserved
loop-i-preserved c =
    let start = c in
    let inv = c.loop-i.invariant in
    let room = run_room_8 _ _ start.args.n _ c.loop-i-test.true inv.0 start.requires.1 in (
      run_step _ _ _ inv.0 refl,
      rw (from_more, ← inv.1),
      payload_more _ _ _ _ _ _ inv.2 inv.0 c.word.ensures c.bits.ensures
          (λ i. (c.type_inv.s i).fits) start.requires.2 room,
    )

pub shape_of-kinds : goal.shape_of-kinds
shape_of-kinds c = ap length c.loop-i.invariant.1 ∙ from_length _ _ _ _

pub shape_of-payloads : goal.shape_of-payloads
shape_of-payloads c = ap length c.loop-i.invariant.2 ∙ from_length _ _ _ _

pub returns : goal.returns
returns c =
    let inv = c.loop-i.invariant in
    let e : c.loop-i.i ≡ c.args.n = omega arith in
    record { kinds_after = rw e at inv.1; payloads_after = rw e at inv.2 }
