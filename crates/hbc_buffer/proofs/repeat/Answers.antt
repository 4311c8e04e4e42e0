use mathlib.Core.Path.{◌≡◌, ap, ◌∙◌}
use native.Mathlib.Omega.{arith}
use lib.ListN.{length}
use Prim.Native.Nat.{◌+◌}
use Rattle.hbc_buffer_literal.specs.Literal.{literal_of, kind_of}
use Rattle.hbc_buffer.proofs.Fills.{from_length, small_product}
use Rattle.hbc_buffer.proofs.Passes.{known_on}
use Rattle.hbc_buffer.proofs.Going.{goes_then, writes_then, goes_once, kinds_once, payloads_once}
use Rattle.hbc_buffer.proofs.repeat.Goals as goal

pub overflow_mul-next : goal.overflow_mul-next
overflow_mul-next c = omega (arith, small_product c.args.size c.args.wide c.requires.3.small c.requires.3.narrow)

pub overflow_add-next : goal.overflow_add-next
overflow_add-next c = omega (arith, small_product c.args.size c.args.wide c.requires.3.small c.requires.3.narrow)

pub overflow_add-next-2 : goal.overflow_add-next-2
overflow_add-next-2 c = omega (arith, c.requires.9, c.requires.0)

pub overflow_add-at : goal.overflow_add-at
overflow_add-at c = omega (arith, c.requires.9, c.requires.0)

pub fill_short-requires : goal.fill_short-requires
fill_short-requires c =
    let pre = c.requires in (
      pre.0,
      omega (arith, pre.9),
      pre.3.narrow,
      omega (arith, pre.8, pre.1, pre.4),
      omega (arith, pre.8, pre.1, pre.5),
    )

pub overflow_add-done : goal.overflow_add-done
overflow_add-done c = omega (arith, c.requires.1, c.requires.2)

pub write_same-requires : goal.write_same-requires
write_same-requires c =
    let pre = c.requires in
    let one = c.if-size-eq1.true in
    let filled = c.fill_short.ensures in (
      pre.0,
      omega (arith, pre.9),
      omega (arith, pre.1),
      pre.2,
      rw one at (known_on (c.args.done + c.args.size) pre.3 pre.1),
      c.kind-k.ensures ∙ ap (λ t. kind_of (literal_of t 0)) c.bits.ensures,
      omega (arith, ap length filled.kinds_after ∙ from_length _ _ _ _, pre.4),
      omega (arith, ap length filled.payloads_after ∙ from_length _ _ _ _, pre.5),
    )

pub returns-then-size-eq1 : goal.returns-then-size-eq1
returns-then-size-eq1 c =
    let pre = c.requires in
    let e : c.args.done + c.args.size ≡ c.args.done + 1 = ap (λ n. c.args.done + n) c.if-size-eq1.true in
    let filled = c.fill_short.ensures in
    let rest = c.write_same.ensures in
    let k = c.kind-k.ensures ∙ ap (λ t. kind_of (literal_of t 0)) c.bits.ensures in
    let goes = rw e at (goes_once pre.1 pre.0 pre.3 pre.6 pre.7 pre.8 pre.9) in (
      omega (arith, rest.0.up),
      goes_then goes rest.0,
      writes_then goes (rw e at (kinds_once pre.1 pre.0 pre.3 pre.6 pre.7 pre.8 pre.9 k filled.kinds_after)) rest.1,
      writes_then goes (rw e at (payloads_once pre.1 pre.0 pre.3 pre.6 pre.7 pre.8 pre.9 filled.payloads_after)) rest.2,
    )

pub overflow_add-done-2 : goal.overflow_add-done-2
overflow_add-done-2 c = omega (arith, c.requires.1, c.requires.2, c.requires.8)

pub write_same-requires-2 : goal.write_same-requires-2
write_same-requires-2 c =
    let pre = c.requires in
    let filled = c.fill_short.ensures in (
      pre.0,
      omega (arith, pre.9),
      omega (arith, pre.1, pre.8),
      pre.2,
      known_on _ pre.3 pre.1,
      c.kind-k.ensures ∙ ap (λ t. kind_of (literal_of t 0)) c.bits.ensures,
      omega (arith, ap length filled.kinds_after ∙ from_length _ _ _ _, pre.4),
      omega (arith, ap length filled.payloads_after ∙ from_length _ _ _ _, pre.5),
    )

pub returns : goal.returns
returns c =
    let pre = c.requires in
    let filled = c.fill_short.ensures in
    let rest = c.write_same-2.ensures in
    let k = c.kind-k.ensures ∙ ap (λ t. kind_of (literal_of t 0)) c.bits.ensures in
    let goes = goes_once pre.1 pre.0 pre.3 pre.6 pre.7 pre.8 pre.9 in (
      omega (arith, rest.0.up),
      goes_then goes rest.0,
      writes_then goes (kinds_once pre.1 pre.0 pre.3 pre.6 pre.7 pre.8 pre.9 k filled.kinds_after) rest.1,
      writes_then goes (payloads_once pre.1 pre.0 pre.3 pre.6 pre.7 pre.8 pre.9 filled.payloads_after) rest.2,
    )
