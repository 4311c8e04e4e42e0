use Prim.Native.Nat.{suc, ◌+◌, ◌<◌}
use mathlib.Core.Path.{refl, ◌≡◌}
use native.Mathlib.Omega.{arith}
use native.Mathlib.Numerals.{add-one}
use lib.ListN.{length, take, drop}
use Rattle.hbc_io_leb.specs.Leb.{going}
use Rattle.hbc_io_leb.proofs.Lebs.{part_long, part_last, going_off, turn_going, turn_groups, leb_whole}
use Rattle.hbc_io_leb.proofs.read_groups.Goals as goal

pub returns-then-b-lt128 : goal.returns-then-b-lt128
returns-then-b-lt128 c =
    let a = c.args in
    let s = a.s.now in
    let l = c.loop-k in
    let h : a.c.at + l.k < length s = omega arith in
    let t : l.k < 10 = omega arith in
    let e : going (drop a.c.at s) ≡ l.k = omega (arith, going_off s (a.c.at + l.k) h c.if-b-lt128.true) in
    let n : l.k + 1 ≡ length (take (suc l.k) (drop a.c.at s)) = part_long s a.c.at l.k h in
    let g = turn_groups s a.c.at l.k l.v _ h t l.invariant.1 refl in
    let f : a.c.at + l.k + 1 ≡ a.c.at + suc l.k = omega arith in
    let b = part_last s a.c.at l.k h in
    rw (leb_whole s a.c c.if-s-gt-LIMIT.false c.if-s-at.false l.k e t h, g, b, n, f)

pub loop-k-preserved : goal.loop-k-preserved
loop-k-preserved c =
    let a = c.args in
    let s = a.s.now in
    let l = c.loop-k in
    let h : a.c.at + l.k < length s = omega arith in
    let t : l.k < 10 = omega arith in (
      turn_going s a.c.at l.k h c.if-b-lt128.false l.invariant.0,
      rw add-one (turn_groups s a.c.at l.k l.v _ h t l.invariant.1 refl),
    )
