use native.Mathlib.Omega.{arith}
use mathlib.Core.Path.{sym}
use lib.ListN.{length-set}
use Rattle.hbc_text_utf16.proofs.Sizes.{size_1, size_2, size_3, size_4, put_1, put_2, put_3, put_4}
use Rattle.hbc_text_utf16.proofs.put.Goals as goal

pub bounds-d-at : goal.bounds-d-at
bounds-d-at c = omega (arith, size_1 _ c.if-c-lt128.true)

pub returns-then-c-lt128 : goal.returns-then-c-lt128
returns-then-c-lt128 c = (sym (size_1 _ c.if-c-lt128.true), put_1 _ _ _ c.if-c-lt128.true)

pub bounds-d-at-then-c-lt2048 : goal.bounds-d-at-then-c-lt2048
bounds-d-at-then-c-lt2048 c = omega (arith, size_2 _ c.if-c-lt128.false c.if-c-lt2048.true)

pub bounds-d-at-then-c-lt2048-2 : goal.bounds-d-at-then-c-lt2048-2
bounds-d-at-then-c-lt2048-2 c = simp length-set (omega (arith, size_2 _ c.if-c-lt128.false c.if-c-lt2048.true))

pub returns-then-c-lt2048 : goal.returns-then-c-lt2048
returns-then-c-lt2048 c = (sym (size_2 _ c.if-c-lt128.false c.if-c-lt2048.true), put_2 _ _ _ c.if-c-lt128.false c.if-c-lt2048.true)

pub bounds-d-at-then-c-lt65536 : goal.bounds-d-at-then-c-lt65536
bounds-d-at-then-c-lt65536 c = omega (arith, size_3 _ c.if-c-lt2048.false c.if-c-lt65536.true)

pub bounds-d-at-then-c-lt65536-2 : goal.bounds-d-at-then-c-lt65536-2
bounds-d-at-then-c-lt65536-2 c = simp length-set (omega (arith, size_3 _ c.if-c-lt2048.false c.if-c-lt65536.true))

pub bounds-d-at-then-c-lt65536-3 : goal.bounds-d-at-then-c-lt65536-3
bounds-d-at-then-c-lt65536-3 c = simp length-set (omega (arith, size_3 _ c.if-c-lt2048.false c.if-c-lt65536.true))

pub returns-then-c-lt65536 : goal.returns-then-c-lt65536
returns-then-c-lt65536 c = (sym (size_3 _ c.if-c-lt2048.false c.if-c-lt65536.true), put_3 _ _ _ c.if-c-lt2048.false c.if-c-lt65536.true)

pub bounds-d-at-2 : goal.bounds-d-at-2
bounds-d-at-2 c = omega (arith, size_4 _ c.if-c-lt65536.false)

pub bounds-d-at-3 : goal.bounds-d-at-3
bounds-d-at-3 c = simp length-set (omega (arith, size_4 _ c.if-c-lt65536.false))

pub bounds-d-at-4 : goal.bounds-d-at-4
bounds-d-at-4 c = simp length-set (omega (arith, size_4 _ c.if-c-lt65536.false))

pub bounds-d-at-5 : goal.bounds-d-at-5
bounds-d-at-5 c = simp length-set (omega (arith, size_4 _ c.if-c-lt65536.false))

pub returns : goal.returns
returns c = (sym (size_4 _ c.if-c-lt65536.false), put_4 _ _ _ c.if-c-lt65536.false)
