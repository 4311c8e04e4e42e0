use native.Mathlib.Omega.{arith}
use Rattle.hbc_text_utf16.proofs.Units.{code_plain, code_low, code_last, code_split, code_pair}
use Rattle.hbc_text_utf16.proofs.next.Goals as goal

pub returns-then-u-gt56319 : goal.returns-then-u-gt56319
returns-then-u-gt56319 c =
    let first = c in
    code_low first.args.s.now first.args.at first.unit-u.result first.requires first.unit-u.ensures.0 c.is_surrogate.ensures c.if-is_surrogate.true (omega (arith, c.if-u-gt56319.true))

pub returns-then-s-at-lt4 : goal.returns-then-s-at-lt4
returns-then-s-at-lt4 c =
    let first = c in
    code_last first.args.s.now first.args.at first.unit-u.result first.requires first.unit-u.ensures.0 c.is_surrogate.ensures c.if-is_surrogate.true (omega (arith, c.if-u-gt56319.false)) c.if-s-at-lt4.true

pub returns-then-is_low : goal.returns-then-is_low
returns-then-is_low c =
    let second = c in
    let first = second in
    code_pair first.args.s.now first.args.at first.unit-u.result first.requires first.unit-u.ensures.0 second.is_surrogate.ensures second.if-is_surrogate.true (omega (arith, second.if-u-gt56319.false)) second.unit-v.result second.if-s-at-lt4.false second.unit-v.ensures.0 c.is_low.ensures c.if-is_low.true

pub returns-then-is_surrogate : goal.returns-then-is_surrogate
returns-then-is_surrogate c =
    let second = c in
    let first = second in
    code_split first.args.s.now first.args.at first.unit-u.result first.requires first.unit-u.ensures.0 second.is_surrogate.ensures second.if-is_surrogate.true (omega (arith, second.if-u-gt56319.false)) second.unit-v.result second.if-s-at-lt4.false second.unit-v.ensures.0 c.is_low.ensures c.if-is_low.false

pub returns : goal.returns
returns c =
    let first = c in
    code_plain first.args.s.now first.args.at first.unit-u.result first.requires first.unit-u.ensures.0 c.is_surrogate.ensures c.if-is_surrogate.false
