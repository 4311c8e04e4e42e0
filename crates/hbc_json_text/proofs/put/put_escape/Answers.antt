use Prim.Native.Nat.{◌/◌, ◌%◌}
use Rattle.hbc_json_forms.specs.Json.{hex_digit}
use Rattle.hbc_json_text.proofs.Parts.{quote_escape, quote_size, control_escape, control_size, plain_escape, plain_size, two_set, six_set}
use mathlib.Core.Path.{sym}
use lib.ListN.{length-set}
use native.Mathlib.Omega.{arith}
use Rattle.hbc_json_text.proofs.put.put_escape.Goals as goal

pub bounds-d-at : goal.bounds-d-at
bounds-d-at c = omega (arith, c.requires, quote_size c.args.b c.is_quote.ensures c.if-is_quote.true)

pub bounds-d-at-then-is_quote : goal.bounds-d-at-then-is_quote
bounds-d-at-then-is_quote c = simp length-set (omega (arith, c.requires, quote_size c.args.b c.is_quote.ensures c.if-is_quote.true))

pub returns-then-is_quote : goal.returns-then-is_quote
returns-then-is_quote c = (sym (quote_size c.args.b c.is_quote.ensures c.if-is_quote.true), rw (quote_escape c.args.b c.is_quote.ensures c.if-is_quote.true) (two_set c.args.d.now c.args.at 0x5C c.args.b))

pub bounds-d-at-then-b-lt32 : goal.bounds-d-at-then-b-lt32
bounds-d-at-then-b-lt32 c = omega (arith, c.requires, control_size c.args.b c.is_quote.ensures c.if-is_quote.false c.if-b-lt32.true)

pub bounds-d-at-then-b-lt32-2 : goal.bounds-d-at-then-b-lt32-2
bounds-d-at-then-b-lt32-2 c = simp length-set (omega (arith, c.requires, control_size c.args.b c.is_quote.ensures c.if-is_quote.false c.if-b-lt32.true))

pub bounds-d-at-then-b-lt32-3 : goal.bounds-d-at-then-b-lt32-3
bounds-d-at-then-b-lt32-3 c = simp length-set (omega (arith, c.requires, control_size c.args.b c.is_quote.ensures c.if-is_quote.false c.if-b-lt32.true))

pub bounds-d-at-then-b-lt32-4 : goal.bounds-d-at-then-b-lt32-4
bounds-d-at-then-b-lt32-4 c = simp length-set (omega (arith, c.requires, control_size c.args.b c.is_quote.ensures c.if-is_quote.false c.if-b-lt32.true))

pub bounds-d-at-then-b-lt32-5 : goal.bounds-d-at-then-b-lt32-5
bounds-d-at-then-b-lt32-5 c = simp length-set (omega (arith, c.requires, control_size c.args.b c.is_quote.ensures c.if-is_quote.false c.if-b-lt32.true))

pub bounds-d-at-then-b-lt32-6 : goal.bounds-d-at-then-b-lt32-6
bounds-d-at-then-b-lt32-6 c = simp length-set (omega (arith, c.requires, control_size c.args.b c.is_quote.ensures c.if-is_quote.false c.if-b-lt32.true))

pub returns-then-b-lt32 : goal.returns-then-b-lt32
returns-then-b-lt32 c = (sym (control_size c.args.b c.is_quote.ensures c.if-is_quote.false c.if-b-lt32.true), rw (control_escape c.args.b c.is_quote.ensures c.if-is_quote.false c.if-b-lt32.true, c.hex_digit.ensures, c.hex_digit-then-b-lt32.ensures) (six_set c.args.d.now c.args.at 0x5C 0x75 0x30 0x30 (hex_digit (c.args.b / 16)) (hex_digit (c.args.b % 16))))

pub bounds-d-at-2 : goal.bounds-d-at-2
bounds-d-at-2 c = omega (arith, c.requires, plain_size c.args.b c.is_quote.ensures c.if-is_quote.false c.if-b-lt32.false)

pub returns : goal.returns
returns c = (sym (plain_size c.args.b c.is_quote.ensures c.if-is_quote.false c.if-b-lt32.false), rw (plain_escape c.args.b c.is_quote.ensures c.if-is_quote.false c.if-b-lt32.false))
