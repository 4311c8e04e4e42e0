use mathlib.Core.Path.{sym}
use lib.Dec.{lit<}
use Rattle.hbc_json_text.proofs.Parts.{quote_size, control_size, plain_size}
use Rattle.hbc_json_text.proofs.escape_length.Goals as goal

pub returns-then-is_quote : goal.returns-then-is_quote
returns-then-is_quote c = (sym (quote_size c.args.b c.is_quote.ensures c.if-is_quote.true), lit< tt)

pub returns-then-b-lt32 : goal.returns-then-b-lt32
returns-then-b-lt32 c = (sym (control_size c.args.b c.is_quote.ensures c.if-is_quote.false c.if-b-lt32.true), lit< tt)

pub returns : goal.returns
returns c = (sym (plain_size c.args.b c.is_quote.ensures c.if-is_quote.false c.if-b-lt32.false), lit< tt)
