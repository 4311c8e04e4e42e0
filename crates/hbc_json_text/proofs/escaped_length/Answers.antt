use Rattle.hbc_text_forms.proofs.Exits.{has_length, of_bytes, of_many}
use Rattle.hbc_json_text.proofs.Loops.{odd_none}
use mathlib.Core.List.{[]}
use mathlib.Core.Path.{refl}
use native.Mathlib.Omega.{arith}
use Rattle.hbc_json_text.proofs.escaped_length.Goals as goal

pub returns-then-s-gt-LIMIT : goal.returns-then-s-gt-LIMIT
returns-then-s-gt-LIMIT c = of_many _ _ _ c.if-s-gt-LIMIT.true c.refuse.ensures

pub returns-then-is_odd : goal.returns-then-is_odd
returns-then-is_odd c = of_bytes _ _ _ c.if-s-gt-LIMIT.false (rw (odd_none c.args.wide c.args.s.now (c.is_odd.ensures.0 c.if-is_odd.true)) (has_length [] _ refl (omega arith)))

pub returns : goal.returns
returns c = of_bytes _ _ _ c.if-s-gt-LIMIT.false c.measure.ensures
