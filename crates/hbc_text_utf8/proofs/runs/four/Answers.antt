use Rattle.hbc_text_utf8.proofs.Keeping.{none_high, short_4, width_4, second_below, second_above, not_third, not_fourth, is_four}
use native.Mathlib.Omega.{arith}
use mathlib.Core.Path.{refl, sym, ◌∙◌}
use Rattle.hbc_text_utf8.proofs.runs.four.Goals as goal

pub returns-then-b-gt244 : goal.returns-then-b-gt244
returns-then-b-gt244 c = none_high c.args.s.now c.args.at _ refl (c.type_inv.s c.args.at).fits c.requires.0 c.if-b-gt244.true

pub returns-then-s-at-lt4 : goal.returns-then-s-at-lt4
returns-then-s-at-lt4 c = short_4 c.args.s.now c.args.at _ refl (omega arith) c.requires.0 c.requires.1 c.if-b-gt244.false c.if-s-at-lt4.true

pub returns-then-s-at : goal.returns-then-s-at
returns-then-s-at c = second_below c.args.s.now c.args.at _ refl (omega arith) 4 (width_4 c.args.s.now c.args.at _ refl (omega arith) c.requires.1 c.if-b-gt244.false) (omega arith) (omega arith) _ _ c.low.ensures refl c.if-s-at.true

pub returns-then-high-s : goal.returns-then-high-s
returns-then-high-s c = second_above c.args.s.now c.args.at _ refl (omega arith) 4 (width_4 c.args.s.now c.args.at _ refl (omega arith) c.requires.1 c.if-b-gt244.false) (omega arith) (omega arith) _ _ c.low.ensures c.high.ensures c.if-high-s.true

pub returns-then-is_follow-2 : goal.returns-then-is_follow-2
returns-then-is_follow-2 c = is_four c.args.s.now c.args.at _ refl (omega arith) 4 (width_4 c.args.s.now c.args.at _ refl (omega arith) c.requires.1 c.if-b-gt244.false) (omega arith) (omega arith) _ _ c.low.ensures c.high.ensures c.if-s-at.false c.if-high-s.false (sym c.is_follow.ensures ∙ c.if-is_follow.true) refl (sym c.is_follow-then-is_follow.ensures ∙ c.if-is_follow-2.true)

pub returns-then-is_follow : goal.returns-then-is_follow
returns-then-is_follow c = not_fourth c.args.s.now c.args.at _ refl (omega arith) 4 (width_4 c.args.s.now c.args.at _ refl (omega arith) c.requires.1 c.if-b-gt244.false) (omega arith) (omega arith) _ _ c.low.ensures c.high.ensures c.if-s-at.false c.if-high-s.false (sym c.is_follow.ensures ∙ c.if-is_follow.true) refl (sym c.is_follow-then-is_follow.ensures ∙ c.if-is_follow-2.false)

pub returns : goal.returns
returns c = not_third c.args.s.now c.args.at _ refl (omega arith) 4 (width_4 c.args.s.now c.args.at _ refl (omega arith) c.requires.1 c.if-b-gt244.false) (omega arith) (omega arith) _ _ c.low.ensures c.high.ensures c.if-s-at.false c.if-high-s.false (sym c.is_follow.ensures ∙ c.if-is_follow.false)
