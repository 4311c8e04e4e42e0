use Rattle.hbc_text_utf8.proofs.Keeping.{short_3, width_3, second_below, second_above, is_three, not_third}
use native.Mathlib.Omega.{arith}
use mathlib.Core.Path.{refl, sym, ◌∙◌}
use Rattle.hbc_text_utf8.proofs.runs.three.Goals as goal

pub returns-then-s-at-lt3 : goal.returns-then-s-at-lt3
returns-then-s-at-lt3 c = short_3 c.args.s.now c.args.at _ refl (omega (arith, c.requires.2)) c.requires.0 c.requires.1 c.requires.2 c.if-s-at-lt3.true

pub returns-then-s-at : goal.returns-then-s-at
returns-then-s-at c = second_below c.args.s.now c.args.at _ refl (omega (arith, c.requires.2)) 3 (width_3 c.args.s.now c.args.at _ refl (omega (arith, c.requires.2)) c.requires.1 c.requires.2) (omega arith) (omega arith) _ _ c.low.ensures refl c.if-s-at.true

pub returns-then-high-s : goal.returns-then-high-s
returns-then-high-s c = second_above c.args.s.now c.args.at _ refl (omega (arith, c.requires.2)) 3 (width_3 c.args.s.now c.args.at _ refl (omega (arith, c.requires.2)) c.requires.1 c.requires.2) (omega arith) (omega arith) _ _ c.low.ensures c.high.ensures c.if-high-s.true

pub returns-then-is_follow : goal.returns-then-is_follow
returns-then-is_follow c = is_three c.args.s.now c.args.at _ refl (omega (arith, c.requires.2)) 3 (width_3 c.args.s.now c.args.at _ refl (omega (arith, c.requires.2)) c.requires.1 c.requires.2) (omega arith) (omega arith) _ _ c.low.ensures c.high.ensures c.if-s-at.false c.if-high-s.false (sym c.is_follow.ensures ∙ c.if-is_follow.true) refl

pub returns : goal.returns
returns c = not_third c.args.s.now c.args.at _ refl (omega (arith, c.requires.2)) 3 (width_3 c.args.s.now c.args.at _ refl (omega (arith, c.requires.2)) c.requires.1 c.requires.2) (omega arith) (omega arith) _ _ c.low.ensures c.high.ensures c.if-s-at.false c.if-high-s.false (sym c.is_follow.ensures ∙ c.if-is_follow.false)
