use Rattle.hbc_text_utf8.proofs.Keeping.{none_low, short_2, is_two, not_two}
use native.Mathlib.Omega.{arith}
use mathlib.Core.Path.{refl, sym, ◌∙◌}
use Rattle.hbc_text_utf8.proofs.runs.two.Goals as goal

pub returns-then-s-at-lt194 : goal.returns-then-s-at-lt194
returns-then-s-at-lt194 c = none_low c.args.s.now c.args.at _ refl (omega arith) c.requires.0 c.requires.1 c.if-s-at-lt194.true

pub returns-then-s-at-lt2 : goal.returns-then-s-at-lt2
returns-then-s-at-lt2 c = short_2 c.args.s.now c.args.at _ refl (omega (arith, c.requires.2)) c.requires.0 c.if-s-at-lt194.false c.requires.2 c.if-s-at-lt2.true

pub returns-then-is_follow : goal.returns-then-is_follow
returns-then-is_follow c = is_two c.args.s.now c.args.at _ refl (omega (arith, c.requires.2)) c.if-s-at-lt194.false c.requires.2 (omega arith) (sym c.is_follow.ensures ∙ c.if-is_follow.true)

pub returns : goal.returns
returns c = not_two c.args.s.now c.args.at _ refl (omega (arith, c.requires.2)) c.if-s-at-lt194.false c.requires.2 (omega arith) (sym c.is_follow.ensures ∙ c.if-is_follow.false)
