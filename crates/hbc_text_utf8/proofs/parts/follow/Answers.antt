use Rattle.hbc_text_utf8.proofs.Steps.{short, two_of, three_of, four_of, two_at, one_at, none_at}
use mathlib.Core.Path.{sym, ◌∙◌}
use native.Mathlib.Omega.{arith}
use Rattle.hbc_text_utf8.proofs.parts.follow.Goals as goal

pub returns-then-n-lt2 : goal.returns-then-n-lt2
returns-then-n-lt2 c = (short c.args.s.now c.args.at c.args.n c.args.lo c.args.hi c.if-n-lt2.true, omega arith)

pub returns-then-n-eq2 : goal.returns-then-n-eq2
returns-then-n-eq2 c = (two_of c.args.s.now c.args.at c.args.n c.args.lo c.args.hi c.if-n-eq2.true (sym c.between.ensures ∙ c.if-between.true), omega arith)

pub returns-then-n-eq3 : goal.returns-then-n-eq3
returns-then-n-eq3 c = (three_of c.args.s.now c.args.at c.args.n c.args.lo c.args.hi c.if-n-lt2.false c.if-n-eq2.false (sym c.between.ensures ∙ c.if-between.true) (sym c.between-then-between.ensures ∙ c.if-between-2.true) c.if-n-eq3.true, omega arith)

pub returns-then-between-3 : goal.returns-then-between-3
returns-then-between-3 c = (four_of c.args.s.now c.args.at c.args.n c.args.lo c.args.hi c.if-n-lt2.false c.if-n-eq2.false (sym c.between.ensures ∙ c.if-between.true) (sym c.between-then-between.ensures ∙ c.if-between-2.true) c.if-n-eq3.false (sym c.between-then-between-2.ensures ∙ c.if-between-3.true), omega arith)

pub returns-then-between-2 : goal.returns-then-between-2
returns-then-between-2 c = (two_at c.args.s.now c.args.at c.args.n c.args.lo c.args.hi c.if-n-lt2.false c.if-n-eq2.false (sym c.between.ensures ∙ c.if-between.true) (sym c.between-then-between.ensures ∙ c.if-between-2.true) c.if-n-eq3.false (sym c.between-then-between-2.ensures ∙ c.if-between-3.false), omega arith)

pub returns-then-between : goal.returns-then-between
returns-then-between c = (one_at c.args.s.now c.args.at c.args.n c.args.lo c.args.hi c.if-n-lt2.false c.if-n-eq2.false (sym c.between.ensures ∙ c.if-between.true) (sym c.between-then-between.ensures ∙ c.if-between-2.false), omega arith)

pub returns : goal.returns
returns c = (none_at c.args.s.now c.args.at c.args.n c.args.lo c.args.hi c.if-n-lt2.false (sym c.between.ensures ∙ c.if-between.false), omega arith)
