use native.Mathlib.Omega.{arith}
use Rattle.hbc_clean.proofs.Judging.{judged_first, judged_stop, judged_next, strings_long, strings_refused, strings_done, lesser_is}
use Rattle.hbc_clean.proofs.check_strings.Goals as goal

pub returns-then-storage-gt-LIMIT : goal.returns-then-storage-gt-LIMIT
returns-then-storage-gt-LIMIT c = λ kinds. rw c.refuse.ensures (strings_long _ _ _ _ c.if-storage-gt-LIMIT.true kinds)

pub loop-i-init : goal.loop-i-init
loop-i-init c = judged_first _ _ _

pub returns-then-found-eq2 : goal.returns-then-found-eq2
returns-then-found-eq2 c = λ kinds. rw c.refuse-then-found-eq2.ensures (strings_refused _ _ _ _ c.if-storage-gt-LIMIT.false (judged_stop _ _ _ c.loop-i.invariant (rw c.word_of.ensures at c.judge_entry-found.ensures) (rw (lesser_is _ _ c.min-n.ensures) at c.loop-i-test.true) c.if-found-eq2.true) kinds)

pub loop-i-preserved : goal.loop-i-preserved
loop-i-preserved c = judged_next _ _ _ c.loop-i.invariant (rw c.word_of.ensures at c.judge_entry-found.ensures) c.if-found-eq2.false c.lower-low.ensures

pub returns : goal.returns
returns c = λ kinds. strings_done _ _ _ _ c.if-storage-gt-LIMIT.false (omega (arith, lesser_is _ _ c.min-n.ensures)) c.loop-i.invariant kinds
