use Rattle.hbc_table_strings.proofs.Laws.{clear_first, clear_stops, clear_goes}
use native.Mathlib.Omega.{arith}
use Rattle.hbc_table_strings.proofs.check.Goals as goal

pub loop-i-init : goal.loop-i-init
loop-i-init c = clear_first _ _ _

pub returns-then-lacks_pair : goal.returns-then-lacks_pair
returns-then-lacks_pair c =
    rw c.refuse.ensures
    (clear_stops c.loop-i.invariant (omega arith) c.word_of-raw.ensures c.lacks_pair.ensures c.if-lacks_pair.true)

pub loop-i-preserved : goal.loop-i-preserved
loop-i-preserved c =
    let one = c.long_one-needed.ensures in
    clear_goes c.loop-i.invariant c.word_of-raw.ensures c.lacks_pair.ensures c.if-lacks_pair.false one.0 one.1
