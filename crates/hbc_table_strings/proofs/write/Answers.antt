use Rattle.hbc_table_strings.proofs.Laws.{written_first, written_more}
use Rattle.hbc_table_strings.proofs.write.Goals as goal

pub loop-i-init : goal.loop-i-init
loop-i-init c = written_first c.holding-held.ensures

pub loop-i-preserved : goal.loop-i-preserved
loop-i-preserved c =
    rw c.put_string.ensures
    (written_more c.loop-i.invariant c.word_of-raw.ensures c.moved_on-h.ensures c.run_kind-kind.ensures.0
    c.row_with.ensures c.spent-held.ensures c.long_one-taken.ensures.0 c.long_one-taken.ensures.1)
