use Rattle.hbc_clean_series.proofs.Exits.{in_values, in_keys}
use Rattle.hbc_clean_series.proofs.series_at.Goals as goal

pub returns-then-word_of-eq0 : goal.returns-then-word_of-eq0
returns-then-word_of-eq0 c = in_values _ _ _ _ _ c.word_of.ensures c.word_of-offset.ensures c.word_of-count.ensures c.if-word_of-eq0.true c.series.ensures

pub returns : goal.returns
returns c = in_keys _ _ _ _ _ c.word_of.ensures c.word_of-offset.ensures c.word_of-count.ensures c.if-word_of-eq0.false c.series-2.ensures
