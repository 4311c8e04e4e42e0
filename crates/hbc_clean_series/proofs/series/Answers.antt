use native.Mathlib.Omega.{arith}
use Rattle.hbc_clean_series.proofs.Exits.{marked_refused, marked_given, marked_data, series_long, series_none, series_past, none_empty, none_high}
use Rattle.hbc_clean_series.proofs.series.Goals as goal

pub returns-then-s-gt-LIMIT : goal.returns-then-s-gt-LIMIT
returns-then-s-gt-LIMIT c = rw c.refuse.ensures (marked_refused _ _ (series_long _ _ _ c.if-s-gt-LIMIT.true))

pub returns-then-count-eq0 : goal.returns-then-count-eq0
returns-then-count-eq0 c = let none = c.if-count-eq0.true in marked_given (series_none _ _ _ c.if-s-gt-LIMIT.false none) (none_empty _ _ _ none) (none_high _ _ _ _ none)

pub returns-then-s-offset : goal.returns-then-s-offset
returns-then-s-offset c = rw c.refuse-then-s-offset.ensures (marked_refused _ _ (series_past _ _ _ c.if-s-gt-LIMIT.false c.if-count-eq0.false c.if-s-offset.true))

pub walk-requires : goal.walk-requires
walk-requires c = (c.if-s-gt-LIMIT.false, omega (arith, c.if-s-offset.false), omega arith)

pub returns : goal.returns
returns c = marked_data _ _ _ _ _ c.if-s-gt-LIMIT.false c.if-count-eq0.false c.if-s-offset.false c.walk.ensures
