use Rattle.hbc_c_parsing.proofs.Parsed.{sections_long, sections_past, sections_few, found_small, sections_not, sections_got}
use native.Mathlib.Omega.{arith}
use Rattle.hbc_c_parsing.proofs.trailing_sections.Goals as goal

pub returns-then-file-gt-LIMIT : goal.returns-then-file-gt-LIMIT
returns-then-file-gt-LIMIT c = sections_long c.code.ensures (omega arith) c.refuse.ensures

pub returns-then-file-start : goal.returns-then-file-start
returns-then-file-start c = sections_past c.code-then-file-start.ensures (omega arith) (omega arith) c.refuse-then-file-start.ensures

pub returns-then-rows-lt5 : goal.returns-then-rows-lt5
returns-then-rows-lt5 c = sections_few c.code-then-rows-lt5.ensures (omega arith) (omega arith) c.if-rows-lt5.true c.refuse-then-rows-lt5.ensures

pub put_sections-requires : goal.put_sections-requires
put_sections-requires c = found_small _ _ _ _ _ _ _ c.trailing_sections.ensures c.in-Ok.is

pub returns-in-Err : goal.returns-in-Err
returns-in-Err c = sections_not _ _ _ _ _ _ _ c.trailing_sections.ensures (omega arith) (omega arith) c.if-rows-lt5.false c.in-Err.is c.code-in-Err.ensures

pub returns-in-Ok : goal.returns-in-Ok
returns-in-Ok c = sections_got _ _ _ _ _ _ _ c.trailing_sections.ensures (omega arith) (omega arith) c.if-rows-lt5.false c.in-Ok.is c.put_sections.ensures
