use Rattle.hbc_text_forms.proofs.Exits.{of_bytes, of_many}
use Rattle.hbc_text_utf8.proofs.utf8_length.Goals as goal

pub returns-then-s-gt-LIMIT : goal.returns-then-s-gt-LIMIT
returns-then-s-gt-LIMIT c = of_many _ _ _ c.if-s-gt-LIMIT.true c.refuse.ensures

pub returns : goal.returns
returns c = of_bytes _ _ _ c.if-s-gt-LIMIT.false (rw c.of.ensures at c.counted.ensures)
