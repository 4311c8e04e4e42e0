use Rattle.hbc_record.proofs.field_at.Goals as goal

pub returns : goal.returns
returns c = rw (← c.span_at.ensures) c.part.ensures
