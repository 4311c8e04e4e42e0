use Rattle.hbc_record.proofs.field_of.Goals as goal

pub returns : goal.returns
returns c = rw (← c.place.ensures) c.field_at.ensures
