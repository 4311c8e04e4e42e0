use Rattle.std.proofs.Common.{refl}
use Rattle.hbc_record.proofs.Recorded.{given_is}
use Rattle.hbc_record.proofs.given.Goals as goal

pub returns : goal.returns
returns c = given_is c.field_of-words.ensures.bytes c.put_words.ensures refl c.lent.ensures
