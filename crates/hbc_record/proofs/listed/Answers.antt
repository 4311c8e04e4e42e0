use Rattle.hbc_io.proofs.Reading.{found}
use Rattle.hbc_io.specs.Answers.{says}
use Rattle.hbc_record.proofs.Recorded.{number_got, number_refused}
use Rattle.hbc_record.proofs.listed.Goals as goal

pub returns-in-Ok : goal.returns-in-Ok
returns-in-Ok c = number_got _ _ _ (found says c.read_uleb128.ensures c.in-Ok.is)

pub returns-in-Err : goal.returns-in-Err
returns-in-Err c = number_refused _ _ _ (found says c.read_uleb128.ensures c.in-Err.is)
