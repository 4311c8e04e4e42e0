use Rattle.hbc_io.proofs.Reading.{found}
use Rattle.hbc_io.specs.Answers.{says}
use Rattle.hbc_io_strings.proofs.Strings as string
use Rattle.hbc_record.proofs.Recorded.{span_got, span_refused}
use Rattle.hbc_record.proofs.span_at.Goals as goal

pub returns-in-Ok : goal.returns-in-Ok
returns-in-Ok c = span_got _ _ (string.span_got _ _ (found says c.read_length_prefixed_string.ensures c.in-Ok.is))

pub returns-in-Err : goal.returns-in-Err
returns-in-Err c = span_refused _ _ (string.span_refused _ _ (found says c.read_length_prefixed_string.ensures c.in-Err.is))
