use mathlib.Core.Path.{ap}
use Rattle.hbc_io.specs.Outcome.{valued}
use Rattle.hbc_io.proofs.Reading.{found}
use Rattle.hbc_io.specs.Answers.{says}
use Rattle.hbc_io_strings.specs.declared.Prefixed.{Prefixed}
use Rattle.hbc_io_strings.proofs.Strings as string
use Rattle.hbc_c_io.proofs.Spans.{span_got, span_refused, marked_got, marked_refused}
use Rattle.hbc_c_io.proofs.read_length_prefixed_string.Goals as goal

pub returns-in-Ok : goal.returns-in-Ok
returns-in-Ok c = marked_got (span_got (string.span_got _ _ (found says c.read_length_prefixed_string.ensures c.in-Ok.is))) (ap (valued (λ (p : Prefixed). p.exact)) (found says c.read_length_prefixed_string.ensures c.in-Ok.is))

pub returns-in-Err : goal.returns-in-Err
returns-in-Err c = rw c.refused.ensures.1 (marked_refused (span_refused (string.span_refused _ _ (found says c.read_length_prefixed_string.ensures c.in-Err.is)) c.refused.ensures.0) (ap (valued (λ (p : Prefixed). p.exact)) (found says c.read_length_prefixed_string.ensures c.in-Err.is)))
