use Rattle.std.proofs.Common.{rules}
use mathlib.Core.Path.{sym, ap, ◌∙◌}
use Rattle.hbc_io.specs.Outcome.{valued}
use Rattle.hbc_io.specs.declared.Span.{Span}
use Rattle.hbc_io.specs.Answers.{says}
use Rattle.hbc_io.proofs.Reading.{found}
use Rattle.hbc_buffer_literal.proofs.Laws.{none_is}
use Rattle.hbc_buffer_literal.proofs.none.Goals as goal

pub returns-in_err-next : goal.returns-in_err-next
returns-in_err-next c =
    let z = ap (valued (λ (p : Span). 0)) (sym (found says c.read_bytes.ensures c.in_err-next.was)) ∙ none_is _ _ in
    search (rules, z)

pub returns : goal.returns
returns c = ap (valued (λ (p : Span). 0)) (sym (found says c.read_bytes.ensures c.in_ok-next.was)) ∙ none_is _ _
