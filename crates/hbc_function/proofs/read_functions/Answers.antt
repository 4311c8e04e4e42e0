use mathlib.Core.Path.{◌≡◌, refl, ap}
use native.Mathlib.Omega.{arith}
use Rattle.hbc_io.specs.Answer.{refuses}
use Rattle.std.specs.Prelude.{Err}
use Rattle.std.proofs.lemmas.Grind.{common_steps}
use Rattle.hbc_io.proofs.Exits.{stop, past, given, refused}
use Rattle.hbc_function.specs.Table.{read_answer}
use Rattle.hbc_function.proofs.Sums.{read_lent}
use Rattle.hbc_function.proofs.read_functions.Goals as goal

pub returns-then-file-gt-LIMIT : goal.returns-then-file-gt-LIMIT
unfolding read_answer
returns-then-file-gt-LIMIT c = stop _ _ _ _ (omega arith) refl (ap refuses c.refuse.ensures)

pub returns-then-file-start : goal.returns-then-file-start
unfolding read_answer
returns-then-file-start c = past _ _ _ _ (omega arith) (stop _ _ _ _ (omega arith) refl (ap refuses c.refuse-then-file-start.ensures))

pub returns-then-table-count : goal.returns-then-table-count
unfolding read_answer
returns-then-table-count c = past _ _ _ _ (omega arith) (past _ _ _ _ (omega arith) (stop _ _ _ _ (omega arith) refl (ap refuses c.refuse-then-table-count.ensures)))

pub returns-in_err-check_all : goal.returns-in_err-check_all
unfolding read_answer
returns-in_err-check_all c =
    let q : c.from_residual.result ≡ Err c.in_err-check_all.field-0.0 = grind (arith, common_steps) in
    rw q (past _ _ _ _ (omega arith) (past _ _ _ _ (omega arith) (past _ _ _ _ (omega arith) (refused refl c.in_err-check_all.ensures))))

pub returns : goal.returns
unfolding read_answer
returns c = past _ _ _ _ (omega arith) (past _ _ _ _ (omega arith) (past _ _ _ _ (omega arith) (given refl c.in_ok-check_all.ensures (read_lent _ _ _ c.write_rows-sums.ensures.0 c.write_rows-sums.ensures.1))))
