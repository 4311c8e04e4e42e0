use mathlib.Core.Path.{refl, ap, ◌∙◌}
use native.Mathlib.Omega.{arith}
use Rattle.hbc_io.specs.Answer.{gives, refuses, refused_at}
use Rattle.hbc_io.proofs.Exits.{stop, past}
use Rattle.hbc_c_code.specs.Code.{code_of}
use Rattle.hbc_c_code.proofs.Tolds.{told_by}
use Rattle.hbc_c_function.specs.Function.{row_answer}
use Rattle.hbc_c_function.proofs.OneRow.{row_read, row_kept}
use Rattle.hbc_c_function.proofs.read_row.Goals as goal

pub returns-then-file-gt-LIMIT : goal.returns-then-file-gt-LIMIT
unfolding row_answer
returns-then-file-gt-LIMIT c = told_by {b = refused_at 1 0} (stop _ _ _ _ (omega arith) refl refl) refl (c.code.ensures ∙ ap code_of c.refuse.ensures)

pub returns-then-file-start : goal.returns-then-file-start
unfolding row_answer
returns-then-file-start c = told_by {b = refused_at 2 0} (past _ _ _ _ (omega arith) (stop _ _ _ _ (omega arith) refl refl)) refl (c.code-then-file-start.ensures ∙ ap code_of c.refuse-then-file-start.ensures)

pub returns-then-table-lt-WIDTH : goal.returns-then-table-lt-WIDTH
unfolding row_answer
returns-then-table-lt-WIDTH c = told_by {b = refused_at 4 0} (past _ _ _ _ (omega arith) (past _ _ _ _ (omega arith) (stop _ _ _ _ (omega arith) refl refl))) refl (c.code-then-table-lt-WIDTH.ensures ∙ ap code_of c.refuse-then-table-lt-WIDTH.ensures)

pub returns-in-Ok : goal.returns-in-Ok
returns-in-Ok c = told_by {b = gives tt} (row_read _ _ _ _ _ (omega arith) (omega arith) (omega arith) c.in-Ok.ensures c.row_words-words.ensures c.put_row.ensures) refl refl

pub returns-in-Err : goal.returns-in-Err
returns-in-Err c = told_by {b = refuses c.in-Err.r} (row_kept _ _ _ _ _ (omega arith) (omega arith) (omega arith) c.in-Err.ensures) refl c.code-in-Err.ensures
