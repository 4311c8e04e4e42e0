use borrow.Author.Tests.{le-leb}
use native.Mathlib.Omega.{arith}
use mir.Syntax.{w64}
use mir.ValLaws.{to_z-of_z}
use Rattle.hbc_io_leb.proofs.Slebs.{sign_law}
use borrow.Author.Rules.{rules}
use Rattle.hbc_io_leb.proofs.extended.Goals as goal

pub returns-then-count-ge10 : goal.returns-then-count-ge10
returns-then-count-ge10 c = rw (to_z-of_z w64 c.signed64.result (search rules), c.signed64.ensures, le-leb _ _ c.if-count-ge10.true)

pub returns : goal.returns
returns c =
    let a = c.args in
    rw (to_z-of_z w64 c.signed64-2.result (search rules), c.signed64-2.ensures)
    (sign_law a.count a.bits (omega arith) (omega arith) c.requires.1)
