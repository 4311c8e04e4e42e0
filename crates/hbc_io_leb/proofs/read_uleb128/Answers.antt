use mathlib.Core.Path.{refl, sym}
use native.Mathlib.Omega.{arith}
use Rattle.hbc_io.proofs.Reading.{found}
use Rattle.hbc_io.specs.Answers.{says}
use Rattle.hbc_io_leb.proofs.Exacts.{few_u}
use Rattle.hbc_io_leb.proofs.Numbers.{one_read, unsigned_read}
use Rattle.hbc_io_leb.proofs.read_uleb128.Goals as goal

pub returns-then-first-lt128 : goal.returns-then-first-lt128
returns-then-first-lt128 c =
    let e = one_read _ _ c.first_at-first.ensures c.if-first-lt128.true refl in
    sym (unsigned_read _ _ _ _ e (few_u 1 c.first_at-first.result (omega arith)))

pub returns : goal.returns
returns c = sym (unsigned_read _ _ _ _ (found says c.read_groups.ensures c.in_ok-g.was) c.exact_unsigned.ensures)
