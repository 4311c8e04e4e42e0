use mathlib.Core.Path.{refl}
use native.Mathlib.Omega.{arith}
use Rattle.hbc_io.proofs.Reading.{found}
use mir.Syntax.{w64}
use mir.ValLaws.{to_z-of_z}
use Rattle.hbc_io.specs.Answers.{says}
use Rattle.hbc_io_leb.proofs.Exacts.{few_s}
use Rattle.hbc_io_leb.proofs.Numbers.{one_read, groups_fit, signed_read}
use borrow.Author.Rules.{rules}
use Rattle.hbc_io_leb.proofs.read_sleb128.Goals as goal

pub returns-then-first-lt128 : goal.returns-then-first-lt128
returns-then-first-lt128 c =
    let e = one_read _ _ c.first_at-first.ensures c.if-first-lt128.true refl in
    rw (to_z-of_z w64 c.extended.result (search rules), signed_read _ _ _ _ e c.extended.ensures (few_s 1 c.first_at-first.result (omega arith)))

pub extended-requires-2 : goal.extended-requires-2
extended-requires-2 c = groups_fit _ _ _ _ (found says c.read_groups.ensures c.in_ok-g.was)

pub returns : goal.returns
returns c = rw (to_z-of_z w64 c.extended-2.result (search rules), signed_read _ _ _ _ (found says c.read_groups.ensures c.in_ok-g.was) c.extended-2.ensures c.exact_signed.ensures)
