use mir.Syntax.{w32}
use mir.ValLaws.{to_z-of_z}
use Rattle.hbc_io.proofs.Reading.{found}
use Rattle.hbc_io.specs.Answers.{says}
use Rattle.hbc_c_buffer.proofs.Literals.{literal_told, literal_untold}
use borrow.Author.Rules.{rules}
use Rattle.hbc_c_buffer.proofs.read_literal.Goals as goal

pub returns-in-Null : goal.returns-in-Null
returns-in-Null c = literal_told (found says c.read_literal.ensures c.in-Ok.is) c.in-Null.is

pub returns-in-Bool-true : goal.returns-in-Bool-true
returns-in-Bool-true c = literal_told (found says c.read_literal.ensures c.in-Ok.is) (rw c.in-Bool-true.field-0-test at c.in-Bool-true.is)

pub returns-in-Bool-false : goal.returns-in-Bool-false
returns-in-Bool-false c = literal_told (found says c.read_literal.ensures c.in-Ok.is) (rw c.in-Bool-false.field-0-test at c.in-Bool-false.is)

pub returns-in-Number : goal.returns-in-Number
returns-in-Number c = literal_told (found says c.read_literal.ensures c.in-Ok.is) c.in-Number.is

pub returns-in-String : goal.returns-in-String
returns-in-String c = literal_told (found says c.read_literal.ensures c.in-Ok.is) c.in-String.is

pub returns-in-Integer : goal.returns-in-Integer
returns-in-Integer c = rw (c.word_of.ensures, to_z-of_z w32 c.in-Integer.z (search rules)) (literal_told (found says c.read_literal.ensures c.in-Ok.is) c.in-Integer.is)

pub returns-in-Err : goal.returns-in-Err
returns-in-Err c = literal_untold (found says c.read_literal.ensures c.in-Err.is) c.code.ensures
