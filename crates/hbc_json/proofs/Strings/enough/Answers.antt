use borrow.Author.Tests.{le-leb}
use mathlib.Core.Path.{sym}
use Rattle.hbc_json.proofs.Strings.enough.Goals as goal

pub returns-then-is_ample : goal.returns-then-is_ample
returns-then-is_ample c = sym (le-leb _ _ (c.is_ample.ensures c.if-is_ample.true))
