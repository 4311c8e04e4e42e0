-- What equals one thing is one thing.
use mathlib.Core.Path.{sym, ◌∙◌}
use Rattle.hbc_claims_law.specs.Law.{OneThing}

pub same : {A : Type 0} {x r q : A} → OneThing x r q
same e f = e ∙ sym f
