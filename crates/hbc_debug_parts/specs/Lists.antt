-- docs/FORMAT.md, sections 7.3 to 7.5: what the calls of the three lists answer and write, whatever the list.
use Rattle.std.specs.Prelude.{ℕ, List, ◌++◌, take, drop}
use Rattle.std.proofs.lemmas.List.Edits.{sets}
use Rattle.hbc_io.specs.Outcome.{limit}
use Rattle.hbc_io.specs.Answer.{Answer, refused_at}
use Rattle.hbc_io.specs.Lends.{below}

-- 1: a part that ends behind the 2^30 bytes of a file; else what follows
abbrev pub in_limit : {A : Type 0} → ℕ → Answer A → Answer A
in_limit end a = below limit end (refused_at 1 0) a

-- 4: fewer rows are lent than are asked for; else what follows
abbrev pub with_room : {A : Type 0} → ℕ → ℕ → Answer A → Answer A
with_room lent count a = below lent count (refused_at 4 0) a

-- the first n words of a table become these, as many as there are; every other word is as it was
unfoldable pub in_front : ℕ → List ℕ → List ℕ → List ℕ
in_front n words t = sets (take n t) 0 words ++ drop n t
