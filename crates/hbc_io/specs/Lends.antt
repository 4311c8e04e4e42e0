-- docs/FORMAT.md, sections 1.2, 1.4 and 1.6: what a call promises that answers and is lent words, whatever the call.
use Rattle.std.specs.Prelude.{ℕ, ◌≡◌, Bool, cond, ltb}
use Rattle.hbc_io.specs.Outcome.{Outcome}
use Rattle.hbc_io.specs.Answer.{Answer, gives, refuses, told}

-- one test of an answer that tests choose one after another: x where a is below b, else what follows
unfoldable pub below : {O : Type 0} → ℕ → ℕ → O → O → O
below a b x o = cond (ltb a b) x o

-- and one that is no such comparison: x where b, else what follows
unfoldable pub choose : {O : Type 0} → Bool → O → O → O
choose b x o = cond b x o

-- the new words where what was asked for is given, the old ones where it is refused
abbrev pub written : {A W : Type 0} → Answer A → W → W → W
written (gives a) new old = new
written (refuses x) new old = old

-- r says o; the words are the new ones if r gives what was asked for, and as they were if it refuses. What r says is told as an answer.
pub record Tells {O A R W : Type 0} (tell : O → Answer A) (of : R → O) (o : O) (new before : W) (r : R) (after : W) : Type 0 where
  pub says : of r ≡ o
  pub leaves : after ≡ written (tell (of r)) new before

-- of an answer itself
abbrev pub Lends : {A R W : Type 0} → (R → Answer A) → Answer A → W → W → R → W → Type 0
Lends {A} = Tells (λ (a : Answer A). a)

-- of a read from a cursor: an answer with a cursor
abbrev pub LendsFrom : {A R W : Type 0} → (R → Outcome A) → Outcome A → W → W → R → W → Type 0
LendsFrom = Tells told
