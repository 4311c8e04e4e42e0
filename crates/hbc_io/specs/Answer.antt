-- docs/FORMAT.md, section 1.1: what a call answers, whatever the call: what was asked for, or a refusal's number and place.
use Rattle.std.specs.Prelude.{ℕ}
use Rattle.hbc_io.specs.declared.Refusal.{Refusal}
use Rattle.hbc_io.specs.Outcome.{Outcome, got, refused, refusal_at}

pub data Answer (A : Type 0) : Type 0 where
  gives : A → Answer A
  refuses : Refusal → Answer A

abbrev pub refused_at : {A : Type 0} → ℕ → ℕ → Answer A
refused_at k place = refuses (refusal_at k place)

-- the same answer without what was asked for: whether it was refused, and how
abbrev pub asked : {A : Type 0} → Answer A → Answer (Unit {0})
asked (gives a) = gives tt
asked (refuses r) = refuses r

-- one answer after another: the first refusal stays
abbrev pub and_then : {A B : Type 0} → Answer A → (A → Answer B) → Answer B
and_then (gives a) f = f a
and_then (refuses r) f = refuses r

-- what a read from a cursor answers, the cursor left aside
abbrev pub told : {A : Type 0} → Outcome A → Answer A
told (got v n) = gives v
told (refused r n) = refuses r
