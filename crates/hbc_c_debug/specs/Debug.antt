-- docs/FORMAT.md, section 8.2: what hbc_read_debug hands back: the answer as one number, the four counts and the mark, the four tables.
use Rattle.std.specs.Prelude.{List, ℕ, Result, Ok, Err}
use Rattle.hbc_io.specs.Answer.{Answer, gives, refuses}
use Rattle.hbc_io.specs.declared.Refusal.{Refusal}
use Rattle.hbc_debug_parts.specs.declared.Marked.{Marked}
use Rattle.hbc_debug.specs.Debug.{Tables, ReadDebug}
use Rattle.hbc_debug.specs.declared.Counts.{Counts}
use Rattle.hbc_c_code.specs.Code.{truth}
use Rattle.hbc_c_code.specs.Told.{ToldValue}

abbrev pub counts : ℕ → ℕ → ℕ → ℕ → Counts
counts strings scopes names callees = record { strings = strings; scopes = scopes; names = names; callees = callees }

-- the numbers lent: for the counts, and for the mark
pub record Lent : Type 0 where
  pub counts : Counts
  pub exact : ℕ

abbrev pub lent : Counts → ℕ → Lent
lent k exact = record { counts = k; exact = exact }

-- the answer in such numbers: the mark is 1 or 0
abbrev pub says_lent : Result (Marked Counts) Refusal → Answer Lent
says_lent (Ok r) = gives (lent r.value (truth r.exact))
says_lent (Err r) = refuses r

-- accepted, the answer is 0 and the counts and the mark are in the numbers lent for them
abbrev pub ToldDebug : List ℕ → ℕ → Tables → Lent → ℕ → Tables → Lent → Type 0
ToldDebug file offset before = ToldValue says_lent (ReadDebug file offset before)
