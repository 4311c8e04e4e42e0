-- docs/FORMAT.md, section 8.2: the number that the call on reasons answers at the boundary, and the number lent to it.
use Rattle.std.specs.Prelude.{ℕ, ◌<◌, ◌≡◌, Result, Ok, Err}
use Rattle.hbc_io.specs.declared.Refusal.{Refusal}
use Rattle.hbc_parsing_handlers.specs.declared.Table.{Table}
use Rattle.hbc_parsing_handlers.specs.declared.Reason.{Reason}
use Rattle.hbc_parsing_handlers.specs.Why.{reason_number}
use Rattle.hbc_c_code.specs.Code.{code_of}

-- the export answers r and leaves n' where n was; the call behind it answers q
pub record WhyTold (q : Result (Result Table Reason) Refusal) (n r n' : ℕ) : Type 0 where
  -- 0: handlers are shown, and n' is how many
  pub shown : r ≡ 0 → (t : Table) × (q ≡ Ok (Ok t)) × (n' ≡ t.count)
  -- 1 to 7: the reason of that number, and n stays
  pub reason : (x : Reason) → r ≡ reason_number x → (q ≡ Ok (Err x)) × (n' ≡ n)
  -- else it is refused, and n stays
  pub refused : 7 < r → (k : Refusal) × (q ≡ Err k) × (r ≡ code_of k) × (n' ≡ n)
