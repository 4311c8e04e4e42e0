-- docs/FORMAT.md, section 7.7: what is met while things are read one after another until one fails.
use Rattle.std.specs.Prelude.{ℕ, zero, suc, List, [], ◌∷◌, ◌++◌, Bool, true, ◌&&◌}
use Rattle.hbc_io.specs.Outcome.{Outcome, got, refused}
use Rattle.hbc_io.specs.declared.Cursor.{Cursor}

-- what is met after something was got; after a failed read nothing
abbrev pub onward : {A B : Type 0} → Outcome A → (A → Cursor → List B) → List B
onward (got v n) more = more v n
onward (refused r n) more = []

-- what g meets at each cursor from c on at which the reader f is tried, the one at which it fails among them; it is tried at most k times
unfoldable pub along : {A B : Type 0} → (Cursor → Outcome A) → (Cursor → List B) → ℕ → Cursor → List B
along f g zero c = []
along f g (suc k) c = g c ++ onward (f c) (λ v n. along f g k n)

-- whether a test holds of every one; of none it does
unfoldable pub every : {B : Type 0} → (B → Bool) → List B → Bool
every p [] = true
every p (x ∷ xs) = p x && every p xs
