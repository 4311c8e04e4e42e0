use Prim.Native.Nat.{ℕ}
use mathlib.Core.Path.{◌≡◌, ap, ◌∙◌}
use mathlib.Core.List.{List, [], ◌∷◌}
use native.Mathlib.Omega.{arith}
use Rattle.hbc_rows.specs.Rows.{put_row}
use Rattle.hbc_c_parsing.specs.Parsing.{section_width}
use Rattle.hbc_c_parsing.proofs.put_sources.Goals as goal

-- the last word of the row of absent sources says so
marked : (t : List ℕ) (k a : ℕ) {t' : List ℕ} → t' ≡ put_row section_width t k (0 ∷ 0 ∷ 0 ∷ a ∷ []) → a ≡ 1 → t' ≡ put_row section_width t k (0 ∷ 0 ∷ 0 ∷ 1 ∷ [])
marked t k a e f = e ∙ ap (λ (m : ℕ). put_row section_width t k (0 ∷ 0 ∷ 0 ∷ m ∷ [])) f

pub put_section-requires : goal.put_section-requires
put_section-requires c = rw c.in-Some.is at c.requires

pub returns-in-Some : goal.returns-in-Some
returns-in-Some c = rw c.in-Some.is c.put_section.ensures

pub returns-in-None : goal.returns-in-None
returns-in-None c = rw c.in-None.is (marked _ _ _ c.put_row.ensures (omega arith))
