-- What a table holds after rows were put into it, word by word, over any functions and any choice among them.
use Prim.Native.Nat.{ℕ, zero, suc, ◌+◌, ◌*◌, ◌/◌, ◌%◌, ◌≤◌, ◌<◌}
use mathlib.Core.Path.{◌≡◌, refl, ap, sym, ◌∙◌}
use mathlib.Core.List.{List, []}
use mathlib.Core.Bool.{Bool, true, false}
use native.Mathlib.Omega.{arith}
use lib.ListN.{length, get_or}
use lib.Seq.{ext_get_or}
use lib.Dec.{eqb}
use borrow.Author.Tests.{eqb-true, eqb-false}
use Rattle.hbc_io.specs.Answer.{Answer}
use Rattle.hbc_rows.specs.Rows as rows
use Rattle.hbc_rows.proofs.RowsAt.{put_apart, rows_apart}
use Rattle.hbc_function_record.specs.declared.Found.{Found}
use Rattle.hbc_function_record.specs.Row.{width}
use Rattle.hbc_function.specs.Table.{row_if, put_rows}
use Rattle.hbc_function.proofs.Laws.{short, put_nothing}

-- a table is known by its length and the words of its rows
pub by_words : (u v : List ℕ) → length u ≡ length v → ((i c : ℕ) → c < width → get_or u (i * width + c) 0 ≡ get_or v (i * width + c) 0) → u ≡ v
by_words u v e w = ext_get_or 0 u v e (λ j l. word j)
  where
    word : (j : ℕ) → get_or u j 0 ≡ get_or v j 0
    word j =
        let q : j ≡ j / width * width + j % width = omega arith in
        ap (λ (x : ℕ). get_or u x 0) q ∙ w (j / width) (j % width) (omega arith) ∙ ap (λ (x : ℕ). get_or v x 0) (sym q)

module _ (chosen : ℕ → Bool) (f : ℕ → Answer Found) (t : List ℕ) where
  kept_by : (n i c : ℕ) → c < width → chosen i ≡ false → get_or (rows.put_rows width (row_if chosen f) 0 n t) (i * width + c) 0 ≡ get_or t (i * width + c) 0
      → (b : Bool) → eqb i n ≡ b
      → get_or (rows.put_row width (rows.put_rows width (row_if chosen f) 0 n t) (0 + n) (row_if chosen f n)) (i * width + c) 0 ≡ get_or t (i * width + c) 0
  kept_by n i c l p ih true e =
      let z : i ≡ n = eqb-true i n e in
      let q : row_if chosen f n ≡ [] = rw (← z, p) in
      ap (λ (u : List ℕ). get_or u (i * width + c) 0)
      (ap (rows.put_row width (rows.put_rows width (row_if chosen f) 0 n t) (0 + n)) q ∙ put_nothing (rows.put_rows width (row_if chosen f) 0 n t) (0 + n))
      ∙ ih
  kept_by n i c l p ih false e =
      let z : (i ≡ n → ⊥) = eqb-false i n e in
      put_apart width (row_if chosen f n) (short chosen f n) (rows.put_rows width (row_if chosen f) 0 n t) (0 + n) i c l (λ q. z (omega arith)) ∙ ih

  -- one that is not chosen keeps its row
  pub word_kept : (n i c : ℕ) → c < width → chosen i ≡ false → get_or (put_rows chosen f t n) (i * width + c) 0 ≡ get_or t (i * width + c) 0
  unfolding put_rows rows.put_rows
  word_kept zero i c l p = refl
  word_kept (suc n) i c l p = kept_by n i c l p (word_kept n i c l p) (eqb i n) refl

  -- and so does every word behind the rows
  pub word_past : (n i c : ℕ) → c < width → n ≤ i → get_or (put_rows chosen f t n) (i * width + c) 0 ≡ get_or t (i * width + c) 0
  unfolding put_rows
  word_past n i c l h = rows_apart width (row_if chosen f) (short chosen f) 0 t n i c l (λ m k e. omega arith)

  pub word_behind : (n j : ℕ) → n * width ≤ j → get_or (put_rows chosen f t n) j 0 ≡ get_or t j 0
  word_behind n j l =
      let q : j ≡ j / width * width + j % width = omega arith in
      let m : n ≤ j / width = omega arith in
      ap (λ (x : ℕ). get_or (put_rows chosen f t n) x 0) q ∙ word_past n (j / width) (j % width) (omega arith) m ∙ ap (λ (x : ℕ). get_or t x 0) (sym q)
