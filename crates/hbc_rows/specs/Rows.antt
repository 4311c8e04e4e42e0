-- docs/FORMAT.md, section 1.5: lent tables of words: one word, words put in front or from a place on, and rows of any width put at their places, over
-- what is there.
use Rattle.std.specs.Prelude.{ℕ, zero, suc, ◌+◌, ◌*◌, ◌/◌, List, cond, length, get_or, set, take, drop, ltb}
use Rattle.std.proofs.lemmas.List.Edits.{sets}

-- word i of a table, 0 past its end
unfoldable pub entry_at : List ℕ → ℕ → ℕ
entry_at t i = get_or t i 0

-- the table t with f 0 to f (n - 1) in front
unfoldable pub filled : (ℕ → ℕ) → ℕ → List ℕ → List ℕ
filled f zero t = t
filled f (suc n) t = set (filled f n t) n (f n)

-- the table, or the bytes, with these put from a place on, those that there is room for
unfoldable pub put : ℕ → List ℕ → List ℕ → List ℕ
put at bs t = sets t at bs

-- ---- rows of w words each: a function's, a string's, a scope's, a pair

-- a table has as many rows as w words go into it
abbrev pub rows : ℕ → List ℕ → ℕ
rows w t = length t / w

-- row k of a table
unfoldable pub row_at : ℕ → List ℕ → ℕ → List ℕ
row_at w t k = take w (drop (k * w) t)

-- the table with a row put in place k, if it has such a row
unfoldable pub put_row : ℕ → List ℕ → ℕ → List ℕ → List ℕ
put_row w t k row = cond (ltb (length t) (k * w + w)) t (sets t (k * w) row)

-- the table with rows f 0 to f (n - 1) put from row base on
unfoldable pub put_rows : ℕ → (ℕ → List ℕ) → ℕ → ℕ → List ℕ → List ℕ
put_rows w f base zero t = t
put_rows w f base (suc n) t = put_row w (put_rows w f base n t) (base + n) (f n)
