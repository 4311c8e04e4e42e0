-- What only private contracts cite: no promise rests on it.
-- docs/FORMAT.md, section 7.4: the front of a scope as row words; what the two passes find and leave.
use Rattle.std.specs.Prelude.{ℕ, ◌≡◌, List, cond, length, ltb}
use Rattle.std.proofs.lemmas.List.Edits.{sets}
use Rattle.hbc_io_leb.specs.Signed.{low32}
use Rattle.hbc_debug_scopes.specs.Scopes.{Front, parent_word, absent, scopes_of, names_in, scope_words, name_words}
use Rattle.hbc_debug_scopes.specs.declared.Head.{Head}

-- the number, if it is below m, of its 64 bits
unfoldable pub word_bits : ℕ → ℕ → ℕ
word_bits m b = cond (ltb b m) b absent

-- a front as its row has it
abbrev pub head_of : Front → Head
head_of h = record { parent = parent_word h.parent; flags = low32 h.flags; count = h.count }

-- how many rows each of the two tables takes
pub record ScopesAre (s : List ℕ) (scopes names : ℕ) : Type 0 where
  pub scopes_are : scopes ≡ length (scopes_of s)
  pub names_are : names ≡ names_in (scopes_of s)

-- the two tables with their rows in them, as many as there is room for; the words past those are as they were
pub record RowsAre (s : List ℕ) (strings : ℕ) (rows names rows' names' : List ℕ) : Type 0 where
  pub rows_are : rows' ≡ sets rows 0 (scope_words (scopes_of s))
  pub names_are : names' ≡ sets names 0 (name_words strings (scopes_of s))
