-- What a table read leaves: accepted, the words of the file in front and every other word as it was; refused, table and cursor.
use Prim.Native.Nat.{ℕ, ◌+◌, ◌*◌, ◌≤◌, ◌<◌}
use mathlib.Core.Path.{◌≡◌, refl, sym}
use mathlib.Core.List.{List}
use native.Mathlib.Omega.{arith}
use lib.ListN.{length}
use lib.Dec.{ltb}
use Rattle.hbc_bits.specs.Bits.{le_at}
use Rattle.hbc_io.specs.Outcome.{Outcome, got, refused, cursor_at, limit, left}
use Rattle.hbc_io.specs.Lends.{below}
use Rattle.hbc_io.specs.declared.Cursor.{Cursor}
use Rattle.hbc_io.specs.declared.Refusal.{Refusal}
use Rattle.std.specs.Prelude.{Ok, Err}
use Rattle.hbc_io.proofs.Exits.{reached}
use Rattle.hbc_io.proofs.Reading.{not_both}
use Rattle.hbc_rows.specs.Rows.{entry_at}
use Rattle.hbc_rows.proofs.Laws.{filled_length}
use Rattle.hbc_rows.proofs.RowsAt.{filled_at, filled_past}
use Rattle.hbc_table.specs.Table.{words_from, words_at, ReadTable}
use Rattle.hbc_claims_law.proofs.Tests.{either}
use Rattle.hbc_claims_law.specs.Terms.{Behind}
use Rattle.hbc_claims_table.specs.Left.{TableLeft}

-- an accepted read of n words
record Got (c : Cursor) (n words : ℕ) (next : Cursor) : Type 0 where
  room : n ≤ words
  moves : next ≡ cursor_at (c.at + 4 * n)

no_got : {k : Refusal} {c next : Cursor} → ◌≡◌ {A = Outcome (Unit {0})} (refused k c) (got tt next) → ⊥
no_got e = not_both e refl

got_words : (bytes : ℕ) (s : List ℕ) (c : Cursor) (n words : ℕ) (next : Cursor) → words_at bytes s c n words ≡ got tt next → Got c n words next
unfolding words_at
got_words bytes s c n words next e =
    let p = reached _ _ _ _ no_got e in
    let q = reached _ _ _ _ no_got p.1 in
    let u = reached _ _ _ _ no_got q.1 in
    let w = reached _ _ _ _ no_got u.1 in
    record { room = u.0; moves = cc w.1 }

module _ (width : ℕ) (s : List ℕ) (c : Cursor) (count : ℕ) (before after : List ℕ) (next : Cursor) (v : ReadTable width s c count before (Ok next) after) where
  accepted : Got c (width * count) (length before) next
  accepted = got_words (4 * width) s c (width * count) (length before) next (sym v.says)

  -- the cursor stands after the entries
  pub read_moves : next ≡ cursor_at (c.at + 4 * (width * count))
  read_moves = accepted.moves

  -- word i of the table is the i-th u32 from the cursor
  pub read_word : (i : ℕ) → i < width * count → entry_at after i ≡ le_at s (c.at + 4 * i) 4
  read_word i h =
      let g = accepted in
      rw v.leaves (filled_at (words_from s c.at) before (width * count) i (omega (arith, g.room)) h)

  -- and every word past the entries is as it was
  pub read_behind : Behind (width * count) before after
  unfolding entry_at
  read_behind =
      rw v.leaves
      (record { rest = filled_past (words_from s c.at) before (width * count); long = filled_length (words_from s c.at) before (width * count) })

-- a refused read leaves the cursor
pub words_left : (bytes : ℕ) (s : List ℕ) (c : Cursor) (n words : ℕ) (r : Refusal) (stays : Cursor) → words_at bytes s c n words ≡ refused r stays → stays ≡ c
unfolding words_at below
words_left bytes s c n words r stays e =
    either (ltb limit (length s)) e (λ p. cc) (λ e.
    either (ltb (length s) c.at) e (λ p. cc) (λ e.
    either (ltb words n) e (λ p. cc) (λ e.
    either (ltb (left s c) (4 * n)) e (λ p. cc) (λ e. absurd (not_both refl e)))))

-- and the table
pub table_left : (width : ℕ) (s : List ℕ) (c : Cursor) (count : ℕ) (before after : List ℕ) (k : Refusal) (stays : Cursor)
    → ReadTable width s c count before (Err (record { refusal = k; cursor = stays })) after → TableLeft c before stays after
table_left width s c count before after k stays v =
    (v.leaves, words_left (4 * width) s c (width * count) (length before) k stays (sym v.says))
