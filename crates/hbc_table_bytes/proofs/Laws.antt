-- The span and the bytes are of one string: a caller who cannot be handed a part takes it by the span.
use Prim.Native.Nat.{ℕ, ◌+◌, ◌-◌, ◌*◌, ◌≤◌, ◌<◌}
use mathlib.Core.Path.{◌≡◌, refl, ◌∙◌}
use mathlib.Core.List.{List}
use mathlib.Core.Bool.{Bool, true, false}
use native.Mathlib.Omega.{arith}
use lib.ListN.{length, get_or, take, drop}
use lib.Dec.{ltb}
use lib.Seq.{get_or-take, get_or-drop}
use borrow.Author.Tests.{lt-ltb, le-ltb, ltb-false}
use Rattle.hbc_io.specs.Plain.{span_of, span_in, part_of}
use Rattle.hbc_io.specs.declared.Span.{Span}
use Rattle.hbc_rows.specs.Rows.{entry_at, rows, row_at}
use Rattle.hbc_rows.proofs.Laws.{test_eq, test_ne}
use Rattle.hbc_table_strings.specs.Row.{string_width}
use Rattle.hbc_table_bytes.specs.StringBytes.{span_at, string_span, string_bytes}

-- ---- the span that a row says, by the words read

-- word c of row k, as the row has it and as the table has it
pub row_word : (w : ℕ) (t : List ℕ) (k c : ℕ) → c < w → get_or (row_at w t k) c 0 ≡ entry_at t (k * w + c)
unfolding row_at entry_at
row_word w t k c h = get_or-take w (drop (k * w) t) c 0 h ∙ get_or-drop (k * w) t c 0

same_span : {a b m n : ℕ} → a ≡ b → m ≡ n → span_of a m ≡ span_of b n
same_span e f = rw (e, f)

module _ (t : List ℕ) (k : ℕ) where
  pub span_valid : {invalid start bytes : ℕ} → k < rows string_width t → invalid ≡ entry_at t (k * string_width + 2) → invalid ≡ 0
      → start ≡ entry_at t (k * string_width + 0) → bytes ≡ entry_at t (k * string_width + 1) → span_of start bytes ≡ span_at t k
  unfolding span_at
  span_valid h p q e f =
      let w : ((c : ℕ) → c < 4 → get_or (row_at string_width t k) c 0 ≡ entry_at t (k * string_width + c)) = row_word string_width t k in
      rw (lt-ltb _ _ h, w 2 (omega arith), test_eq p q, w 0 (omega arith), w 1 (omega arith)) (same_span e f)

  pub span_invalid : {invalid : ℕ} → k < rows string_width t → invalid ≡ entry_at t (k * string_width + 2) → (invalid ≡ 0 → ⊥) → span_of 0 0 ≡ span_at t k
  unfolding span_at
  span_invalid h p q = rw (lt-ltb _ _ h, row_word string_width t k 2 (omega arith), test_ne p q)

  pub span_none : rows string_width t ≤ k → span_of 0 0 ≡ span_at t k
  unfolding span_at
  span_none h = rw (le-ltb _ _ h)

-- ---- the span within the storage

-- the span lies within the storage, and names the part
pub record Names (s : List ℕ) (p : Span) (part : List ℕ) : Type 0 where
  pub inside : p.start + p.len ≤ length s
  pub is : take p.len (drop p.start s) ≡ part

names : (s : List ℕ) (p : Span) (a b : Bool) → ltb (length s) p.start ≡ a → ltb (length s - p.start) p.len ≡ b → Names s (span_in s p) (part_of s p)
names s p true b e f = rw e (record { inside = omega arith; is = refl })
names s p false true e f = rw (e, f) (record { inside = omega arith; is = refl })
names s p false false e f =
    let x : p.start ≤ length s = ltb-false (length s) p.start e in
    let y : p.len ≤ length s - p.start = ltb-false (length s - p.start) p.len f in
    rw (e, f) (record { inside = omega arith; is = refl })

pub span_names : (s t : List ℕ) (k : ℕ) → Names s (string_span s t k) (string_bytes s t k)
unfolding string_span string_bytes
span_names s t k = names s (span_at t k) (ltb (length s) (span_at t k).start) (ltb (length s - (span_at t k).start) (span_at t k).len) refl refl
