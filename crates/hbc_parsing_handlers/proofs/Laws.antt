-- The laws that the loops and the exits cite.
use Prim.Native.Nat.{ℕ, zero, suc, ◌+◌, ◌*◌, ◌≤◌, ◌<◌}
use mathlib.Core.Path.{◌≡◌, refl, ap, ◌∙◌}
use mathlib.Core.List.{List}
use mathlib.Core.Bool.{Bool, true, false, cond}
use native.Mathlib.Omega.{arith}
use native.Mathlib.Numerals.{add-one}
use lib.ListN.{length}
use lib.Dec.{ltb, eqb}
use borrow.Author.Tests.{le-ltb, lt-leb, ne_eqb, ltb-true, ltb-false, eqb-false}
use Rattle.hbc_bits.specs.Bits.{le_at, field}
use Rattle.hbc_io.specs.Outcome.{got, refused, cursor_at, limit}
use Rattle.hbc_io.specs.Lends.{below, choose}
use Rattle.hbc_io.specs.Plain.{word_at, align_to, aligned_up}
use Rattle.hbc_io.specs.declared.Cursor.{Cursor}
use Rattle.hbc_io.specs.declared.Refusal.{Refusal}
use Rattle.hbc_io.proofs.Exits.{not_chosen}
use Rattle.hbc_io.proofs.Reading.{not_both}
use Rattle.hbc_io.proofs.Plains.{word_there}
use Rattle.hbc_rows.specs.Rows.{put_row, put_rows}
use Rattle.hbc_rows.proofs.RowsAt.{rows_length, rows_more}
use Rattle.hbc_parsing_handlers.specs.declared.Table.{Table}
use Rattle.hbc_parsing_handlers.specs.declared.Reason.{Reason}
use Rattle.hbc_parsing_handlers.specs.declared.Reason.TheVariants as r
use Rattle.std.specs.Prelude.{Result, Ok, Err}
use Rattle.std.specs.Result.{result_unwrap_or}
use Rattle.hbc_parsing_handlers.specs.Why.{table, most, handler_bytes, counted, table_at, why_at, why, shown_by, shown}
use Rattle.hbc_parsing_handlers.specs.Handlers.{handler_words, handler_width, total, handler_row, put_handlers}
use Rattle.hbc_parsing_handlers.specs.Private.{Found}

-- an info_offset that is not 0 and in the file
module _ (s : List ℕ) (info flags : ℕ) {v : Result Table Reason} (flag : eqb (field 3 1 flags) 0 ≡ false) (some : eqb info 0 ≡ false) where
  pub info_inside : info < length s → v ≡ table_at s (aligned_up 4 info) → v ≡ why_at s info flags
  unfolding why_at
  info_inside h e = not_chosen _ _ _ flag (not_chosen _ _ _ some (not_chosen _ _ _ (lt-leb (length s) info h) e))

-- ---- the place rounded up to 4 that is past the end

past_end : (a : ℕ) (s : List ℕ) (at : ℕ) (r : Refusal) (c : Cursor) (b : Bool) → ltb (length s) (aligned_up a at) ≡ b → 0 < a → length s ≤ limit → at ≤ length s
    → align_to s (cursor_at at) a ≡ refused r c → length s < aligned_up a at
unfolding align_to
past_end a s at r c true f p h k e = ltb-true (length s) (aligned_up a at) f
past_end a s at r c false f p h k e =
    let z : align_to s (cursor_at at) a ≡ got tt (cursor_at (aligned_up a at)) =
    simp (le-ltb limit (length s) h, ne_eqb a 0 (λ q. omega arith), le-ltb (length s) at k, f)
    in
    absurd (not_both z e)

-- an align that was refused: past the end
pub rounds_past : (a : ℕ) (s : List ℕ) (at : ℕ) (r : Refusal) (c : Cursor) → 0 < a → length s ≤ limit → at ≤ length s → align_to s (cursor_at at) a ≡ refused r c
    → length s < aligned_up a at
rounds_past a s at r c p h k e = past_end a s at r c (ltb (length s) (aligned_up a at)) refl p h k e

-- ---- what holds of every reason: handlers shown are some, few, and all of them in the file

abbrev pub Some : Result Table Reason → Type 0
Some (Ok t) = 0 < t.count
Some (Err x) = Unit

pub record Good (len : ℕ) (v : Result Table Reason) : Type 0 where
  pub some : Some v
  pub few : (shown_by v).count ≤ most
  pub room : (shown_by v).place + handler_bytes * (shown_by v).count ≤ len

module _ {len : ℕ} where
  hidden : (x : Reason) → Good len (Err x)
  hidden x = record { some = tt; few = omega arith; room = omega arith }

  good_by : (b : Bool) (x : Reason) (o : Result Table Reason) → (b ≡ false → Good len o) → Good len (cond b (Err x) o)
  good_by true x o h = hidden x
  good_by false x o h = h refl

  good_choose : (b : Bool) (x : Reason) (o : Result Table Reason) → (b ≡ false → Good len o) → Good len (choose b (Err x) o)
  unfolding choose
  good_choose b x o h = good_by b x o h

  good_below : (a b : ℕ) (x : Reason) (o : Result Table Reason) → (b ≤ a → Good len o) → Good len (below a b (Err x) o)
  unfolding below
  good_below a b x o h = good_by (ltb a b) x o (λ e. h (ltb-false a b e))

good_counted : (s : List ℕ) (at n : ℕ) → Good (length s) (counted s at n)
unfolding counted
good_counted s at n =
    good_choose _ _ _ (λ z.
    good_below _ _ _ _ (λ h.
    good_below _ _ r.Cut (Ok (table n (at + 4))) (λ k.
    let p : (n ≡ 0 → ⊥) = eqb-false n 0 z in
    record { some = omega arith; few = h; room = k })))

good_table : (s : List ℕ) (at : ℕ) → Good (length s) (table_at s at)
unfolding table_at
good_table s at = good_below _ _ _ _ (λ _. good_counted s at (le_at s at 4))

good_at : (s : List ℕ) (info flags : ℕ) → Good (length s) (why_at s info flags)
unfolding why_at
good_at s info flags = good_choose _ _ _ (λ _. good_choose _ _ _ (λ _. good_choose _ _ _ (λ _. good_table s (aligned_up 4 info))))

pub good : (s functions : List ℕ) (i : ℕ) → Good (length s) (why s functions i)
unfolding why
good s functions i = good_at s _ _

shown_or : (v : Result Table Reason) → result_unwrap_or v (table 0 0) ≡ shown_by v
shown_or (Ok t) = refl
shown_or (Err x) = refl

pub found_is : {s functions : List ℕ} {i : ℕ} {t : Table} {v : Result Table Reason} → v ≡ why s functions i → t ≡ result_unwrap_or v (table 0 0)
    → Found s functions i t
unfolding shown
found_is {s} {functions} {i} {t} {v} e o =
    let p : t ≡ shown_by v = o ∙ shown_or v in
    let g : Good (length s) v = rw e (good s functions i) in
    record { is = p ∙ ap shown_by e; few = rw p g.few; room = rw p g.room }

-- ---- what the counting loop knows

pub record Counted (s functions : List ℕ) (i sum : ℕ) : Type 0 where
  pub is : sum ≡ total s functions i
  pub few : sum ≤ most * i

pub counted_first : (s functions : List ℕ) → Counted s functions 0 0
unfolding total
counted_first s functions = record { is = refl; few = omega arith }

module _ {s functions : List ℕ} {i sum : ℕ} (v : Counted s functions i sum) where
  pub counted_more : {t : Table} → Found s functions i t → Counted s functions (i + 1) (sum + t.count)
  unfolding total
  counted_more e = record { is = rw (add-one, ← e.is, v.is); few = omega (arith, v.few, e.few) }

  pub counted_done : {n : ℕ} → i ≡ n → sum ≡ total s functions n
  counted_done h = rw (← h) v.is

-- ---- what the loop over one function's handlers knows

-- a row has its words, and no more
pub row_length : (s : List ℕ) (function place j : ℕ) → length (handler_row s function place j) ≡ handler_width
unfolding handler_row
row_length s function place j = refl

pub row_short : (s : List ℕ) (function place j : ℕ) → length (handler_row s function place j) ≤ handler_width
row_short s function place j = omega (arith, row_length s function place j)

pub record Rowed (s : List ℕ) (function place first j : ℕ) (t₀ t : List ℕ) : Type 0 where
  pub is : t ≡ put_rows handler_width (handler_row s function place) first j t₀

pub rowed_first : {s : List ℕ} {function place first : ℕ} {t : List ℕ} → Rowed s function place first 0 t t
unfolding put_rows
rowed_first = record { is = refl }

module _ {s : List ℕ} {function place first j : ℕ} {t₀ t : List ℕ} (v : Rowed s function place first j t₀ t) where
  pub rowed_length : length t ≡ length t₀
  rowed_length = rw v.is (rows_length handler_width (handler_row s function place) (row_short s function place) first t₀ j)

  pub rowed_more : {start end target : ℕ} {t' : List ℕ} → place + handler_bytes * j + 12 ≤ length s → start ≡ word_at 4 s (place + handler_bytes * j)
      → end ≡ word_at 4 s (place + handler_bytes * j + 4) → target ≡ word_at 4 s (place + handler_bytes * j + 8)
      → t' ≡ put_row handler_width t (first + j) (handler_words function start end target) → Rowed s function place first (j + 1) t₀ t'
  unfolding handler_row
  rowed_more h a b c p =
      let all = rows_more handler_width (handler_row s function place) (row_short s function place) first t₀ j in
      record { is = rw (p, v.is, a ∙ word_there 4 s _ (omega arith), b ∙ word_there 4 s _ (omega arith), c ∙ word_there 4 s _ (omega arith)) all }

  pub rowed_done : {n : ℕ} → j ≡ n → t ≡ put_rows handler_width (handler_row s function place) first n t₀
  rowed_done h = rw (← h) v.is

-- ---- what the loop over the functions knows

pub record Handled (s functions : List ℕ) (i first : ℕ) (t₀ t : List ℕ) : Type 0 where
  pub base : Counted s functions i first
  pub is : t ≡ put_handlers s functions i t₀

pub handled_first : (s functions t : List ℕ) → Handled s functions 0 0 t t
unfolding put_handlers
handled_first s functions t = record { base = counted_first s functions; is = refl }

pub handlers_length : (s functions : List ℕ) (i : ℕ) (t : List ℕ) → length (put_handlers s functions i t) ≡ length t
unfolding put_handlers
handlers_length s functions zero t = refl
handlers_length s functions (suc i) t =
    rows_length handler_width (handler_row s i _) (row_short s i _) (total s functions i) (put_handlers s functions i t) (shown s functions i).count
    ∙ handlers_length s functions i t

module _ {s functions : List ℕ} {i first : ℕ} {t₀ t : List ℕ} (v : Handled s functions i first t₀ t) where
  pub handled_length : length t ≡ length t₀
  handled_length = rw v.is (handlers_length s functions i t₀)

  pub handled_more : {h : Table} {t' : List ℕ} → Found s functions i h → t' ≡ put_rows handler_width (handler_row s i h.place) first h.count t
      → Handled s functions (i + 1) (first + h.count) t₀ t'
  unfolding put_handlers
  handled_more e p = record { base = counted_more v.base e; is = rw (add-one, p, e.is, v.base.is, v.is) }

  pub handled_done : {n : ℕ} → i ≡ n → t ≡ put_handlers s functions n t₀
  handled_done h = rw (← h) v.is
