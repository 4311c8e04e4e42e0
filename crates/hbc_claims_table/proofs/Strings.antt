-- What an accepted decoding leaves: a row for each string, which lies within the storage, and every other word as it was.
use Prim.Native.Nat.{ℕ, zero, suc, ◌+◌, ◌-◌, ◌*◌, ◌/◌, ◌%◌, ◌≤◌, ◌<◌}
use mathlib.Core.Path.{◌≡◌, refl, sym, ◌∙◌}
use mathlib.Core.List.{List}
use mathlib.Core.Bool.{Bool, true, false, cond}
use native.Mathlib.Omega.{arith}
use native.Mathlib.Nat.{zero-add}
use lib.ListN.{length, get_or, take, drop}
use lib.Dec.{ltb, leb, eqb}
use borrow.Author.Tests.{ltb-true, leb-true, eqb-false, lt-ltb, le-ltb}
use Rattle.hbc_io.specs.Answer.{Answer, gives, refuses, refused_at, and_then}
use Rattle.hbc_io.specs.Lends.{choose}
use Rattle.hbc_io.specs.Plain.{part_of, span_of}
use Rattle.hbc_io.proofs.Exits.{reached, not_given}
use Rattle.hbc_rows.specs.Rows.{rows, row_at}
use Rattle.hbc_rows.proofs.RowsAt.{rows_length, rows_apart, row_put, row_fits}
use Rattle.hbc_table_strings.specs.declared.Mode.{Mode}
use Rattle.hbc_table_strings.specs.declared.row.StringRow.{StringRow}
use Rattle.std.specs.Prelude.{Ok}
use Rattle.hbc_table_strings.specs.Entries.{lacks_pair}
use Rattle.hbc_table_strings.specs.Row.{string_words, string_width, valid, invalid, row_for, row_with, row_of}
use Rattle.hbc_table_strings.specs.Strings.{scan, lesser, decode_answer, words_of, decoded_rows, DecodeStrings}
use Rattle.hbc_table_bytes.specs.StringBytes.{span_at, string_bytes}
use Rattle.hbc_claims_law.specs.Terms.{Behind}
use Rattle.hbc_claims_table.specs.Within.{Within}

-- ---- how many

-- one string more: none was refused before it, and it has its pair
pub record Turn (a : Answer ℕ) (b : Bool) (i n : ℕ) : Type 0 where
  pub past : (k : ℕ) × (a ≡ gives k)
  pub has : b ≡ false
  pub next : n ≡ suc i

pub turn : (a : Answer ℕ) (b : Bool) (i n : ℕ) → and_then a (λ _. choose b (refused_at 8 i) (gives (suc i))) ≡ gives n → Turn a b i n
unfolding choose
turn (gives k) true i n e = absurd (not_given e)
turn (gives k) false i n e = record { past = (k, refl); has = refl; next = cc }
turn (refuses r) b i n e = absurd (not_given e)

scan_rows : (mode : Mode) (small : List ℕ) (pairs m n : ℕ) → scan mode small pairs m ≡ gives n → n ≡ m
unfolding scan
scan_rows mode small pairs zero n e = cc
scan_rows mode small pairs (suc i) n e = (turn (scan mode small pairs i) (lacks_pair _ _ pairs) i n e).next

-- accepted: so many rows, the table has them, and no string lacks its pair
pub record Accepted (mode : Mode) (count : ℕ) (small overflow before : List ℕ) (n : ℕ) : Type 0 where
  pub all : n ≡ lesser count (length small)
  pub room : n ≤ rows string_width before
  pub scanned : scan mode small (length overflow / 2) (lesser count (length small)) ≡ gives n

pub accept : (mode : Mode) (count : ℕ) (small overflow storage before : List ℕ) (n : ℕ) → decode_answer mode count small overflow storage before ≡ gives n
    → Accepted mode count small overflow before n
unfolding decode_answer
accept mode count small overflow storage before n e =
    let p = reached _ _ _ _ not_given e in
    let q = reached _ _ _ _ not_given p.1 in
    let z : n ≡ lesser count (length small) = scan_rows mode small (length overflow / 2) (lesser count (length small)) n q.1 in
    record { all = z; room = rw z q.0; scanned = q.1 }

-- ---- a row within the storage

within : (start bytes marks storage : ℕ) (a b : Bool) → ltb start storage ≡ a → leb (start + bytes) storage ≡ b
    → Within storage (cond a (cond b (valid start bytes marks) (invalid marks)) (invalid marks))
within start bytes marks storage true true e f =
    let x : start < storage = ltb-true start storage e in
    let y : start + bytes ≤ storage = leb-true (start + bytes) storage f in
    record { starts = λ _. x; ends = y; blank = λ n. absurd (n refl) }
within start bytes marks storage true false e f =
    record { starts = λ z. absurd (omega arith); ends = omega arith; blank = λ _. refl }
within start bytes marks storage false b e f =
    record { starts = λ z. absurd (omega arith); ends = omega arith; blank = λ _. refl }

pub row_within : (mode : Mode) (kinds small overflow : List ℕ) (storage i : ℕ) → Within storage (row_of mode kinds small overflow storage i)
unfolding row_of row_with row_for
row_within mode kinds small overflow storage i = within _ _ _ storage _ _ refl refl

part_by : (s : List ℕ) (r : StringRow) → Within (length s) r → (b : Bool) → eqb r.invalid 0 ≡ b
    → part_of s (cond b (span_of r.start r.bytes) (span_of 0 0)) ≡ take r.bytes (drop r.start s)
part_by s r w true e =
    let x : r.start ≤ length s = omega (arith, w.ends) in
    let y : r.bytes ≤ length s - r.start = omega (arith, w.ends) in
    simp (le-ltb (length s) r.start x, le-ltb (length s - r.start) r.bytes y)
part_by s r w false e =
    let z : r.bytes ≡ 0 = w.blank (eqb-false r.invalid 0 e) in
    let x : 0 ≤ length s = omega arith in
    let y : 0 ≤ length s - 0 = omega arith in
    simp (z, le-ltb (length s) 0 x, le-ltb (length s - 0) 0 y)

bytes_at : (s t : List ℕ) (k : ℕ) (r : StringRow) → k < rows string_width t → row_at string_width t k ≡ string_words r → Within (length s) r
    → string_bytes s t k ≡ take r.bytes (drop r.start s)
unfolding string_bytes span_at
bytes_at s t k r h e w = rw (lt-ltb k (rows string_width t) h, e) (part_by s r w (eqb r.invalid 0) refl)

-- ---- all of them

module _ (mode : Mode) (count : ℕ) (kinds small overflow storage before after : List ℕ) (n : ℕ) (v : DecodeStrings mode count kinds small overflow storage before (Ok n) after) where
  ok : Accepted mode count small overflow before n
  ok = accept mode count small overflow storage before n (sym v.says)

  abbrev row : ℕ → StringRow
  row = row_of mode kinds small overflow (length storage)

  abbrev words : ℕ → List ℕ
  words = words_of mode kinds small overflow (length storage)

  is : after ≡ decoded_rows mode kinds small overflow (length storage) n before
  is = v.leaves ∙ rw (← ok.all)

  -- as many as the lesser of the count and the small entries lent
  pub decoded_count : n ≡ lesser count (length small)
  decoded_count = ok.all

  -- row i is the row of string i
  pub decoded_row : (i : ℕ) → i < n → row_at string_width after i ≡ string_words (row i)
  decoded_row i h =
      let l : i * string_width + string_width ≤ length before = row_fits string_width (length before) i (omega (arith, ok.room)) in
      rw is (rw zero-add at (row_put string_width words 0 before n i (λ j. refl) h (rw zero-add l)))

  -- every word past the rows is as it was
  decoded_rest : (y : ℕ) → n * string_width ≤ y → get_or after y 0 ≡ get_or before y 0
  decoded_rest y h =
      let e : y / string_width * string_width + y % string_width ≡ y = omega arith in
      rw is (rw e at (rows_apart string_width words (λ j. omega arith) 0 before n (y / string_width) (y % string_width) (omega arith) (λ m l q. omega arith)))

  pub decoded_behind : Behind (n * string_width) before after
  decoded_behind = record { rest = decoded_rest; long = rw is (rows_length string_width words (λ j. omega arith) 0 before n) }

  -- and string_bytes then hands back the bytes that row i says, for a valid row and for an invalid one
  pub decoded_bytes : (i : ℕ) → i < n → string_bytes storage after i ≡ take (row i).bytes (drop (row i).start storage)
  decoded_bytes i h =
      bytes_at storage after i (row i) (rw decoded_behind.long (omega (arith, ok.room))) (decoded_row i h) (row_within mode kinds small overflow (length storage) i)
