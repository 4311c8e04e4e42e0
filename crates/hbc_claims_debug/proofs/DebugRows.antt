-- What an accepted read of the debug section leaves: each row is that of its string, scope, name or callee, and every word past the rows is as it was.
use Rattle.std.specs.Prelude.{Ok}
use mathlib.Core.Path.{◌≡◌, refl, sym, ap, ◌∙◌}
use mathlib.Core.Bool.{Bool, true, false, cond}
use mathlib.Core.List.{List, [], ◌∷◌, ◌++◌}
use Prim.Native.Nat.{ℕ, suc, ◌+◌, ◌*◌, ◌/◌, ◌≤◌, ◌<◌}
use native.Mathlib.Omega.{arith}
use native.Mathlib.Nat.{zero-add, suc-mul, le_trans, mul-le-mul_right, div-mul-le_self}
use borrow.Author.Tests.{leb-true}
use lib.ListN.{length, get_or, length-append, get_or-append}
use lib.Seq.{sets, length-sets, get_or-append-add}
use lib.Dec.{leb}
use Rattle.hbc_io.specs.Answer.{Answer, gives, refuses, refused_at, and_then}
use Rattle.hbc_io.specs.Lends.{choose}
use Rattle.hbc_io.specs.declared.Span.{Span}
use Rattle.hbc_io.proofs.Exits.{not_given}
use Rattle.hbc_io_leb.specs.declared.Sleb.{Sleb}
use Rattle.hbc_io_leb.specs.Signed.{low32}
use Rattle.hbc_rows.specs.Rows.{row_at, rows}
use Rattle.hbc_rows.specs.Until.{flat, sum, flat_from}
use Rattle.hbc_rows.proofs.RowsAt.{sets_at, sets_other, ends, row_is}
use Rattle.hbc_debug_parts.specs.declared.Parts.{Parts}
use Rattle.hbc_debug_parts.specs.Parts.{parts_of}
use Rattle.hbc_debug_strings.specs.Strings.{strings_of, string_width, string_row, string_words}
use Rattle.hbc_debug_scopes.specs.Scopes.{Scope, scopes_of, scope_width, scope_row, scope_words, name_cell, name_row, name_words, name_word, name_count, names_in, parent_word}
use Rattle.hbc_debug_rising.specs.Rising.{Callee, callee_row}
use Rattle.hbc_debug_callees.specs.Callees.{callees_of, callee_width, callee_words}
use Rattle.hbc_debug.specs.Debug.{Tables, Contents, contents_at, contents_in, string_count, counts_of, all_exact, room_in, fits, counts_answer, parts_given, ReadDebug}
use Rattle.hbc_debug.specs.declared.Counts.{Counts}
use Rattle.hbc_debug_parts.specs.declared.Marked.{Marked}
use Rattle.hbc_claims_law.specs.Terms.{Behind}
use Rattle.hbc_claims_debug.specs.Left.{PastRows}

-- ---- rows one after the other

-- an element stands past as many words as those before it have
module _ {A : Type 0} (row : A → List ℕ) (weight : A → ℕ) (wide : (x : A) → length (row x) ≡ weight x) where
  pub flat_length : (xs : List A) → length (flat row xs) ≡ sum weight xs
  flat_length [] = refl
  flat_length (x ∷ xs) = length-append (row x) (flat row xs) ∙ rw (wide x, flat_length xs)

  pub flat_at : (xs ys : List A) (x : A) (c : ℕ) → c < weight x → get_or (flat row (xs ++ x ∷ ys)) (sum weight xs + c) 0 ≡ get_or (row x) c 0
  flat_at [] ys x c h =
      ap (λ (j : ℕ). get_or (row x ++ flat row ys) j 0) (zero-add c) ∙ get_or-append (row x) (flat row ys) 0 c (rw (wide x) h)
  flat_at (a ∷ xs) ys x c h =
      let e : weight a + sum weight xs + c ≡ length (row a) + (sum weight xs + c) = omega (arith, wide a) in
      ap (λ (j : ℕ). get_or (row a ++ flat row (xs ++ x ∷ ys)) j 0) e ∙ get_or-append-add (row a) (flat row (xs ++ x ∷ ys)) (sum weight xs + c) 0
      ∙ flat_at xs ys x c h

sum_same : {A : Type 0} (w : ℕ) (xs : List A) → sum (λ (x : A). w) xs ≡ length xs * w
sum_same w [] = omega arith
sum_same w (x ∷ xs) = omega (arith, sum_same w xs, suc-mul (length xs) w)

sum_on : {A : Type 0} (weight : A → ℕ) (xs ys : List A) → sum weight (xs ++ ys) ≡ sum weight xs + sum weight ys
sum_on weight [] ys = omega arith
sum_on weight (x ∷ xs) ys = omega (arith, sum_on weight xs ys)

-- rows that hold the sum of a number of those before them
module _ {A : Type 0} (row : ℕ → A → List ℕ) (weight : A → ℕ) (w : ℕ) (wide : (n : ℕ) (x : A) → length (row n x) ≡ w) where
  pub from_length : (n : ℕ) (xs : List A) → length (flat_from row weight n xs) ≡ length xs * w
  from_length n [] = omega arith
  from_length n (x ∷ xs) =
      length-append (row n x) (flat_from row weight (n + weight x) xs) ∙ omega (arith, wide n x, from_length (n + weight x) xs, suc-mul (length xs) w)

  pub from_at : (n : ℕ) (xs ys : List A) (x : A) (c : ℕ) → c < w
      → get_or (flat_from row weight n (xs ++ x ∷ ys)) (length xs * w + c) 0 ≡ get_or (row (n + sum weight xs) x) c 0
  from_at n [] ys x c h =
      let e : 0 * w + c ≡ c = omega arith in
      let z : n + 0 ≡ n = omega arith in
      ap (λ (j : ℕ). get_or (row n x ++ flat_from row weight (n + weight x) ys) j 0) e
      ∙ get_or-append (row n x) (flat_from row weight (n + weight x) ys) 0 c (rw (wide n x) h)
      ∙ ap (λ (j : ℕ). get_or (row j x) c 0) (sym z)
  from_at n (a ∷ xs) ys x c h =
      let e : suc (length xs) * w + c ≡ length (row n a) + (length xs * w + c) = omega (arith, wide n a, suc-mul (length xs) w) in
      let z : n + weight a + sum weight xs ≡ n + (weight a + sum weight xs) = omega arith in
      ap (λ (j : ℕ). get_or (row n a ++ flat_from row weight (n + weight a) (xs ++ x ∷ ys)) j 0) e
      ∙ get_or-append-add (row n a) (flat_from row weight (n + weight a) (xs ++ x ∷ ys)) (length xs * w + c) 0
      ∙ from_at (n + weight a) xs ys x c h
      ∙ ap (λ (j : ℕ). get_or (row j x) c 0) z

-- ---- words stored in front of a table

stored : (ws t : List ℕ) (i : ℕ) → i < length ws → length ws ≤ length t → get_or (sets t 0 ws) i 0 ≡ get_or ws i 0
stored ws t i h l = ap (λ (j : ℕ). get_or (sets t 0 ws) j 0) (sym (zero-add i)) ∙ sets_at ws t 0 i h (omega arith)

behind : (n : ℕ) (ws t : List ℕ) → length ws ≡ n → Behind n t (sets t 0 ws)
behind n ws t e = record { rest = λ j h. sets_other ws t 0 j (λ p q. omega arith); long = length-sets t 0 ws }

-- a row of words that were stored in front is the row that they have there
row_in : (w : ℕ) (ws t row : List ℕ) (k : ℕ) → k * w + w ≤ length ws → length ws ≤ length t → length row ≡ w
    → ((c : ℕ) → c < w → get_or ws (k * w + c) 0 ≡ get_or row c 0) → row_at w (sets t 0 ws) k ≡ row
row_in w ws t row k h l e p =
    row_is w (sets t 0 ws) k row (rw (length-sets t 0 ws) (omega arith)) e (λ c q. stored ws t (k * w + c) (omega arith) l ∙ p c q)

-- ---- a row among those of a list

room_for : (w n m : ℕ) → n ≤ m / w → n * w ≤ m
room_for w n m h = le_trans (mul-le-mul_right {m = n} {n = m / w} w h) (div-mul-le_self m w)

before : {A : Type 0} (all xs ys : List A) (x : A) → all ≡ xs ++ x ∷ ys → length xs < length all
before all xs ys x e = let a = ap length e in let b = length-append xs (x ∷ ys) in omega arith

module _ {A : Type 0} (w : ℕ) (all xs ys : List A) (x : A) (t : List ℕ) (e : all ≡ xs ++ x ∷ ys) (room : length all ≤ rows w t) where
  wholly : length xs * w + w ≤ length all * w
  wholly = ends w (length xs) (length all) (before all xs ys x e)

  row_of : (row : A → List ℕ) → ((y : A) → length (row y) ≡ w) → row_at w (sets t 0 (flat row all)) (length xs) ≡ row x
  row_of row wide =
      let l : length (flat row all) ≡ length all * w = flat_length row (λ (y : A). w) wide all ∙ sum_same w all in
      row_in w (flat row all) t (row x) (length xs) (rw l wholly) (rw l (room_for w (length all) (length t) room)) (wide x)
      (λ c q. ap (λ (zs : List A). get_or (flat row zs) (length xs * w + c) 0) e
      ∙ ap (λ (j : ℕ). get_or (flat row (xs ++ x ∷ ys)) (j + c) 0) (sym (sum_same w xs)) ∙ flat_at row (λ (y : A). w) wide xs ys x c q)

  row_from : (row : ℕ → A → List ℕ) (weight : A → ℕ) → ((n : ℕ) (y : A) → length (row n y) ≡ w)
      → row_at w (sets t 0 (flat_from row weight 0 all)) (length xs) ≡ row (sum weight xs) x
  row_from row weight wide =
      let l : length (flat_from row weight 0 all) ≡ length all * w = from_length row weight w wide 0 all in
      row_in w (flat_from row weight 0 all) t (row (sum weight xs) x) (length xs) (rw l wholly) (rw l (room_for w (length all) (length t) room)) (wide (sum weight xs) x)
      (λ c q. ap (λ (zs : List A). get_or (flat_from row weight 0 zs) (length xs * w + c) 0) e ∙ from_at row weight w wide 0 xs ys x c q
      ∙ ap (λ (j : ℕ). get_or (row j x) c 0) (zero-add (sum weight xs)))

-- ---- the names of scopes, a word each

cells : (n : ℕ) (vs : List Sleb) → length (flat (name_cell n) vs) ≡ length vs
cells n vs = let a = flat_length (name_cell n) (λ (v : Sleb). 1) (λ v. refl) vs in let b = sum_same 1 vs in omega arith

name_wide : (n : ℕ) (x : Scope) → length (name_row n x) ≡ name_count x
unfolding name_row name_count
name_wide n x = cells n x.names

cell_at : (n : ℕ) (x : Scope) (vs ws : List Sleb) (v : Sleb) → x.names ≡ vs ++ v ∷ ws → get_or (name_row n x) (length vs) 0 ≡ name_word n v.value
unfolding name_row
cell_at n x vs ws v e =
    let z : length vs ≡ sum (λ (y : Sleb). 1) vs + 0 = omega (arith, sum_same 1 vs) in
    ap (λ (zs : List Sleb). get_or (flat (name_cell n) zs) (length vs) 0) e ∙ ap (λ (j : ℕ). get_or (flat (name_cell n) (vs ++ v ∷ ws)) j 0) z
    ∙ flat_at (name_cell n) (λ (y : Sleb). 1) (λ y. refl) vs ws v 0 (omega arith)

name_below : (x : Scope) (vs ws : List Sleb) (v : Sleb) → x.names ≡ vs ++ v ∷ ws → length vs < name_count x
unfolding name_count
name_below x vs ws v e = before x.names vs ws v e

name_in : (n : ℕ) (all xs ys : List Scope) (x : Scope) (vs ws : List Sleb) (v : Sleb) (t : List ℕ) → all ≡ xs ++ x ∷ ys → x.names ≡ vs ++ v ∷ ws
    → names_in all ≤ length t → get_or (sets t 0 (name_words n all)) (names_in xs + length vs) 0 ≡ name_word n v.value
name_in n all xs ys x vs ws v t e f room =
    let l : length (name_words n all) ≡ names_in all = flat_length (name_row n) name_count (name_wide n) all in
    let p : names_in all ≡ names_in xs + (name_count x + names_in ys) = ap names_in e ∙ sum_on name_count xs (x ∷ ys) in
    let q : length vs < name_count x = name_below x vs ws v f in
    stored (name_words n all) t (names_in xs + length vs) (omega arith) (omega arith)
    ∙ ap (λ (zs : List Scope). get_or (name_words n zs) (names_in xs + length vs) 0) e
    ∙ flat_at (name_row n) name_count (name_wide n) xs ys x (length vs) q
    ∙ cell_at n x vs ws v f

-- ---- what an accepted answer says

both : (a b : Bool) → cond a b false ≡ true → (a ≡ true) × (b ≡ true)
both true b e = (refl, e)
both false b e = absurd (let z : ◌≡◌ {A = ℕ} 0 1 = cc in omega arith)

record Room (need room : Counts) : Type 0 where
  strings : need.strings ≤ room.strings
  scopes : need.scopes ≤ room.scopes
  names : need.names ≤ room.names
  callees : need.callees ≤ room.callees

fits_all : (need room : Counts) → fits need room ≡ true → Room need room
unfolding fits
fits_all need room e =
    let p = both (leb need.strings room.strings) _ e in
    let q = both (leb need.scopes room.scopes) _ p.1 in
    let r = both (leb need.names room.names) _ q.1 in
    record {
      strings = leb-true need.strings room.strings p.0;
      scopes = leb-true need.scopes room.scopes q.0;
      names = leb-true need.names room.names r.0;
      callees = leb-true need.callees room.callees r.1;
    }

record Given (b : Contents) (t : Tables) (k : Counts) (e : Bool) : Type 0 where
  fit : Room (counts_of b) (room_in t)
  is : k ≡ counts_of b
  mark : e ≡ all_exact b

given_by : (b : Contents) (t : Tables) (k : Counts) (x : Bool) (f : Bool) → fits (counts_of b) (room_in t) ≡ f
    → cond {A = Answer (Marked Counts)} f (gives (record { value = counts_of b; exact = all_exact b })) (refused_at 4 0) ≡ gives (record { value = k; exact = x }) → Given b t k x
given_by b t k x true e g =
    let p : ◌≡◌ {A = Marked Counts} (record { value = counts_of b; exact = all_exact b }) (record { value = k; exact = x }) = cc in
    record { fit = fits_all (counts_of b) (room_in t) e; is = sym (ap (λ (q : Marked Counts). q.value) p); mark = sym (ap (λ (q : Marked Counts). q.exact) p) }
given_by b t k x false e g = absurd (not_given g)

given_in : (file : List ℕ) (t : Tables) (k : Counts) (x : Bool) (a : Answer Parts) → and_then a (λ p. counts_answer (contents_in file p) t) ≡ gives (record { value = k; exact = x })
    → Given (contents_in file (parts_given a)) t k x
unfolding choose
given_in file t k x (gives p) e = given_by (contents_in file p) t k x (fits (counts_of (contents_in file p)) (room_in t)) refl e
given_in file t k x (refuses r) e = absurd (not_given e)

module _ (file : List ℕ) (offset : ℕ) (t : Tables) (k : Counts) (e : Bool) (t' : Tables) (v : ReadDebug file offset t (Ok (record { value = k; exact = e })) t') where
  abbrev b : Contents
  b = contents_at file offset

  accepted : Given b t k e
  accepted = given_in file t k e (parts_of file offset) (sym v.says)

  -- the answer is how many of each there are
  pub counts_are : k ≡ counts_of b
  counts_are = accepted.is

  -- and its mark whether every number that was read is exact
  pub mark_is : e ≡ all_exact b
  mark_is = accepted.mark

  -- the string after those of xs
  pub string_row_lem : (xs ys : List Span) (p : Span) → strings_of b.strings ≡ xs ++ p ∷ ys → row_at string_width t'.strings (length xs) ≡ string_row b.base p
  unfolding counts_of
  string_row_lem xs ys p e = rw v.leaves (row_of string_width (strings_of b.strings) xs ys p t.strings e accepted.fit.strings (string_row b.base) (λ y. refl))

  -- the scope after those of xs
  pub scope_row_lem : (xs ys : List Scope) (x : Scope) → scopes_of b.scopes ≡ xs ++ x ∷ ys
      → row_at scope_width t'.scopes (length xs) ≡ x.offset ∷ parent_word x.front.parent ∷ low32 x.front.flags ∷ names_in xs ∷ length x.names ∷ []
  unfolding counts_of scope_row name_count
  scope_row_lem xs ys x e =
      rw v.leaves (row_from scope_width (scopes_of b.scopes) xs ys x t.scopes e accepted.fit.scopes scope_row name_count (λ n y. refl))

  -- and the name after those of vs of that scope
  pub name_row_lem : (xs ys : List Scope) (x : Scope) (vs ws : List Sleb) (z : Sleb) → scopes_of b.scopes ≡ xs ++ x ∷ ys → x.names ≡ vs ++ z ∷ ws
      → get_or t'.names (names_in xs + length vs) 0 ≡ name_word (string_count b) z.value
  unfolding counts_of
  name_row_lem xs ys x vs ws z e f = rw v.leaves (name_in (string_count b) (scopes_of b.scopes) xs ys x vs ws z t.names e f accepted.fit.names)

  -- the callee after those of xs
  pub callee_row_lem : (xs ys : List Callee) (x : Callee) → callees_of (string_count b) b.callees ≡ xs ++ x ∷ ys
      → row_at callee_width t'.callees (length xs) ≡ callee_row x
  unfolding counts_of
  callee_row_lem xs ys x e =
      rw v.leaves (row_of callee_width (callees_of (string_count b) b.callees) xs ys x t.callees e accepted.fit.callees callee_row (λ y. refl))

  -- every word past the rows
  pub past_rows : PastRows k t t'
  unfolding counts_of scope_row
  past_rows =
      rw (counts_are, v.leaves) (record {
        strings = behind (string_count b * string_width) (string_words b.base (strings_of b.strings)) t.strings
            (flat_length (string_row b.base) (λ y. string_width) (λ y. refl) (strings_of b.strings) ∙ sum_same string_width (strings_of b.strings));
        scopes = behind (length (scopes_of b.scopes) * scope_width) (scope_words (scopes_of b.scopes)) t.scopes
            (from_length scope_row name_count scope_width (λ n y. refl) 0 (scopes_of b.scopes));
        names = behind (names_in (scopes_of b.scopes)) (name_words (string_count b) (scopes_of b.scopes)) t.names
            (flat_length (name_row (string_count b)) name_count (name_wide (string_count b)) (scopes_of b.scopes));
        callees = behind (length (callees_of (string_count b) b.callees) * callee_width) (callee_words (callees_of (string_count b) b.callees)) t.callees
            (flat_length callee_row (λ y. callee_width) (λ y. refl) (callees_of (string_count b) b.callees) ∙ sum_same callee_width (callees_of (string_count b) b.callees));
      })
