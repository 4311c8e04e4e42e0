-- What a lent table holds after words or rows were put: each is the one that was put there, every other word is as it was.
use Prim.Native.Nat.{ℕ, zero, suc, ◌+◌, ◌*◌, ◌/◌, ◌≤◌, ◌<◌}
use mathlib.Core.Path.{◌≡◌, refl, ap, sym, ◌∙◌}
use mathlib.Core.List.{List, [], ◌∷◌, ◌++◌, append-nil}
use mathlib.Core.Bool.{Bool, true, false, cond}
use native.Mathlib.Omega.{arith}
use native.Mathlib.Nat.{zero-mul, zero-add, add-zero, suc-mul, mul-le-mul_right, div-mul-le_self, lt-div-mul-add}
use native.Mathlib.Numerals.{add-one}
use lib.ListN.{length, get_or, set, length-set, drop, length-drop, drop_of_length-le}
use lib.Dec.{ltb, eqb}
use lib.Seq.{sets, length-sets, sets-eq, ext_get_or, get_or-set_same, get_or-set_other, get_or-take, get_or-drop, length-take-le}
use borrow.Author.Tests.{ltb-true, ltb-false, le-ltb, lt-ltb, eqb-true, eqb-false}
use Rattle.hbc_rows.specs.Rows.{entry_at, row_at, filled, put_row, put_rows}
use Rattle.hbc_rows.proofs.Laws.{filled_length}

-- ---- words in front

module _ (f : ℕ → ℕ) (t : List ℕ) where
  -- a word past them is as it was
  pub filled_past : (n i : ℕ) → n ≤ i → entry_at (filled f n t) i ≡ entry_at t i
  unfolding filled entry_at
  filled_past zero i h = refl
  filled_past (suc n) i h = get_or-set_other (filled f n t) n i (f n) 0 (λ e. omega arith) ∙ filled_past n i (omega arith)

  filled_step : (n i : ℕ) (b : Bool) → eqb i n ≡ b → i < length t → (i < n → entry_at (filled f n t) i ≡ f i) → i < suc n → entry_at (set (filled f n t) n (f n)) i ≡ f i
  unfolding entry_at
  filled_step n i true e l p h =
      let z : i ≡ n = eqb-true i n e in
      rw z (get_or-set_same (filled f n t) n (f n) 0 (rw (filled_length f t n, ← z) l))
  filled_step n i false e l p h =
      let z : (i ≡ n → ⊥) = eqb-false i n e in
      get_or-set_other (filled f n t) n i (f n) 0 z ∙ p (omega arith)

  -- each is the one that was put
  pub filled_at : (n i : ℕ) → i < length t → i < n → entry_at (filled f n t) i ≡ f i
  unfolding filled
  filled_at zero i l h = absurd (omega arith)
  filled_at (suc n) i l h = filled_step n i (eqb i n) refl l (filled_at n i l) h

-- ---- words stored from a place on

pub sets_other : (row t : List ℕ) (x y : ℕ) → (x ≤ y → y < x + length row → ⊥) → get_or (sets t x row) y 0 ≡ get_or t y 0
sets_other [] t x y n = refl
sets_other (a ∷ row) t x y n =
    sets_other row (set t x a) (suc x) y (λ p q. n (omega arith) (omega arith)) ∙ get_or-set_other t x y a 0 (λ e. n (omega arith) (omega arith))

pub sets_at : (row t : List ℕ) (x c : ℕ) → c < length row → x + length row ≤ length t → get_or (sets t x row) (x + c) 0 ≡ get_or row c 0
sets_at [] t x c h l = absurd (omega arith)
sets_at (a ∷ row) t x zero h l =
    rw add-zero (sets_other row (set t x a) (suc x) x (λ p q. omega arith) ∙ get_or-set_same t x a 0 (omega arith))
sets_at (a ∷ row) t x (suc c) h l =
    let e : x + suc c ≡ suc x + c = omega arith in
    ap (λ (j : ℕ). get_or (sets (set t x a) (suc x) row) j 0) e ∙ sets_at row (set t x a) (suc x) c (omega arith) (simp length-set (omega arith))

-- ---- a row does not meet another

-- the rows below k end where k begins: the one product of two variables
pub ends : (w i k : ℕ) → i < k → i * w + w ≤ k * w
ends w i k h = rw suc-mul at (mul-le-mul_right {m = suc i} {n = k} w h)

-- a row that is one of the whole ones ends in the table, and one that is not does not
pub row_fits : (w n k : ℕ) → k < n / w → k * w + w ≤ n
row_fits w n k h = let a = ends w k (n / w) h in let b = div-mul-le_self n w in omega arith

pub row_over : (w n k : ℕ) → 0 < w → n / w ≤ k → n < k * w + w
row_over w n k p h =
    let a = lt-div-mul-add {a = n} {b = w} p in
    let b = mul-le-mul_right {m = n / w} {n = k} w h in
    omega arith

-- an empty row changes nothing
pub put_none : (t : List ℕ) (k : ℕ) (row : List ℕ) → length row ≡ 0 → t ≡ put_row (length row) t k row
unfolding put_row
put_none t k [] h = by (ltb (length t) (k * length {A = ℕ} [] + length {A = ℕ} []))
  where
    by : (b : Bool) → t ≡ cond b t t
    by true = refl
    by false = refl
put_none t k (x ∷ row) h = absurd (omega arith)

pub put_in : (w : ℕ) (t : List ℕ) (k : ℕ) (row : List ℕ) → k < length t / w → sets t (k * w) row ≡ put_row w t k row
unfolding put_row
put_in w t k row h = sym (rw (le-ltb (length t) (k * w + w) (row_fits w (length t) k h)))

pub put_out : (w : ℕ) (t : List ℕ) (k : ℕ) (row : List ℕ) → 0 < w → length t / w ≤ k → t ≡ put_row w t k row
unfolding put_row
put_out w t k row p h = sym (rw (lt-ltb (length t) (k * w + w) (row_over w (length t) k p h)))

module _ (w : ℕ) (row : List ℕ) (short : length row ≤ w) where
  by_fit : (t : List ℕ) (k : ℕ) (b : Bool) → length (cond b t (sets t (k * w) row)) ≡ length t
  by_fit t k true = refl
  by_fit t k false = length-sets t (k * w) row

  pub put_length : (t : List ℕ) (k : ℕ) → length (put_row w t k row) ≡ length t
  unfolding put_row
  put_length t k = by_fit t k (ltb (length t) (k * w + w))

  other_by : (t : List ℕ) (k y : ℕ) → (k * w ≤ y → y < k * w + w → ⊥) → (b : Bool) → get_or (cond b t (sets t (k * w) row)) y 0 ≡ get_or t y 0
  other_by t k y n true = refl
  other_by t k y n false = sets_other row t (k * w) y (λ p q. n p (omega arith))

  -- a word outside row k is as it was
  pub put_other : (t : List ℕ) (k y : ℕ) → (k * w ≤ y → y < k * w + w → ⊥) → get_or (put_row w t k row) y 0 ≡ get_or t y 0
  unfolding put_row
  put_other t k y n = other_by t k y n (ltb (length t) (k * w + w))

  -- and so is a word of another row
  pub put_apart : (t : List ℕ) (k i c : ℕ) → c < w → (i ≡ k → ⊥) → get_or (put_row w t k row) (i * w + c) 0 ≡ get_or t (i * w + c) 0
  put_apart t k i c h n = put_other t k (i * w + c) (apart (ltb i k) refl (ltb k i) refl)
    where
      apart : (a : Bool) → ltb i k ≡ a → (b : Bool) → ltb k i ≡ b → k * w ≤ i * w + c → i * w + c < k * w + w → ⊥
      apart true e b f p q = let z = ends w i k (ltb-true i k e) in omega arith
      apart false e true f p q = let z = ends w k i (ltb-true k i f) in omega arith
      apart false e false f p q = let x = ltb-false i k e in let y = ltb-false k i f in n (omega arith)

  -- word c of row k is the one that was put there
  pub put_here : (t : List ℕ) (k c : ℕ) → c < length row → k * w + w ≤ length t → get_or (put_row w t k row) (k * w + c) 0 ≡ get_or row c 0
  unfolding put_row
  put_here t k c h l = rw (le-ltb (length t) (k * w + w) l) (sets_at row t (k * w) c h (omega arith))

-- ---- rows from a row on

module _ (w : ℕ) (f : ℕ → List ℕ) (short : (i : ℕ) → length (f i) ≤ w) (base : ℕ) (t : List ℕ) where
  pub rows_length : (n : ℕ) → length (put_rows w f base n t) ≡ length t
  unfolding put_rows
  rows_length zero = refl
  rows_length (suc n) = put_length w (f n) (short n) (put_rows w f base n t) (base + n) ∙ rows_length n

  pub rows_more : (n : ℕ) → put_row w (put_rows w f base n t) (base + n) (f n) ≡ put_rows w f base (n + 1) t
  unfolding put_rows
  rows_more n = rw add-one

  -- a row that is not among them is as it was
  pub rows_apart : (n i c : ℕ) → c < w → ((m : ℕ) → m < n → i ≡ base + m → ⊥) → get_or (put_rows w f base n t) (i * w + c) 0 ≡ get_or t (i * w + c) 0
  unfolding put_rows
  rows_apart zero i c h out = refl
  rows_apart (suc n) i c h out =
      put_apart w (f n) (short n) (put_rows w f base n t) (base + n) i c h (out n (omega arith)) ∙ rows_apart n i c h (λ m l. out m (omega arith))

  at_by : (n i c : ℕ) → c < length (f i) → (base + i) * w + w ≤ length t → (i < n → get_or (put_rows w f base n t) ((base + i) * w + c) 0 ≡ get_or (f i) c 0) → i < suc n
      → (b : Bool) → eqb i n ≡ b → get_or (put_row w (put_rows w f base n t) (base + n) (f n)) ((base + i) * w + c) 0 ≡ get_or (f i) c 0
  at_by n i c h l ih k true e =
      let z : i ≡ n = eqb-true i n e in
      rw (← z) (put_here w (f i) (short i) (put_rows w f base i t) (base + i) c h (rw (rows_length i) l))
  at_by n i c h l ih k false e =
      let z : (i ≡ n → ⊥) = eqb-false i n e in
      let s = short i in
      put_apart w (f n) (short n) (put_rows w f base n t) (base + n) (base + i) c (omega arith) (λ q. z (omega arith)) ∙ ih (omega arith)

  -- word c of row base + i is word c of row i of those that were put
  pub rows_at : (n i c : ℕ) → i < n → c < length (f i) → (base + i) * w + w ≤ length t → get_or (put_rows w f base n t) ((base + i) * w + c) 0 ≡ get_or (f i) c 0
  unfolding put_rows
  rows_at zero i c k h l = absurd (omega arith)
  rows_at (suc n) i c k h l = at_by n i c h l (λ q. rows_at n i c q h l) k (eqb i n) refl

  -- where no more are to be put
  pub rows_done : {u : List ℕ} {i n : ℕ} → i ≡ n → u ≡ put_rows w f base i t → u ≡ put_rows w f base n t
  rows_done e h = rw (← e) h

-- rows put from the first on
pub rows_first : (w : ℕ) (f : ℕ → List ℕ) (t : List ℕ) (n : ℕ) → put_row w (put_rows w f 0 n t) n (f n) ≡ put_rows w f 0 (n + 1) t
unfolding put_rows
rows_first w f t n = rw (add-one, zero-add)

-- ---- a row as a whole

pub row_length : (w : ℕ) (t : List ℕ) (k : ℕ) → k * w + w ≤ length t → length (row_at w t k) ≡ w
unfolding row_at
row_length w t k h = length-take-le w (drop (k * w) t) (simp length-drop (omega arith))

pub word_of : (w : ℕ) (t : List ℕ) (k c : ℕ) → c < w → get_or (row_at w t k) c 0 ≡ get_or t (k * w + c) 0
unfolding row_at
word_of w t k c h = get_or-take w (drop (k * w) t) c 0 h ∙ get_or-drop (k * w) t c 0

-- a row whose words are those of a list is that list
pub row_is : (w : ℕ) (t : List ℕ) (k : ℕ) (row : List ℕ) → k * w + w ≤ length t → length row ≡ w
    → ((c : ℕ) → c < w → get_or t (k * w + c) 0 ≡ get_or row c 0) → row_at w t k ≡ row
row_is w t k row h l p =
    let a : length (row_at w t k) ≡ w = row_length w t k h in
    ext_get_or 0 (row_at w t k) row (a ∙ sym l) (λ i n. let m : i < w = rw a at n in word_of w t k i m ∙ p i m)

-- a row that was put, and any other, which is as it was
module _ (w : ℕ) (t : List ℕ) (k : ℕ) (row : List ℕ) where
  pub row_here : length row ≡ w → k * w + w ≤ length t → row_at w (put_row w t k row) k ≡ row
  row_here l h =
      let short : length row ≤ w = omega arith in
      row_is w (put_row w t k row) k row (rw (put_length w row short t k) h) l (λ c m. put_here w row short t k c (omega arith) h)

  pub row_apart : (i : ℕ) → length row ≤ w → i * w + w ≤ length t → (i ≡ k → ⊥) → row_at w (put_row w t k row) i ≡ row_at w t i
  row_apart i short h n =
      row_is w (put_row w t k row) i (row_at w t i) (rw (put_length w row short t k) h) (row_length w t i h)
      (λ c m. put_apart w row short t k i c m n ∙ sym (word_of w t i c m))

-- row base + i is row i of those that were put
pub row_put : (w : ℕ) (f : ℕ → List ℕ) (base : ℕ) (t : List ℕ) (n i : ℕ) → ((j : ℕ) → length (f j) ≡ w) → i < n → (base + i) * w + w ≤ length t
    → row_at w (put_rows w f base n t) (base + i) ≡ f i
row_put w f base t n i len h l =
    let short : ((j : ℕ) → length (f j) ≤ w) = λ j. omega (arith, len j) in
    row_is w (put_rows w f base n t) (base + i) (f i) (rw (rows_length w f short base t n) l) (len i)
    (λ c m. rows_at w f short base t n i c h (rw (len i) m) l)

whole_by : (before words : List ℕ) (i : ℕ) → i ≡ 0 → length words ≡ length before → sets before i words ≡ words
whole_by before words i z e =
    let k : length before ≤ 0 + length words = omega arith in
    rw z (sets-eq words before 0 (omega arith) ∙ ap (λ (u : List ℕ). words ++ u) (drop_of_length-le before k) ∙ append-nil words)

-- a row put over as many words is all of them
pub row_whole : (before words : List ℕ) → length words ≡ length before → put_row (length words) before 0 words ≡ words
unfolding put_row
row_whole before words e =
    let z : 0 * length words ≡ 0 = zero-mul (length words) in
    let l : 0 * length words + length words ≤ length before = omega arith in
    rw (le-ltb (length before) (0 * length words + length words) l) (whole_by before words (0 * length words) z e)
