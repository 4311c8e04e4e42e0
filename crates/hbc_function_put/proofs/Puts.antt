-- Words and bytes that are put one after another are the bytes of a header.
use Prim.Native.Nat.{ℕ, suc, ◌+◌, ◌-◌, ◌*◌, ◌%◌, ◌≤◌, ◌<◌}
use mathlib.Core.Path.{◌≡◌, refl, sym, ap, ◌∙◌}
use mathlib.Core.List.{List, [], ◌∷◌, ◌++◌, append_assoc, append-nil}
use native.Mathlib.Nat.{mul-zero, mul-suc, zero-add, one-mul}
use native.Mathlib.Numerals.{add-one}
use native.Mathlib.Omega.{arith}
use lib.ListN.{length, set, get_or, take, drop, length-append, length-drop, drop_of_length-le}
use lib.Seq.{sets-eq, length-take-le, drop-drop, take-suc}
use Rattle.hbc_bits.specs.Fields.{bytes_of, words_of, laid}
use Rattle.hbc_bits.proofs.Fields.{bytes_length, words_bytes}
use lib.Dec.{eqb}
use borrow.Author.Tests.{eq-eqb, ne_eqb}
use borrow.Rule.Slice.PartMut.{put_mid}
use Rattle.hbc_io.proofs.Exits.{is_chosen, not_chosen}
use Rattle.hbc_rows.specs.Rows.{put}
use Rattle.hbc_rows.proofs.Puts.{put_then}
use Rattle.hbc_function_record.specs.declared.Layout.{Layout}
use Rattle.hbc_function_record.specs.declared.Layout.TheVariants as lay
use Rattle.hbc_function_record.specs.Record.{size_of, large_of}
use Rattle.hbc_function_bytes.specs.Bytes.{values_in, inline_number, inline_bytes, large_bytes}
use Rattle.hbc_function_bytes.proofs.Words.{of_four}
use Rattle.hbc_function_put.specs.Private.{each_in}
use Rattle.hbc_function_put.specs.Put.{word_sizes, four_of, header_put, large_put}

-- four stores
pub four_stores : (s : List ℕ) (at x y z w : ℕ) → set (set (set (set s at x) (at + 1) y) (at + 2) z) (at + 3) w ≡ put at (x ∷ y ∷ z ∷ w ∷ []) s
unfolding put
four_stores s at x y z w =
    let e : at + 1 ≡ suc at = omega arith in
    let f : at + 2 ≡ suc (suc at) = omega arith in
    let g : at + 3 ≡ suc (suc (suc at)) = omega arith in
    λ i. set (set (set (set s at x) (e i) y) (f i) z) (g i) w

-- ---- values one after another, each in n bytes

each_length : (n : ℕ) (vs : List ℕ) → length (each_in n vs) ≡ n * length vs
each_length n [] = sym (mul-zero n)
each_length n (v ∷ vs) = rw (length-append, bytes_length n v, each_length n vs, mul-suc) (omega arith)

each_more : (n : ℕ) (vs us : List ℕ) → each_in n (vs ++ us) ≡ each_in n vs ++ each_in n us
each_more n [] us = refl
each_more n (v ∷ vs) us = rw (each_more n vs us) (sym (append_assoc (bytes_of n v) (each_in n vs) (each_in n us)))

-- one more of them
pub one_more : (n at k : ℕ) (vs s : List ℕ) → k < length vs → put (at + n * k) (bytes_of n (get_or vs k 0)) (put at (each_in n (take k vs)) s) ≡ put at (each_in n (take (k + 1) vs)) s
one_more n at k vs s h =
    let l : length (each_in n (take k vs)) ≡ n * k = each_length n (take k vs) ∙ ap (n *◌) (length-take-le k vs (omega arith)) in
    let e : take (k + 1) vs ≡ take k vs ++ get_or vs k 0 ∷ [] = rw add-one (take-suc vs k 0 h) in
    let m : each_in n (take (k + 1) vs) ≡ each_in n (take k vs) ++ bytes_of n (get_or vs k 0) =
    ap (each_in n) e ∙ each_more n (take k vs) (get_or vs k 0 ∷ []) ∙ ap (each_in n (take k vs) ++◌) (append-nil (bytes_of n (get_or vs k 0))) in
    ap (λ (d : ℕ). put (at + d) (bytes_of n (get_or vs k 0)) (put at (each_in n (take k vs)) s)) (sym l)
    ∙ put_then at (each_in n (take k vs)) (bytes_of n (get_or vs k 0)) s ∙ ap (λ (bs : List ℕ). put at bs s) (sym m)

pub first_more : (n k : ℕ) (vs s : List ℕ) → k < length vs → put (n * k) (bytes_of n (get_or vs k 0)) (put 0 (each_in n (take k vs)) s) ≡ put 0 (each_in n (take (k + 1) vs)) s
first_more n k vs s h =
    ap (λ (d : ℕ). put d (bytes_of n (get_or vs k 0)) (put 0 (each_in n (take k vs)) s)) (sym (zero-add (n * k))) ∙ one_more n 0 k vs s h

pub byte_more : (at k : ℕ) (vs s : List ℕ) {t : List ℕ} → k < length vs → t ≡ put at (each_in 1 (take k vs)) s
    → set t (at + k) (get_or vs k 0 % 256) ≡ put at (each_in 1 (take (k + 1) vs)) s
unfolding put
byte_more at k vs s h e = rw e (rw one-mul at (one_more 1 at k vs s h))

pub words_and_bytes : (vs us s : List ℕ) (n : ℕ) → n ≡ length vs → put (4 * n) (each_in 1 us) (put 0 (each_in 4 vs) s) ≡ put 0 (each_in 4 vs ++ each_in 1 us) s
words_and_bytes vs us s n e =
    ap (λ (d : ℕ). put d (each_in 1 us) (put 0 (each_in 4 vs) s)) (ap (4 *◌) e ∙ sym (each_length 4 vs) ∙ sym (zero-add (length (each_in 4 vs)))) ∙ put_then 0 (each_in 4 vs) (each_in 1 us) s

-- the words of an inline header are its bytes
words_are : (layout : Layout) (x : ℕ) → laid (word_sizes layout) (words_of 4 x) ≡ bytes_of (size_of layout) x
unfolding laid
words_are lay.Legacy16 x = words_bytes 4 x
words_are lay.Modern12 x = words_bytes 3 x

pub header_put_lem : (layout : Layout) (vs : List ℕ) (at : ℕ) (s : List ℕ) {ws t : List ℕ} → ws ≡ words_of 4 (inline_number layout vs)
    → t ≡ put at (laid (word_sizes layout) (four_of ws)) s → t ≡ put at (inline_bytes layout vs) s
unfolding inline_bytes
header_put_lem layout vs at s p q =
    q ∙ ap (λ (bs : List ℕ). put at bs s) (ap (λ (ws : List ℕ). laid (word_sizes layout) (four_of ws)) p ∙ words_are layout (inline_number layout vs))

-- ---- bytes that are just as many

-- all of them are put
put_all : (bs b : List ℕ) → length b ≡ length bs → put 0 bs b ≡ bs
unfolding put
put_all bs b e =
    let k : length b ≤ 0 + length bs = omega arith in
    sets-eq bs b 0 (omega arith) ∙ ap (λ (u : List ℕ). bs ++ u) (drop_of_length-le b k) ∙ append-nil bs

header_length : (layout : Layout) (ws : List ℕ) → length (laid (word_sizes layout) (four_of ws)) ≡ size_of layout
unfolding laid
header_length lay.Legacy16 ws = refl
header_length lay.Modern12 ws = refl

large_length : (layout : Layout) (w : List ℕ) → length (large_bytes layout (values_in layout w)) ≡ large_of layout
unfolding laid large_bytes values_in
large_length lay.Legacy16 w = refl
large_length lay.Modern12 w = refl

module _ (layout : Layout) (w b : List ℕ) where
  pub header_none : (length b ≡ size_of layout → ⊥) → b ≡ header_put layout w b
  unfolding header_put
  header_none n = not_chosen (eqb (length b) (size_of layout)) (laid (word_sizes layout) (four_of w)) b (ne_eqb (length b) (size_of layout) n) refl

  pub header_whole : length b ≡ size_of layout → put 0 (laid (word_sizes layout) (four_of w)) b ≡ header_put layout w b
  unfolding header_put
  header_whole e =
      is_chosen (eqb (length b) (size_of layout)) (laid (word_sizes layout) (four_of w)) b (eq-eqb (length b) (size_of layout) e)
      (put_all (laid (word_sizes layout) (four_of w)) b (e ∙ sym (header_length layout w)))

  pub large_none : (length b ≡ large_of layout → ⊥) → b ≡ large_put layout w b
  unfolding large_put
  large_none n = not_chosen (eqb (length b) (large_of layout)) (large_bytes layout (values_in layout w)) b (ne_eqb (length b) (large_of layout) n) refl

  pub large_whole : length b ≡ large_of layout → put 0 (large_bytes layout (values_in layout w)) b ≡ large_put layout w b
  unfolding large_put
  large_whole e =
      is_chosen (eqb (length b) (large_of layout)) (large_bytes layout (values_in layout w)) b (eq-eqb (length b) (large_of layout) e)
      (put_all (large_bytes layout (values_in layout w)) b (e ∙ sym (large_length layout w)))

  -- by layout
  pub legacy_header : layout ≡ lay.Legacy16 → length b ≡ size_of layout → length w ≡ 4 → put 0 (each_in 4 w) b ≡ header_put layout w b
  unfolding laid
  legacy_header e l k =
      let f : each_in 4 w ≡ laid (word_sizes layout) (four_of w) = rw (e, of_four w k) in
      ap (λ (bs : List ℕ). put 0 bs b) f ∙ header_whole l

  pub modern_header : layout ≡ lay.Modern12 → length b ≡ size_of layout → put 0 (each_in 4 (get_or w 0 0 ∷ get_or w 1 0 ∷ get_or w 2 0 ∷ [])) b ≡ header_put layout w b
  unfolding laid
  modern_header e l =
      let f : each_in 4 (get_or w 0 0 ∷ get_or w 1 0 ∷ get_or w 2 0 ∷ []) ≡ laid (word_sizes layout) (four_of w) = rw e in
      ap (λ (bs : List ℕ). put 0 bs b) f ∙ header_whole l

  pub legacy_large : layout ≡ lay.Legacy16 → length b ≡ large_of layout
      → put 0 (each_in 4 (get_or w 2 0 ∷ get_or w 3 0 ∷ get_or w 4 0 ∷ get_or w 5 0 ∷ get_or w 6 0 ∷ get_or w 7 0 ∷ get_or w 9 0 ∷ [])
      ++ each_in 1 (get_or w 10 0 ∷ get_or w 11 0 ∷ get_or w 8 0 ∷ [])) b ≡ large_put layout w b
  unfolding laid large_bytes values_in
  legacy_large e l =
      let f : each_in 4 (get_or w 2 0 ∷ get_or w 3 0 ∷ get_or w 4 0 ∷ get_or w 5 0 ∷ get_or w 6 0 ∷ get_or w 7 0 ∷ get_or w 9 0 ∷ [])
      ++ each_in 1 (get_or w 10 0 ∷ get_or w 11 0 ∷ get_or w 8 0 ∷ []) ≡ large_bytes layout (values_in layout w) = rw e in
      ap (λ (bs : List ℕ). put 0 bs b) f ∙ large_whole l

  pub modern_large : layout ≡ lay.Modern12 → length b ≡ large_of layout
      → put 0 (each_in 4 (get_or w 2 0 ∷ get_or w 3 0 ∷ get_or w 9 0 ∷ get_or w 4 0 ∷ get_or w 5 0 ∷ get_or w 10 0 ∷ get_or w 11 0 ∷ get_or w 7 0 ∷ [])
      ++ each_in 1 (get_or w 12 0 ∷ get_or w 13 0 ∷ get_or w 14 0 ∷ get_or w 15 0 ∷ get_or w 8 0 ∷ [])) b ≡ large_put layout w b
  unfolding laid large_bytes values_in
  modern_large e l =
      let f : each_in 4 (get_or w 2 0 ∷ get_or w 3 0 ∷ get_or w 9 0 ∷ get_or w 4 0 ∷ get_or w 5 0 ∷ get_or w 10 0 ∷ get_or w 11 0 ∷ get_or w 7 0 ∷ [])
      ++ each_in 1 (get_or w 12 0 ∷ get_or w 13 0 ∷ get_or w 14 0 ∷ get_or w 15 0 ∷ get_or w 8 0 ∷ []) ≡ large_bytes layout (values_in layout w) = rw e in
      ap (λ (bs : List ℕ). put 0 bs b) f ∙ large_whole l

-- ---- a part of a buffer, lent and given back

module _ (at n : ℕ) (b : List ℕ) (h : at + n ≤ length b) where
  part_length : length (take (at + n - at) (drop at b)) ≡ n
  part_length =
      let k : at + n - at ≤ length (drop at b) = rw length-drop (omega arith) in
      length-take-le (at + n - at) (drop at b) k ∙ omega arith

  part_put : (bs : List ℕ) → length bs ≡ n → put_mid at (at + n - at) b bs ≡ put at bs b
  unfolding put
  part_put bs e =
      let m : at + (at + n - at) ≡ at + n = omega arith in
      let l : at + length bs ≤ length b = omega arith in
      sym (rw (drop-drop, m, sets-eq bs b at l, e, append_assoc))

module _ (layout : Layout) (at : ℕ) (w b : List ℕ) {r : List ℕ} where
  pub header_part : at + size_of layout ≤ length b → r ≡ header_put layout w (take (at + size_of layout - at) (drop at b))
      → put_mid at (at + size_of layout - at) b r ≡ put at (laid (word_sizes layout) (four_of w)) b
  header_part h e =
      let l = part_length at (size_of layout) b h in
      ap (put_mid at (at + size_of layout - at) b)
      (e ∙ sym (header_whole layout w (take (at + size_of layout - at) (drop at b)) l)
      ∙ put_all (laid (word_sizes layout) (four_of w)) (take (at + size_of layout - at) (drop at b)) (l ∙ sym (header_length layout w)))
      ∙ part_put at (size_of layout) b h (laid (word_sizes layout) (four_of w)) (header_length layout w)

  pub large_part : at + large_of layout ≤ length b → r ≡ large_put layout w (take (at + large_of layout - at) (drop at b))
      → put_mid at (at + large_of layout - at) b r ≡ put at (large_bytes layout (values_in layout w)) b
  large_part h e =
      let l = part_length at (large_of layout) b h in
      ap (put_mid at (at + large_of layout - at) b)
      (e ∙ sym (large_whole layout w (take (at + large_of layout - at) (drop at b)) l)
      ∙ put_all (large_bytes layout (values_in layout w)) (take (at + large_of layout - at) (drop at b)) (l ∙ sym (large_length layout w)))
      ∙ part_put at (large_of layout) b h (large_bytes layout (values_in layout w)) (large_length layout w)
