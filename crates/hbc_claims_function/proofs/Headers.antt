-- A header whose bytes stand in a file is read as the values that they were made of, in either layout.
use Prim.Native.Nat.{ℕ, zero, suc, ◌+◌, ◌*◌, ◌/◌, ◌%◌, ◌^◌, ◌≤◌, ◌<◌}
use mathlib.Core.Path.{◌≡◌, refl, sym, ap, ◌∙◌}
use mathlib.Core.List.{List, [], ◌∷◌}
use mathlib.Core.Bool.{Bool, true, false, not, cond}
use native.Mathlib.Nat.{div-add-mod', mod-mod, add-zero, add_assoc}
use native.Mathlib.Omega.{arith}
use lib.Bits.{or_shifted}
use lib.ListN.{length, get_or, take, drop}
use lib.Seq.{drop-cons}
use lib.Dec.{ltb, eqb}
use borrow.Author.Tests.{lt-ltb, ltb-true, eqb-true}
use Rattle.hbc_bits.specs.Bits.{le_at, field}
use Rattle.hbc_bits.specs.Fields.{fields_of, joined, fit, bytes_of, laid}
use Rattle.hbc_bits.proofs.Fields.{both, side_by_side, cut_joined, joined_lt, bytes_length}
use Rattle.hbc_rows.proofs.Puts.{Stands, stands_le, stands_first, stands_then}
use Rattle.hbc_function_record.specs.declared.Layout.{Layout}
use Rattle.hbc_function_record.specs.declared.Layout.TheVariants as lay
use Rattle.hbc_function_record.specs.declared.Record.{Record}
use Rattle.hbc_function_record.specs.declared.Record.TheVariants as rec
use Rattle.hbc_function_record.specs.Record.{size_of, large_of, legacy_by, modern_by, legacy_of, modern_of, inline_of, legacy_large, modern_large, large_at, flags_of, overflowed, legacy_place, modern_place, place_of}
use Rattle.hbc_function_record.specs.Row.{width, record_width, ROW_LAYOUT, ROW_ID, ROW_FLAGS, number_in, legacy_words, modern_words, record_words}
use Rattle.hbc_function_record.specs.BitLayout.{fields_in}
use Rattle.hbc_function_bytes.specs.Bytes.{sizes_in, words_at, values_in, info_free, goes_inline, inline_number, inline_bytes, large_bytes, pointer_to, each, byte_wide, zeros_in, right_row}
use Rattle.hbc_function_bytes.proofs.Sums.{info_of}
use Rattle.hbc_function_write.specs.Write.{rounded, says_end}

-- ---- values that stand one after another

-- those of these sizes, from d bytes after a place on
abbrev values_at : List ℕ → List ℕ → ℕ → ℕ → List ℕ
values_at [] s at d = []
values_at (n ∷ ns) s at d = le_at s (at + d) n ∷ values_at ns s at (d + n)

-- as many values as sizes, and each fits its bytes
abbrev layable : List ℕ → List ℕ → Bool
layable [] [] = true
layable [] (v ∷ vs) = false
layable (n ∷ ns) [] = false
layable (n ∷ ns) (v ∷ vs) = cond (ltb v (256 ^ n)) (layable ns vs) false

-- values that were laid are read back
laid_back : {s : List ℕ} (at d : ℕ) (ns vs : List ℕ) → Stands s (at + d) (laid ns vs) → layable ns vs ≡ true → values_at ns s at d ≡ vs
unfolding laid
laid_back at d [] [] v h = refl
laid_back at d [] (x ∷ vs) v h = let z : ◌≡◌ {A = ℕ} 0 1 = cc in absurd (omega arith)
laid_back at d (n ∷ ns) [] v h = let z : ◌≡◌ {A = ℕ} 0 1 = cc in absurd (omega arith)
laid_back {s} at d (n ∷ ns) (x ∷ vs) v h =
    let u = both (ltb x (256 ^ n)) h in
    let here : le_at s (at + d) n ≡ x = stands_le n x (stands_first (bytes_of n x) (laid ns vs) v) (ltb-true x (256 ^ n) u.0) in
    let next : Stands s (at + d + n) (laid ns vs) = rw (bytes_length n x) at (stands_then (bytes_of n x) (laid ns vs) v) in
    let rest : values_at ns s at (d + n) ≡ vs = laid_back at (d + n) ns vs (rw add_assoc at next) u.1 in
    λ i. here i ∷ rest i

-- ---- a record by its values, as the reader makes it

-- legacy takes info_offset from the values
abbrev pub record_by : Layout → ℕ → ℕ → List ℕ → Record
record_by lay.Legacy16 i info vs = rec.Legacy (legacy_by i vs)
record_by lay.Modern12 i info vs = rec.Modern (modern_by i info vs)

inline-by : (layout : Layout) (i n : ℕ) → inline_of layout i n ≡ record_by layout i 0 (fields_of (fields_in layout) n)
unfolding inline_of legacy_of modern_of
inline-by lay.Legacy16 i n = refl
inline-by lay.Modern12 i n = refl

large_by : (s : List ℕ) (layout : Layout) (at i : ℕ) → large_at s layout at i ≡ record_by layout i (rounded (at + large_of layout)) (values_at (sizes_in layout) s at 0)
unfolding large_at legacy_large modern_large legacy_by modern_by
large_by s lay.Legacy16 at i = rw (add-zero at)
large_by s lay.Modern12 at i = rw (add-zero at)

-- ---- headers that stand

-- the fields lie side by side, and fill the header
pub side : (layout : Layout) → side_by_side 0 (fields_in layout) (8 * size_of layout) ≡ true
unfolding side_by_side
side lay.Legacy16 = refl
side lay.Modern12 = refl

bits_bytes : (layout : Layout) (n : ℕ) → n < 2 ^ (8 * size_of layout) → n < 256 ^ size_of layout
bits_bytes lay.Legacy16 n h = h
bits_bytes lay.Modern12 n h = h

-- an inline header
pub inline_stands : {s : List ℕ} {at : ℕ} (layout : Layout) (i : ℕ) (vs : List ℕ) → Stands s at (inline_bytes layout vs) → fit (fields_in layout) vs ≡ true
    → inline_of layout i (le_at s at (size_of layout)) ≡ record_by layout i 0 vs
unfolding inline_bytes inline_number
inline_stands {s} {at} layout i vs v h =
    let l = bits_bytes layout (joined (fields_in layout) vs) (joined_lt (8 * size_of layout) (fields_in layout) vs (side layout) h) in
    ap (inline_of layout i) (stands_le (size_of layout) (joined (fields_in layout) vs) v l) ∙ inline-by layout i (joined (fields_in layout) vs)
    ∙ ap (record_by layout i 0) (cut_joined (8 * size_of layout) (fields_in layout) vs (side layout) h)

-- a large one
pub large_stands : {s : List ℕ} {at : ℕ} (layout : Layout) (i : ℕ) (vs : List ℕ) → Stands s at (large_bytes layout vs) → layable (sizes_in layout) vs ≡ true
    → large_at s layout at i ≡ record_by layout i (rounded (at + large_of layout)) vs
unfolding large_bytes
large_stands {s} {at} layout i vs v h =
    large_by s layout at i ∙ ap (record_by layout i (rounded (at + large_of layout))) (laid_back at 0 (sizes_in layout) vs (rw (add-zero at) v) h)

-- ---- the inline header that says where a large one is

module _ (place : ℕ) (h : place < 2 ^ 30) where
  pub pointer_fits : (layout : Layout) → fit (fields_in layout) (pointer_to layout place) ≡ true
  unfolding fit pointer_to
  pointer_fits lay.Legacy16 = rw (lt-ltb (place % 65536) 33554432 (omega arith), lt-ltb (place / 65536) 33554432 (omega arith))
  pointer_fits lay.Modern12 = rw (lt-ltb (place % 16777216) 33554432 (omega arith), lt-ltb (place / 16777216) 256 (omega arith))

  -- the parts that it packs or to the place
  pub pointer_place : (layout : Layout) (i info : ℕ) → place_of (record_by layout i info (pointer_to layout place)) ≡ place
  unfolding place_of legacy_place modern_place legacy_by modern_by pointer_to
  pointer_place lay.Legacy16 i info = rw (or_shifted (place / 65536) 16 (place % 65536) (omega arith)) (div-add-mod' place 65536)
  pointer_place lay.Modern12 i info =
      rw (mod-mod place 16777216, or_shifted (place / 16777216) 24 (place % 16777216) (omega arith)) (div-add-mod' place 16777216)

  pub pointer_flagged : (layout : Layout) (i info : ℕ) → overflowed (flags_of (record_by layout i info (pointer_to layout place))) ≡ true
  unfolding overflowed field flags_of legacy_by modern_by pointer_to
  pointer_flagged lay.Legacy16 i info = refl
  pointer_flagged lay.Modern12 i info = refl

-- ---- a row

row_flags : (layout : Layout) (i info : ℕ) (w : List ℕ) → flags_of (record_by layout i info (values_in layout w)) ≡ get_or w ROW_FLAGS 0
unfolding flags_of legacy_by modern_by values_in
row_flags lay.Legacy16 i info w = refl
row_flags lay.Modern12 i info w = refl

not_set : (b : Bool) → not b ≡ true → b ≡ false
not_set true h = let z : ◌≡◌ {A = ℕ} 0 1 = cc in absurd (omega arith)
not_set false h = refl

no_info : (layout : Layout) (w : List ℕ) → info_free layout w ≡ true → 0 ≡ info_of layout w
no_info lay.Legacy16 w h = refl
no_info lay.Modern12 w h = sym (eqb-true (get_or w 6 0) 0 h)

-- what goes inline fits, is not flagged, and says no info_offset that its header does not hold
module _ (layout : Layout) (w : List ℕ) (h : goes_inline layout w ≡ true) where
  pub inline_fits : fit (fields_in layout) (values_in layout w) ≡ true
  unfolding goes_inline
  inline_fits = (both (fit (fields_in layout) (values_in layout w)) h).0

  pub inline_own : (i info : ℕ) → overflowed (flags_of (record_by layout i info (values_in layout w))) ≡ false
  unfolding goes_inline
  inline_own i info =
      rw (row_flags layout i info w)
      (not_set (overflowed (get_or w ROW_FLAGS 0)) (both (not (overflowed (get_or w ROW_FLAGS 0))) (both (fit (fields_in layout) (values_in layout w)) h).1).0)

  pub inline_info : 0 ≡ info_of layout w
  unfolding goes_inline
  inline_info =
      no_info layout w
      (both (info_free layout w) (both (not (overflowed (get_or w ROW_FLAGS 0))) (both (fit (fields_in layout) (values_in layout w)) h).1).1).0

-- a large row says the info_offset that its place gives
pub large_info : (layout : Layout) (i : ℕ) (w vs : List ℕ) (end : ℕ) → says_end layout w end ≡ true → record_by layout i end vs ≡ record_by layout i (info_of layout w) vs
large_info lay.Legacy16 i w vs end h = refl
large_info lay.Modern12 i w vs end h = ap (λ (n : ℕ). record_by lay.Modern12 i n vs) (sym (eqb-true (get_or w 6 0) end h))

-- n words of a list, one by one, from word d on
abbrev listed : ℕ → ℕ → List ℕ → List ℕ
listed d zero w = []
listed d (suc n) w = get_or w d 0 ∷ listed (suc d) n w

listed_part : (n d : ℕ) (w : List ℕ) → d + n ≤ length w → listed d n w ≡ take n (drop d w)
listed_part zero d w h = refl
listed_part (suc n) d w h = rw (drop-cons w d 0 (omega arith)) (ap (get_or w d 0 ∷◌) (listed_part n (suc d) w (omega arith)))

row_listed : (w : List ℕ) → length w ≡ width → listed 0 record_width w ≡ take record_width w
row_listed w l = listed_part record_width 0 w (omega arith)

right_parts : (layout : Layout) (i : ℕ) (w : List ℕ) → right_row layout i w ≡ true
    → (get_or w ROW_LAYOUT 0 ≡ number_in layout) × (get_or w ROW_ID 0 ≡ i) × (each (λ v. ltb v 256) (words_at (byte_wide layout) w) ≡ true)
    × (each (λ v. eqb v 0) (words_at (zeros_in layout) w) ≡ true)
unfolding right_row
right_parts layout i w h =
    let a = both (eqb (get_or w ROW_LAYOUT 0) (number_in layout)) h in
    let b = both (eqb (get_or w ROW_ID 0) i) a.1 in
    let c = both (each (λ v. ltb v 256) (words_at (byte_wide layout) w)) b.1 in
    let d = both (each (λ v. eqb v 0) (words_at (zeros_in layout) w)) c.1 in
    (eqb-true (get_or w ROW_LAYOUT 0) (number_in layout) a.0, eqb-true (get_or w ROW_ID 0) i b.0, c.0, d.0)

-- the words of its record are the row's first
pub row_back : (layout : Layout) (i : ℕ) (w : List ℕ) → length w ≡ width → right_row layout i w ≡ true
    → record_words (record_by layout i (info_of layout w) (values_in layout w)) ≡ take record_width w
unfolding legacy_words modern_words legacy_by modern_by values_in
row_back lay.Legacy16 i w l h =
    let p = right_parts lay.Legacy16 i w h in
    let a = both (eqb (get_or w 12 0) 0) p.3 in
    let b = both (eqb (get_or w 13 0) 0) a.1 in
    let c = both (eqb (get_or w 14 0) 0) b.1 in
    let d = both (eqb (get_or w 15 0) 0) c.1 in
    let e0 = p.0 in
    let e1 = p.1 in
    let e5 = eqb-true (get_or w 12 0) 0 a.0 in
    let e6 = eqb-true (get_or w 13 0) 0 b.0 in
    let e7 = eqb-true (get_or w 14 0) 0 c.0 in
    let e8 = eqb-true (get_or w 15 0) 0 d.0 in
    sym (sym (row_listed w l)
    ∙ (λ j. e0 j ∷ e1 j ∷ get_or w 2 0 ∷ get_or w 3 0 ∷ get_or w 4 0 ∷ get_or w 5 0 ∷ get_or w 6 0 ∷ get_or w 7 0 ∷ get_or w 8 0 ∷ get_or w 9 0 ∷ get_or w 10 0 ∷ get_or w 11 0
    ∷ e5 j ∷ e6 j ∷ e7 j ∷ e8 j ∷ []))
row_back lay.Modern12 i w l h =
    let p = right_parts lay.Modern12 i w h in
    let e0 = p.0 in
    let e1 = p.1 in
    sym (sym (row_listed w l)
    ∙ (λ j. e0 j ∷ e1 j ∷ get_or w 2 0 ∷ get_or w 3 0 ∷ get_or w 4 0 ∷ get_or w 5 0 ∷ get_or w 6 0 ∷ get_or w 7 0 ∷ get_or w 8 0 ∷ get_or w 9 0 ∷ get_or w 10 0 ∷ get_or w 11 0
    ∷ get_or w 12 0 ∷ get_or w 13 0 ∷ get_or w 14 0 ∷ get_or w 15 0 ∷ []))

-- its values fit a large header: every word is a u32, and those of one byte are below 256
pub row_layable : (layout : Layout) (i : ℕ) (w : List ℕ) → ((k : ℕ) → get_or w k 0 < 2 ^ 32) → right_row layout i w ≡ true → layable (sizes_in layout) (values_in layout w) ≡ true
unfolding values_in
row_layable lay.Legacy16 i w u h =
    let a = both (ltb (get_or w 10 0) 256) (right_parts lay.Legacy16 i w h).2 in
    let b = both (ltb (get_or w 11 0) 256) a.1 in
    let c = both (ltb (get_or w 8 0) 256) b.1 in
    rw (
      lt-ltb (get_or w 2 0) 4294967296 (u 2),
      lt-ltb (get_or w 3 0) 4294967296 (u 3),
      lt-ltb (get_or w 4 0) 4294967296 (u 4),
      lt-ltb (get_or w 5 0) 4294967296 (u 5),
      lt-ltb (get_or w 6 0) 4294967296 (u 6),
      lt-ltb (get_or w 7 0) 4294967296 (u 7),
      lt-ltb (get_or w 9 0) 4294967296 (u 9),
      a.0,
      b.0,
      c.0,
    )
row_layable lay.Modern12 i w u h =
    let a = both (ltb (get_or w 12 0) 256) (right_parts lay.Modern12 i w h).2 in
    let b = both (ltb (get_or w 13 0) 256) a.1 in
    let c = both (ltb (get_or w 14 0) 256) b.1 in
    let d = both (ltb (get_or w 15 0) 256) c.1 in
    let e = both (ltb (get_or w 8 0) 256) d.1 in
    rw (
      lt-ltb (get_or w 2 0) 4294967296 (u 2),
      lt-ltb (get_or w 3 0) 4294967296 (u 3),
      lt-ltb (get_or w 9 0) 4294967296 (u 9),
      lt-ltb (get_or w 4 0) 4294967296 (u 4),
      lt-ltb (get_or w 5 0) 4294967296 (u 5),
      lt-ltb (get_or w 10 0) 4294967296 (u 10),
      lt-ltb (get_or w 11 0) 4294967296 (u 11),
      lt-ltb (get_or w 7 0) 4294967296 (u 7),
      a.0,
      b.0,
      c.0,
      d.0,
      e.0,
    )
